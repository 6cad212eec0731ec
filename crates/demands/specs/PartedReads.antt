-- Parts of a FASTQ file where a host meets them (R91): at wakeluri_fastq_index_part, called on a file within the limit from 0 on, and then from where the
-- call before it stopped, up to any offsets and with any tables. `reads-indexed`: if the last call does not answer 8, and goes up to the length or more or
-- is refused, what they tell, the rows of one call behind those of the other, and why there are no more, is what wakeluri_fastq_index tells with a
-- table that has room for it.
use Rattle.std.specs.Prelude.{ℕ, ◌+◌, ◌≤◌, ◌<◌, ◌≡◌, refl, List, ◌++◌, Bool, true, false, cond, length, take, ltb, Result, Ok, Err, ⊤}
use Rattle.std.proofs.Common.{ap, ◌∙◌, take_all, length-take-le, ltb-true, arith}
use Rattle.std.proofs.Math.Path.{sym}
use Rattle.refusal.specs.declared.Refusal.{Refusal}
use Rattle.refusal.specs.Numbers.{over_limit}
use Rattle.refusal.specs.declared.Refusal.TheVariants.{TableFull}
use Rattle.table.specs.Laws.{held_all}
use Rattle.table.specs.Numbers.{numbers_in}
use Rattle.output.specs.Outcome.{Outcome, leaves}
use Rattle.fastq.specs.declared.QualityRow.{QualityRow}
use Rattle.fastq_table.specs.Rows.{row_count}
use Rattle.fastq_table.specs.Fill.{Found, held_in}
use Rattle.fastq_index.specs.File.{rows_at, file_in}
use Rattle.fastq_index.specs.Part.{rows_before, behind, part_in}
use Rattle.fastq_index.specs.PartLaws.{part-whole}
use Rattle.fastq_index.specs.Joined.{stops-refused, file-resumed}
use Rattle.wakeluri.specs.declared.answer.Answer.{Answer}
use Rattle.wakeluri.specs.Answer.{filled_answer}
use Rattle.wakeluri.specs.Qualities.{stopped_at, part_told}
use Rattle.demands.specs.Parted.{held-room}

-- the call's promise, word for word: wakeluri_fastq_index_part(file, from, to, table) answers a, and leaves table'
abbrev pub FastqIndexPart : List ℕ → ℕ → ℕ → List ℕ → Answer → List ℕ → Type 0
FastqIndexPart file from to table a table' = leaves a table' ≡ part_told file from (part_in file from to (row_count (numbers_in table))) table

told-answer : (file : List ℕ) (from : ℕ) (f : Found) (table : List ℕ) (a : Answer) (table' : List ℕ) → leaves a table' ≡ part_told file from f table
    → a ≡ stopped_at (filled_answer (length f.rows) f.stop) (behind file (length f.rows) from)
unfolding part_told
told-answer file from f table a table' e = ap (λ (o : Outcome Answer). o.answer) e

-- a table holds the first of some rows
held-front : (n : ℕ) (f : Found) → (length (held_in n n f).rows ≤ length f.rows) × ((held_in n n f).rows ≡ take (length (held_in n n f).rows) f.rows)
unfolding held_in
held-front n f = go (ltb n (length f.rows)) refl
  where
    held : Bool → Found
    held t = cond t (record { rows = take n f.rows; stop = Err (TableFull n) }) f

    go : (t : Bool) → ltb n (length f.rows) ≡ t → (length (held t).rows ≤ length f.rows) × ((held t).rows ≡ take (length (held t).rows) f.rows)
    go true h =
        let l : n < length f.rows = ltb-true n (length f.rows) h in
        let e = length-take-le n f.rows (omega arith) in
        (omega (arith, e), ap (λ (k : ℕ). take k f.rows) (sym e))
    go false h = (omega arith, sym (take_all (length f.rows) f.rows (omega arith)))

-- an answer that is no refusal ended
ended-zero : (n : ℕ) → (filled_answer n (Ok tt)).refusal ≡ 0
unfolding filled_answer
ended-zero n = refl

module _ (file : List ℕ) (small : over_limit (length file) ≡ false) where
  part_held : (from to n : ℕ) → part_in file from to n ≡ held_in n n (rows_before file to from)
  unfolding part_in
  part_held from to n = rw small

  -- what a call tells, that is not 8, is all that its part gives
  part-all : (from to : ℕ) (table : List ℕ) (a : Answer) (table' : List ℕ) → FastqIndexPart file from to table a table' → (a.refusal ≡ 8 → ⊥)
      → part_in file from to (row_count (numbers_in table)) ≡ rows_before file to from
  part-all from to table a table' e eight =
      let n = row_count (numbers_in table) in
      let h = part_held from to n in
      let q = told-answer file from (part_in file from to n) table a table' e in
      h ∙ held-room n (rows_before file to from) (λ z. eight (rw (q, h) z))

  -- calls from an offset on, each from where the one before it stopped, and what they tell together
  pub data Told : ℕ → Found → Type 0 where
    on : (from to : ℕ) (table : List ℕ) (a : Answer) (table' : List ℕ) (g : Found) → FastqIndexPart file from to table a table' → Told a.next g
        → Told from (record { rows = (part_in file from to (row_count (numbers_in table))).rows ++ g.rows; stop = g.stop })
    whole : (from to : ℕ) (table : List ℕ) (a : Answer) (table' : List ℕ) → FastqIndexPart file from to table a table' → (a.refusal ≡ 8 → ⊥) → length file ≤ to
        → Told from (part_in file from to (row_count (numbers_in table)))
    refused : (from to : ℕ) (table : List ℕ) (a : Answer) (table' : List ℕ) → FastqIndexPart file from to table a table' → (a.refusal ≡ 8 → ⊥) → (a.refusal ≡ 0 → ⊥)
        → Told from (part_in file from to (row_count (numbers_in table)))

  -- some rows, and on from there
  more : (from to n : ℕ) (next : ℕ) (g : Found) → next ≡ behind file (length (part_in file from to n).rows) from → g ≡ rows_at file next
      → record { rows = (part_in file from to n).rows ++ g.rows; stop = g.stop } ≡ rows_at file from
  more from to n next g p q =
      let f = rows_before file to from in
      let h = part_held from to n in
      let v = held-front n f in
      let k = length (held_in n n f).rows in
      let e : g ≡ rows_at file (behind file k from) = q ∙ ap (rows_at file) (p ∙ ap (λ (r : Found). behind file (length r.rows) from) h) in
      ap (λ (r : Found). record { rows = r.rows ++ g.rows; stop = g.stop }) h
      ∙ ap (λ (r : Found). record { rows = (held_in n n f).rows ++ r.rows; stop = r.stop }) e
      ∙ ap (λ (xs : List QualityRow). record { rows = xs ++ (rows_at file (behind file k from)).rows; stop = (rows_at file (behind file k from)).stop }) v.1
      ∙ sym (file-resumed file to k from v.0)

  -- a part that was refused is the file's
  all-refused : (from to : ℕ) (x : Result ⊤ Refusal) → (rows_before file to from).stop ≡ x → ((filled_answer (length (rows_before file to from).rows) x).refusal ≡ 0 → ⊥) → rows_before file to from ≡ rows_at file from
  all-refused from to (Ok tt) e h = absurd (h (ended-zero _))
  all-refused from to (Err y) e h = sym (stops-refused file to (to + length file) (omega arith) from y e).0 ∙ part-whole file (to + length file) from (omega arith)

  told-rows : (from : ℕ) (f : Found) → Told from f → f ≡ rows_at file from
  told-rows from _ (on _ to table a table' g e r) =
      let q = told-answer file from (part_in file from to (row_count (numbers_in table))) table a table' e in
      more from to (row_count (numbers_in table)) a.next g (ap (λ (b : Answer). b.next) q) (told-rows a.next g r)
  told-rows from _ (whole _ to table a table' e eight h) = part-all from to table a table' e eight ∙ part-whole file to from h
  told-rows from _ (refused _ to table a table' e eight zero) =
      let p = part-all from to table a table' e eight in
      let q = told-answer file from (part_in file from to (row_count (numbers_in table))) table a table' e in
      p ∙ all-refused from to (rows_before file to from).stop refl (λ z. zero (rw (q, p) z))

  pub reads-indexed : (f : Found) → Told 0 f → (rows : ℕ) → length f.rows ≤ rows → file_in file rows ≡ f
  unfolding file_in
  reads-indexed f t rows room =
      let e = told-rows 0 f t in
      rw small (held_all rows rows (rows_at file 0) (rw e at room) ∙ sym e)
