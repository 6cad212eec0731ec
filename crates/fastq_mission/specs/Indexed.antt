-- Demand 3 for FASTQ, its last sentence: the index lines of a file that our indexer takes to its end are accepted, if they too are within the limit.
-- Said for the file's rows by `index-accepted` and `index-checked`, and for the call, with a table of n rows, by `call-checked`. Each index line is what
-- the call that writes one writes of its row: `line-written`.
use Rattle.std.specs.Prelude.{ℕ, zero, suc, ◌≤◌, ◌<◌, ◌≡◌, refl, List, Bool, true, false, cond, length, take, ltb, Option, Some, None, Result, Ok, Err}
use borrow.Author.Tests.{ltb-false, le-ltb}
use Rattle.std.proofs.Common.{arith}
use Rattle.refusal.specs.declared.Refusal.{Refusal}
use Rattle.refusal.specs.Numbers.{over_limit}
use Rattle.refusal.specs.declared.Refusal.TheVariants.{TooLong, TableFull}
use Rattle.output.specs.Outcome.{gives}
use Rattle.table.specs.Rows.{named_of}
use Rattle.table.specs.RowLaws.{sound-row, name-inside}
use Rattle.index_line.specs.IndexLine.{name_in}
use Rattle.mission.specs.IndexedLaws.{text-written}
use Rattle.fastq.specs.Fastq as fastq
use Rattle.fastq.specs.Parts.{part_of}
use Rattle.fastq.specs.declared.Part.TheVariants.{Bases}
use Rattle.fastq.specs.declared.QualityRow.{QualityRow}
use Rattle.fastq_line.specs.SixColumns.{line_written}
use Rattle.fastq_line.specs.RoundTrip.{five_of, six_line_of}
use Rattle.fastq_table.specs.Rows.{row_count, with_rows, used_at, qualities_at}
use Rattle.fastq_table.specs.Fill.{Found, nothing, held_in}
use Rattle.table.specs.KindLaws.{held_all}
use Rattle.fastq_index.specs.File.{onwards, rows_of, rows_at, file_in}
use Rattle.checker.specs.Accepts.{limit}
use Rattle.fastq_checker.specs.Check.{check_of}
use Rattle.fastq_checker.specs.Accepts.{records_of, record_at, Accepts}
use Rattle.fastq_mission.specs.Exactly.{accepted-if}
use Rattle.fastq_index.specs.Taken.{record-taken}
use Rattle.fastq_mission.specs.Leads.{taken-leads}
use Rattle.fastq_mission.specs.TableRows.{bare, used-stored, qualities-stored}
use Rattle.fastq_mission.specs.Written.{line_in, index_text, AllLead, matched, line_at, line-count}

-- ---- of every file

-- its rows lead to their records
rows-lead : (k : ℕ) (f : List ℕ) (at : ℕ) → AllLead f (rows_of k f at).rows
unfolding rows_of
rows-lead zero f at r h = absurd (omega arith)
rows-lead (suc k) f at r h = go (fastq.record_at f at).answer refl (rows-lead k f (fastq.record_at f at).next) r h
  where
    go : (a : Result (Option QualityRow) Refusal) → (fastq.record_at f at).answer ≡ a → AllLead f (rows_of k f (fastq.record_at f at).next).rows → AllLead f (onwards a (rows_of k f (fastq.record_at f at).next)).rows
    go (Ok (Some x)) e more zero m = taken-leads (record-taken f at x e)
    go (Ok (Some x)) e more (suc r) m = more r (omega arith)
    go (Ok None) e more r m = absurd (omega arith)
    go (Err y) e more r m = absurd (omega arith)

pub file-leads : (f : List ℕ) → AllLead f (records_of f)
unfolding rows_at
file-leads f = rows-lead _ f 0

module _ (f : List ℕ) where
  -- the index lines of its rows
  abbrev text : List ℕ
  text = index_text f (records_of f)

  -- each index line is what the call writes of its row, if the table has all the rows and the output has room; the bytes behind it stay
  pub line-written : (t out : List ℕ) (k : ℕ) → length f ≤ limit → length (records_of f) ≤ row_count t → k < length (records_of f) → length (line_in f (record_at (records_of f) k)) ≤ length out
      → line_written f (named_of (length f) (used_at (with_rows t 0 (records_of f)) (length (records_of f)) k Bases)) (qualities_at (with_rows t 0 (records_of f)) k) out
      ≡ gives (line_in f (record_at (records_of f) k)) out
  unfolding line_written over_limit six_line_of named_of name_in part_of
  line-written t out k m e q r =
      let x : QualityRow = record_at (records_of f) k in
      let d = file-leads f k q in
      let l = d.lined (omega arith) in
      rw (
        le-ltb _ _ m,
        used-stored t (records_of f) e k q Bases,
        qualities-stored t (records_of f) e k q,
        ← sound-row k (bare (record_at (records_of f) k)).«record» (λ z. omega (arith, l.some-bases)) (λ z. omega (arith, l.some-width)),
        ← name-inside k (bare (record_at (records_of f) k)).«record» (length f) d.named (omega arith),
      )
      (text-written (name_in f x.«record») (five_of x) out d.unbroken r)

  -- the index lines of a file that is taken to its end are accepted, if they too are within the limit
  pub index-accepted : length f ≤ limit → (rows_at f 0).stop ≡ Ok tt → length text ≤ limit → Accepts f text
  index-accepted m e n =
      record {
        limits = record { fasta = m; index = n };
        taken = e;
        count = line-count f (records_of f) (file-leads f);
        each = λ k q. rw (line_at f (records_of f) (file-leads f) k q) (matched f (record_at (records_of f) k) (file-leads f k q) (omega arith) (suc k));
      }

  pub index-checked : length f ≤ limit → (rows_at f 0).stop ≡ Ok tt → length text ≤ limit → check_of f text ≡ Ok tt
  index-checked m e n = accepted-if f text (index-accepted m e n)

-- ---- of a call that takes a file to its end, with a table of n rows

-- the file is within the limit, the table has room for its rows, and they are all
pub record Whole (f : List ℕ) (n : ℕ) : Type 0 where
  pub fits : length f ≤ limit
  pub room : length (records_of f) ≤ n
  pub whole : file_in f n ≡ rows_at f 0
  pub ended : (rows_at f 0).stop ≡ Ok tt

held-ended : (n : ℕ) (r : Found) → (held_in n n r).stop ≡ Ok tt → length r.rows ≤ n
unfolding held_in
held-ended n r h = go (ltb n (length r.rows)) refl h
  where
    go : (t : Bool) → ltb n (length r.rows) ≡ t → (cond t (record { rows = take n r.rows; stop = Err (TableFull n) }) r).stop ≡ Ok tt → length r.rows ≤ n
    go true e k = let z : ◌≡◌ {A = ℕ} 0 1 = cc in absurd (omega arith)
    go false e k = ltb-false _ _ e

pub whole : (f : List ℕ) (n : ℕ) → (file_in f n).stop ≡ Ok tt → Whole f n
unfolding file_in over_limit
whole f n h = go (ltb limit (length f)) refl h
  where
    go : (t : Bool) → ltb limit (length f) ≡ t → (cond t (nothing (Err TooLong)) (held_in n n (rows_at f 0))).stop ≡ Ok tt → Whole f n
    go true e k = let z : ◌≡◌ {A = ℕ} 0 1 = cc in absurd (omega arith)
    go false e k =
        let r = held-ended n (rows_at f 0) k in
        let a = held_all n n (rows_at f 0) r in
        record { fits = ltb-false _ _ e; room = r; whole = rw e a; ended = rw a at k }

-- the checker accepts the index lines of its rows, within the limit
pub call-checked : (f : List ℕ) (n : ℕ) → (file_in f n).stop ≡ Ok tt → length (index_text f (file_in f n).rows) ≤ limit → check_of f (index_text f (file_in f n).rows) ≡ Ok tt
call-checked f n h small =
    let w = whole f n h in
    rw w.whole (index-checked f w.fits w.ended (rw w.whole at small))
