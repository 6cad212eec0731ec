-- What the calls of the other crates answer for a written record within the limit.
use Rattle.std.specs.Prelude.{ℕ, ◌+◌, ◌≤◌, ◌<◌, ◌≡◌, refl, List, [], ◌∷◌, Bool, false, take, Some, None, Ok}
use Rattle.std.proofs.Common.{le-ltb, arith}
use Rattle.std.proofs.Math.ListN.{length}
use Rattle.refusal.specs.Numbers.{over_limit}
use Rattle.lines.specs.Lines.{seq_at, all_bases}
use Rattle.definition.specs.Definition.{read_as, line_read}
use Rattle.output.specs.Outcome.{leaves}
use Rattle.indexer.specs.Index.{record_read}
use Rattle.indexer.specs.Rule.{call_by}
use Rattle.indexer.specs.File.{file_in}
use Rattle.table.specs.Fill.{held_in}
use Rattle.checker.specs.Accepts.{limit}
use Rattle.writer.specs.Text.{definition_text, record_text, record_written}
use Rattle.writer.specs.Reads.{definition_of, written-reads, call-put}
use Rattle.written.specs.Indexed.{row_worked, text-long, written-indexed}
use Rattle.written.specs.Files.{Item, text_of, file_text, rows_from, Written, files-indexed}

within : (n : ℕ) → n ≤ limit → over_limit n ≡ false
unfolding over_limit
within n h = le-ltb 1099511627776 n h

module _ (name : List ℕ) (t : Bool) (d bases : List ℕ) (w : ℕ) (out : List ℕ) (k : ℕ) (after : List ℕ) (h : record_written name t d bases w out ≡ leaves (Ok k) after) (m : k ≤ limit) where
  -- the definition line reads by its call, and the bases of what follows it are those given
  pub call-reads : (line_read (definition_text name t d) ≡ Ok (definition_of name t d)) × (all_bases (seq_at (take k after) (length (definition_text name t d))) ≡ bases)
  unfolding line_read read_as
  call-reads =
      let p = call-put name t d bases w out k after h in
      let r = written-reads name t d bases w p.writable in
      let n : length (definition_text name t d) ≤ limit = omega (arith, p.size, text-long name t d bases w) in
      (rw (within (length (definition_text name t d)) n, r.says), rw p.front r.bases-back)

  -- the indexer gives its row, and then the end
  pub call-indexed : 0 < length bases
      → (record_read (take k after) (record { at = 0 }) ≡ record { answer = Ok (Some (row_worked 0 name t d bases w)); next = record { at = k } })
      × (record_read (take k after) (record { at = k }) ≡ record { answer = Ok None; next = record { at = k } })
  unfolding record_read
  call-indexed some =
      let p = call-put name t d bases w out k after h in
      let i = written-indexed name t d bases w p.writable some in
      let n : length (record_text name t d bases w) ≤ limit = omega (arith, p.size) in
      (rw (p.front, within (length (record_text name t d bases w)) n, ← p.size) i.0, rw (p.front, within (length (record_text name t d bases w)) n, ← p.size) i.1)

-- a file of several, with a table of rows enough
rows_long : (xs : List Item) (at : ℕ) → length (rows_from at xs) ≡ length xs
unfolding rows_from
rows_long [] at = refl
rows_long (x ∷ xs) at = omega (arith, rows_long xs (at + length (text_of x)))

pub files-call : (xs : List Item) → Written xs → (n : ℕ) → length (file_text xs) ≤ limit → length xs ≤ n → file_in (file_text xs) n ≡ record { rows = rows_from 0 xs; stop = Ok tt }
unfolding call_by held_in
files-call xs z n m r =
    rw (within (length (file_text xs)) m, files-indexed xs z, le-ltb n (length (rows_from 0 xs)) (omega (arith, rows_long xs 0)))
