-- Demand 3, its last sentence: the index lines of a file that our indexer takes to its end are accepted, if they too are within the limit.
-- Said for the file's rows by `index-accepted` and `index-checked`, and for the call, with a table of n rows, by `call-checked`.
--
-- And what such an index is. Row k describes record k of the file, by counts over the line rule, down to the place of every base; a file
-- that is taken to its end has a row for each record: `rows-counted`, `call-counted`. Each index line is what the call that writes one
-- writes of its row: `line-written`. The whole-index call reads the lines back to the same names and numbers: `rows-read-back`,
-- `call-read-back`.
use Rattle.std.specs.Prelude.{ℕ, ◌^◌, ◌≤◌, ◌<◌, ◌≡◌, List, length, Ok}
use Rattle.std.proofs.Common.{arith, zero-add}
use Rattle.table.specs.Rows.{row_count, with_rows}
use Rattle.record.specs.declared.Record.{Record}
use Rattle.output.specs.Outcome.{gives}
use Rattle.index_line.specs.IndexLine.{written_as}
use Rattle.indexer.specs.Index.{ported}
use Rattle.indexer.specs.File.{file_at, file_in}
use Rattle.index.specs.Index.{index_at, index_in}
use Rattle.checker.specs.Check.{check_of}
use Rattle.checker.specs.Accepts.{limit, Accepts}
use Rattle.checker.specs.Exactly.{accepted-if}
use Rattle.mission.specs.IndexedLaws.{along-at, along-most, along-all, taken, index-whole}
use Rattle.mission.specs.Leading.{line_in, index_text, no_row, row_in, SameRows, leading-written, leading-read-back, leading-accepted}
use Rattle.mission.specs.Describes.{RowsDescribe}
use Rattle.mission.specs.DescribesLaws.{file-described, file-leads}

-- ---- of every file

-- its rows describe its records
pub rows-counted : (f : List ℕ) → RowsDescribe f (file_at f 0)
rows-counted f =
    let h = file-described f in
    record { each = λ k m. rw zero-add at (along-at h no_row k m); most = along-most h; all = along-all h }

module _ (f : List ℕ) where
  -- its rows, and their index lines
  abbrev rows : List Record
  rows = (file_at f 0).rows

  abbrev text : List ℕ
  text = index_text f (file_at f 0).rows

  -- each index line is what the call writes of its row, if the table has all the rows and the output has room; the bytes behind it stay
  pub line-written : (t out : List ℕ) (k : ℕ) → length f ≤ limit → length rows ≤ row_count t → k < length rows → length (line_in f (row_in rows k)) ≤ length out
      → written_as f (with_rows t 0 rows) (length rows) k out ≡ gives (line_in f (row_in rows k)) out
  line-written = leading-written f rows (file_at f 0).stop (file-leads f)

  -- the index lines read back to rows with the same names and the same four numbers
  pub rows-read-back : length f < 2 ^ 64 → SameRows f text rows (index_at text 1 0)
  rows-read-back = leading-read-back f rows (file_at f 0).stop (file-leads f)

  -- the index lines of a file that is taken to its end are accepted, if they too are within the limit
  pub index-accepted : length f ≤ limit → (file_at f 0).stop ≡ Ok tt → length text ≤ limit → Accepts f text
  index-accepted m e n = leading-accepted f rows (file_at f 0).stop (file-leads f) e m n

  pub index-checked : length f ≤ limit → (file_at f 0).stop ≡ Ok tt → length text ≤ limit → check_of f text ≡ Ok tt
  index-checked m e n = accepted-if f text (index-accepted m e n)

-- ---- of a call that takes a file to its end, with a table of n rows

module _ (f : List ℕ) (n : ℕ) (ended : (file_in f n).stop ≡ Ok tt) where
  -- it gives a row for each record
  pub call-counted : RowsDescribe f (file_in f n)
  call-counted = rw (taken ported f n ended).whole (rows-counted f)

  module _ (small : length (index_text f (file_in f n).rows) ≤ limit) where
    -- the index lines of its rows, within the limit, read back by the whole-index call, with a table of as many rows
    pub call-read-back : SameRows f (index_text f (file_in f n).rows) (file_in f n).rows (index_in (index_text f (file_in f n).rows) n)
    call-read-back =
        let t = taken ported f n ended in
        let s = rows-read-back f (omega (arith, t.fits)) in
        rw t.whole (rw (index-whole (text f) n (rw t.whole at small) (omega (arith, s.count, t.room))) s)

    -- and the checker accepts them
    pub call-checked : check_of f (index_text f (file_in f n).rows) ≡ Ok tt
    call-checked =
        let t = taken ported f n ended in
        rw t.whole (index-checked f t.fits (rw t.whole at ended) (rw t.whole at small))
