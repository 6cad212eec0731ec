-- The index lines of a FASTQ file that our indexer takes to its end read back, by the whole-index call, to rows with the same names and the same five
-- numbers: `rows-read-back` for the file's rows, `call-read-back` for the calls, with a table of n rows each.
use Rattle.std.specs.Prelude.{ℕ, ◌+◌, ◌≤◌, ◌<◌, ◌≡◌, List, [], length, get_or, Ok}
use Rattle.std.proofs.Math.Path.{refl}
use Rattle.std.proofs.Common.{ap, ◌∙◌, arith}
use Rattle.lines.specs.Lines.{lines}
use Rattle.index_line.specs.IndexLine.{name_in}
use Rattle.fastq.specs.declared.QualityRow.{QualityRow}
use Rattle.fastq_line.specs.SixColumns.{six_line_says}
use Rattle.fastq_line.specs.RoundTrip.{five_of, entry_of}
use Rattle.fastq_table.specs.Fill.{Found}
use Rattle.fastq_index.specs.File.{rows_at, file_in}
use Rattle.fastq_index.specs.Text.{index_at, index_in}
use Rattle.checker.specs.Accepts.{limit}
use Rattle.fastq_checker.specs.Accepts.{records_of, record_at, Accepts}
use Rattle.fastq_mission.specs.Written.{index_text, reads, line_at}
use Rattle.fastq_mission.specs.Indexed.{file-leads, index-accepted, whole}
use Rattle.fastq_mission.specs.TableLaws.{found, index-found, row-named}

-- two rows, whose names are spans of different bytes, have the same name and the same five numbers
pub record SameRow (f t : List ℕ) (x y : QualityRow) : Type 0 where
  pub name : name_in t y.«record» ≡ name_in f x.«record»
  pub numbers : five_of y ≡ five_of x

-- what a whole index gives are some rows again
pub record SameRows (f t : List ℕ) (xs : List QualityRow) (r : Found) : Type 0 where
  pub stop : r.stop ≡ Ok tt
  pub count : length r.rows ≡ length xs
  pub each : (k : ℕ) → k < length xs → SameRow f t (record_at xs k) (record_at r.rows k)

pub rows-read-back : (f : List ℕ) → length f ≤ limit → (rows_at f 0).stop ≡ Ok tt → length (index_text f (records_of f)) ≤ limit
    → SameRows f (index_text f (records_of f)) (records_of f) (index_at (index_text f (records_of f)) 1 0)
rows-read-back f m e n =
    record {
      stop = (found f (index_text f (records_of f)) accepted).stop;
      count = (found f (index_text f (records_of f)) accepted).count ∙ accepted.count;
      each = λ k h. record { name = row-named f (index_text f (records_of f)) accepted k h; numbers = numbers k h };
    }
  where
    accepted : Accepts f (index_text f (records_of f))
    accepted = index-accepted f m e n

    numbers : (k : ℕ) → k < length (records_of f) → five_of (record_at (index_at (index_text f (records_of f)) 1 0).rows k) ≡ five_of (record_at (records_of f) k)
    numbers k h =
        let x : QualityRow = record_at (records_of f) k in
        let said : six_line_says (1 + k) (get_or (lines (index_text f (records_of f))) k []) ≡ Ok (entry_of (length (name_in f (record_at (records_of f) k).«record»)) (record_at (records_of f) k)) =
        ap (six_line_says (1 + k)) (line_at f (records_of f) (file-leads f) k h) ∙ reads f (record_at (records_of f) k) (file-leads f k h) (omega arith) (1 + k) in
        ap five_of ((found f (index_text f (records_of f)) accepted).row k (omega (arith, accepted.count)) _ said) ∙ unfold entry_of in refl

pub call-read-back : (f : List ℕ) (n : ℕ) → (file_in f n).stop ≡ Ok tt → length (index_text f (file_in f n).rows) ≤ limit
    → SameRows f (index_text f (file_in f n).rows) (file_in f n).rows (index_in (index_text f (file_in f n).rows) n)
call-read-back f n h small =
    let w = whole f n h in
    let s : length (index_text f (records_of f)) ≤ limit = rw w.whole at small in
    rw (w.whole, index-found f (index_text f (records_of f)) (index-accepted f w.fits w.ended s) n w.room) (rows-read-back f w.fits w.ended s)
