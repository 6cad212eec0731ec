-- A plain line that the one call reads, and whose record is stored in any row of any table, is written by the other call as the same bytes.
use Rattle.std.specs.Prelude.{ℕ, ◌≤◌, ◌<◌, ◌≡◌, List, true, length, take, Ok}
use Rattle.std.proofs.Common.{sym, ◌∙◌, arith, le-ltb}
use Rattle.table.specs.Rows.{named_at, row_count, row_at, with_row}
use Rattle.table.specs.RowLaws.{length-with_row, row-stored}
use Rattle.columns.specs.Bytes.{first_where}
use Rattle.output.specs.Outcome.{gives, pours}
use Rattle.columns.specs.Fields.{splits, text_written}
use Rattle.columns.specs.Lacks.{Lacks}
use Rattle.columns.specs.Numbers.{both}
use Rattle.index_line.specs.IndexLine.{one_line, read_line, line_of, name_in, line_written, written_as}
use Rattle.index_line.specs.Laws.{line-sound}
use Rattle.index_line.specs.RoundTrip.{plain-writes}
use Rattle.index_line.specs.declared.Entry.{Entry}
use Rattle.index_line.specs.PlainAgainLaws.{read-alone, unsplit, row-named}

-- a table that has the record in row r, one of n rows in use
pub plain_row : (l : List ℕ) (e : Entry) (t : List ℕ) (n r : ℕ) (out : List ℕ) → read_line l ≡ Ok e → e.plain ≡ true
    → n ≤ row_count t → r < n → row_at t r ≡ e.«record» → length l ≤ length out → written_as l t n r out ≡ gives l out
unfolding written_as line_written name_in text_written pours line_of
plain_row l e t n r out h p some used row room =
    let w = read-alone l e h in
    let x = w.entry.«record» in
    let b = both (one_line l) w.entry.plain (sym w.plain ∙ p) in
    let k = line-sound 1 l w.entry w.says in
    let text : line_of (take x.name_length l) x ≡ l = plain-writes 1 l w.entry w.says b.1 in
    let whole : Lacks splits (take x.name_length l) = unsplit l w.entry w.says b.1 b.0 in
    let named : named_at t n r (length l) ≡ Ok x = row-named t n r x some used (row ∙ w.same) (length l) k.lined (omega (arith, k.start, k.inside)) (omega (arith, k.no-description)) in
    rw (w.small, named, k.start, le-ltb (first_where splits (take x.name_length l)) (length (take x.name_length l)) (omega (arith, whole)), text, le-ltb _ _ room)

-- the same, where the record was stored there
pub plain-again : (l : List ℕ) (e : Entry) (t : List ℕ) (n r : ℕ) (out : List ℕ) → read_line l ≡ Ok e → e.plain ≡ true
    → n ≤ row_count t → r < n → length l ≤ length out → written_as l (with_row t r e.«record») n r out ≡ gives l out
unfolding row_count
plain-again l e t n r out h p some used room =
    plain_row l e (with_row t r e.«record») n r out h p (rw (length-with_row t r e.«record») some) used (row-stored t r e.«record» (omega arith)) room
