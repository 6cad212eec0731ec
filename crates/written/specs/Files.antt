-- A file of several written records, one after another: its rows are those worked out from the counts and widths, and its index, worked
-- out in the same way, is accepted by the checker.
use Rattle.std.specs.Prelude.{ℕ, ◌+◌, ◌≤◌, ◌<◌, ◌≡◌, refl, List, [], ◌∷◌, ◌++◌, Bool, length, take, drop, Ok}
use Rattle.std.proofs.Common.{ap, sym, ◌∙◌, append_assoc, drop_at, drop-drop, take_at}
use Rattle.lines.specs.Lines.{lines, onto, seq_of}
use Rattle.lines.specs.Groups.{groups}
use Rattle.record.specs.declared.Record.{Record}
use Rattle.table.specs.Fill.{Found}
use Rattle.index_line.specs.IndexLine.{name_in}
use Rattle.index_line.specs.IndexLine as index
use Rattle.indexer.specs.Rule.{groups_by, file_by}
use Rattle.indexer.specs.RuleLaws.{file-step}
use Rattle.indexer.specs.Index.{ported}
use Rattle.indexer.specs.File.{file_at}
use Rattle.checker.specs.Check.{check_of}
use Rattle.checker.specs.Accepts.{limit}
use Rattle.mission.specs.Leading.{index_text}
use Rattle.mission.specs.Indexed.{index-checked}
use Rattle.writer.specs.Text.{described_text, definition_text, sequence_text, record_text}
use Rattle.writer.specs.Reads.{Writable, no_more}
use Rattle.written.specs.Indexed.{row_worked, indexed-at}

-- what is given for a record
pub record Item : Type 0 where
  pub name : List ℕ
  pub described : Bool
  pub description : List ℕ
  pub bases : List ℕ
  pub width : ℕ

abbrev pub text_of : Item → List ℕ
text_of x = record_text x.name x.described x.description x.bases x.width

abbrev pub item_row : ℕ → Item → Record
item_row at x = row_worked at x.name x.described x.description x.bases x.width

-- the file
unfoldable pub file_text : List Item → List ℕ
file_text [] = []
file_text (x ∷ xs) = text_of x ++ file_text xs

-- its rows, if it begins at an offset
unfoldable pub rows_from : ℕ → List Item → List Record
rows_from at [] = []
rows_from at (x ∷ xs) = item_row at x ∷ rows_from (at + length (text_of x)) xs

-- its index: for each record the line of its name, count, position, and line bases and width
unfoldable pub index_from : ℕ → List Item → List ℕ
index_from at [] = []
index_from at (x ∷ xs) = index.line_of x.name (item_row at x) ++ index_from (at + length (text_of x)) xs

-- each can be written, and has bases
pub data Written : List Item → Type 0 where
  none : Written []
  each : {x : Item} {xs : List Item} → Writable x.name x.described x.description x.bases x.width → 0 < length x.bases → Written xs → Written (x ∷ xs)

-- ---- its rows

prefix-stops : (l : List ℕ) → seq_of (lines (62 ∷ l)) ≡ []
unfolding lines seq_of
prefix-stops l = go (lines l)
  where
    go : (ls : List (List ℕ)) → seq_of (onto 62 ls) ≡ []
    go [] = refl
    go (m ∷ ls) = refl

-- behind a record the file ends, or '>' follows
record-stops : (xs : List Item) → seq_of (lines (file_text xs)) ≡ []
unfolding file_text record_text definition_text
record-stops [] = no_more
record-stops (x ∷ xs) = prefix-stops _

pub file-rows : (xs : List Item) → Written xs → (s : List ℕ) (at : ℕ) → drop at s ≡ file_text xs → file_at s at ≡ record { rows = rows_from at xs; stop = Ok tt }
unfolding file_text rows_from
file-rows [] z s at e = unfold file_by in unfold groups_by in unfold groups in unfold lines in rw e
file-rows (x ∷ xs) (each y h z) s at e =
    let n : ℕ = length (text_of x) in
    let behind : drop (at + n) s ≡ file_text xs = sym (drop-drop n at s) ∙ ap (drop n) e ∙ drop_at (text_of x) (file_text xs) n refl in
    let row = indexed-at x.name x.described x.description x.bases x.width y h s at (file_text xs) e (record-stops xs) in
    file-step ported s at ∙ rw (row, file-rows xs z s (at + n) behind)

-- ---- its index

name-there : (s : List ℕ) (at : ℕ) (x : Item) (rest : List ℕ) → drop at s ≡ text_of x ++ rest → name_in s (item_row at x) ≡ x.name
unfolding name_in row_worked record_text definition_text
name-there s at x rest e =
    let q : List ℕ = described_text x.described x.description ++ (10 ∷ []) in
    let a : drop (at + 1) s ≡ ((x.name ++ q) ++ sequence_text x.width x.bases) ++ rest = sym (drop-drop 1 at s) ∙ ap (drop 1) e in
    let b : ((x.name ++ q) ++ sequence_text x.width x.bases) ++ rest ≡ x.name ++ (q ++ (sequence_text x.width x.bases ++ rest)) =
    append_assoc (x.name ++ q) (sequence_text x.width x.bases) rest ∙ append_assoc x.name q (sequence_text x.width x.bases ++ rest) in
    ap (take (length x.name)) (a ∙ b) ∙ take_at x.name (q ++ (sequence_text x.width x.bases ++ rest)) (length x.name) refl

pub index_is : (xs : List Item) (s : List ℕ) (at : ℕ) → drop at s ≡ file_text xs → index_text s (rows_from at xs) ≡ index_from at xs
unfolding file_text rows_from index_text index_from
index_is [] s at e = refl
index_is (x ∷ xs) s at e =
    let n : ℕ = length (text_of x) in
    let behind : drop (at + n) s ≡ file_text xs = sym (drop-drop n at s) ∙ ap (drop n) e ∙ drop_at (text_of x) (file_text xs) n refl in
    rw (name-there s at x (file_text xs) e, index_is xs s (at + n) behind)

-- ---- the theorems

-- the indexer takes the file to its end, and gives these rows
pub files-indexed : (xs : List Item) → Written xs → file_at (file_text xs) 0 ≡ record { rows = rows_from 0 xs; stop = Ok tt }
files-indexed xs z = file-rows xs z (file_text xs) 0 refl

-- the checker accepts it with its index, if both are within the limit
pub written-checked : (xs : List Item) → Written xs → length (file_text xs) ≤ limit → length (index_from 0 xs) ≤ limit → check_of (file_text xs) (index_from 0 xs) ≡ Ok tt
written-checked xs z m n =
    let f : List ℕ = file_text xs in
    let r = files-indexed xs z in
    let i : index_text f (file_at f 0).rows ≡ index_from 0 xs = ap (λ (y : Found). index_text f y.rows) r ∙ index_is xs f 0 refl in
    rw i at (index-checked f m (ap (λ (y : Found). y.stop) r) (rw i n))
