-- What an index line says, and how one is written.
use Rattle.std.specs.Prelude.{ℕ, List, [], ◌∷◌, Bool, true, false, cond, ◌&&◌, length, get_or, Result, Err}
use Rattle.refusal.specs.declared.Refusal.{Refusal}
use Rattle.refusal.specs.declared.Refusal.TheVariants.{TooLong}
use Rattle.refusal.specs.Numbers.{over_limit}
use Rattle.lines.specs.Lines.{content_of}
use Rattle.record.specs.declared.Record.{Record}
use Rattle.table.specs.Rows.{named_at}
use Rattle.output.specs.Outcome.{Outcome}
use Rattle.columns.specs.Fields.{Numbers, text_of}
use Rattle.index_line.specs.declared.Entry.{Entry}
use Rattle.index_line.specs.Columns
unfoldable pub use Rattle.index_line.specs.Columns.{plain_end, one_line, name_in}

-- ---- reading

-- the fields of a line's content, which is cut at the first four tabs; an empty line has none
unfoldable pub fields_of : List ℕ → List (List ℕ)
fields_of = Columns.fields_in 4

-- the record of a name of n bytes at the front of its line, and of the four numbers; a line has no description
abbrev pub record_of : ℕ → List ℕ → Record
record_of n vs = record {
  name_start = 0;
  name_length = n;
  length = get_or vs 0 0;
  position = record { 0 = get_or vs 1 0 };
  line_bases = get_or vs 2 0;
  line_width = get_or vs 3 0;
  description_start = 0;
  description_length = 0;
}

abbrev pub entry_for : ℕ → List ℕ → Bool → Entry
entry_for n vs plain = record { «record» = record_of n vs; plain = plain }

abbrev pub entry_read : ℕ → Numbers → Result Entry Refusal
entry_read = Columns.entry_read entry_for

-- what the fields of a line say: the first is the name, which may be empty, and four numbers follow
abbrev pub fields_say : ℕ → List (List ℕ) → Result Entry Refusal
fields_say = Columns.fields_say entry_for 4

-- what the content of a line says; `line` is the number told in refusals
unfoldable pub content_says : ℕ → List ℕ → Result Entry Refusal
content_says line l = fields_say line (fields_of l)

-- an entry is plain only if p
abbrev pub plain_only : Bool → Entry → Entry
plain_only p e = record { «record» = e.«record»; plain = p && e.plain }

abbrev pub only_if : Bool → Result Entry Refusal → Result Entry Refusal
only_if = Columns.only_if plain_only

-- what a line says: a final LF, and one CR before it, come off. It is plain if it reads, ends in LF with no CR before it, and no
-- number has a needless leading zero or a plus. A line of a text has no other LF; bytes that stand alone may have one
unfoldable pub index_line_says : ℕ → List ℕ → Result Entry Refusal
index_line_says line l = only_if (plain_end l) (content_says line (content_of l))

-- what the line at a place of a text says, and where it ends
abbrev pub SaidAt : ℕ → List ℕ → ℕ → Result Entry Refusal → ℕ → Type 0
SaidAt = Columns.SaidAt index_line_says

-- the name of a line: its first field
abbrev pub first_of : List (List ℕ) → List ℕ
first_of [] = []
first_of (f ∷ fs) = f

unfoldable pub name_of : List ℕ → List ℕ
name_of l = first_of (fields_of (content_of l))

-- the two calls on a line that is read alone: refusal 1 comes first, and the line is line 1. A content, which has no end, is never plain;
-- nor is a line that holds an LF before its end
unfoldable pub read_content : List ℕ → Result Entry Refusal
read_content l = cond (over_limit (length l)) (Err TooLong) (only_if false (content_says 1 l))

unfoldable pub read_line : List ℕ → Result Entry Refusal
read_line l = cond (over_limit (length l)) (Err TooLong) (only_if (one_line l) (index_line_says 1 l))

-- ---- writing

-- the four numbers of a line
abbrev pub columns_of : Record → List ℕ
columns_of x = x.length ∷ x.position.0 ∷ x.line_bases ∷ x.line_width ∷ []

-- the line of a name and a record: name, tab, four decimal numbers with tabs between, LF
unfoldable pub line_of : List ℕ → Record → List ℕ
line_of name x = text_of name (columns_of x)

-- what it reads back as: the same four numbers behind a name of n bytes, in a plain line
unfoldable pub entry_of : ℕ → Record → Entry
entry_of n x = record { «record» = record_of n (columns_of x); plain = true }

-- the line of a row that holds a record
abbrev pub row_written : List ℕ → List ℕ → Result Record Refusal → Outcome (Result ℕ Refusal)
row_written = Columns.row_written columns_of

-- the call: 1 first
unfoldable pub line_written : List ℕ → Result Record Refusal → List ℕ → Outcome (Result ℕ Refusal)
line_written = Columns.line_written columns_of

-- writing the line of row r of a table with n rows in use, whose names are spans of `names`: 1, 25, 13, 14
unfoldable pub written_as : List ℕ → List ℕ → ℕ → ℕ → List ℕ → Outcome (Result ℕ Refusal)
written_as names t n r out = line_written names (named_at t n r (length names)) out
