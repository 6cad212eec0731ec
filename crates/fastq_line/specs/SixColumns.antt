-- What an index line of six columns says, and how one is written (docs/RULES.md, R85, R86).
use Rattle.std.specs.Prelude.{ℕ, List, [], ◌∷◌, Bool, cond, ◌&&◌, length, get_or, Result, Err}
use Rattle.refusal.specs.declared.Refusal.{Refusal}
use Rattle.fastq_line.specs.declared.Entry.{Entry}
use Rattle.refusal.specs.declared.Refusal.TheVariants.{TooLong}
use Rattle.refusal.specs.Numbers.{over_limit}
use Rattle.lines.specs.Lines.{content_of}
use Rattle.record.specs.declared.Record.{Record}
use Rattle.record.specs.declared.Offset.{Offset}
use Rattle.output.specs.Outcome.{Outcome}
use Rattle.columns.specs.Fields.{Numbers}
use Rattle.index_line.specs.Columns
use Rattle.index_line.specs.IndexLine.{record_of, plain_end, first_of, one_line}
use Rattle.fastq.specs.declared.QualityRow.{QualityRow}

-- ---- reading

-- the fields of a line's content, which is cut at the first five tabs; an empty line has none
unfoldable pub fields_of : List ℕ → List (List ℕ)
fields_of = Columns.fields_in 5

-- the row of a name of n bytes at the front of its line, and of the five numbers: the first four as in a line of five columns
abbrev pub row_of : ℕ → List ℕ → QualityRow
row_of n vs = record { «record» = record_of n vs; qualities = record { 0 = get_or vs 4 0 } }

abbrev pub entry_for : ℕ → List ℕ → Bool → Entry
entry_for n vs plain = record { row = row_of n vs; plain = plain }

abbrev pub entry_read : ℕ → Numbers → Result Entry Refusal
entry_read = Columns.entry_read entry_for

-- what the fields of a line say: the first is the name, which may be empty, and five numbers follow
abbrev pub fields_say : ℕ → List (List ℕ) → Result Entry Refusal
fields_say = Columns.fields_say entry_for 5

-- what the content of a line says; `line` is the number told in refusals
unfoldable pub content_says : ℕ → List ℕ → Result Entry Refusal
content_says line l = fields_say line (fields_of l)

-- an entry is plain only if p
abbrev pub plain_only : Bool → Entry → Entry
plain_only p e = record { row = e.row; plain = p && e.plain }

abbrev pub only_if : Bool → Result Entry Refusal → Result Entry Refusal
only_if = Columns.only_if plain_only

-- what a line says: a final LF, and one CR before it, come off; plain is as for a line of five columns
unfoldable pub six_line_says : ℕ → List ℕ → Result Entry Refusal
six_line_says line l = only_if (plain_end l) (content_says line (content_of l))

-- what the line at a place of a text says, and where it ends
abbrev pub SaidAt : ℕ → List ℕ → ℕ → Result Entry Refusal → ℕ → Type 0
SaidAt = Columns.SaidAt six_line_says

-- the name of a line: its first field
unfoldable pub name_of : List ℕ → List ℕ
name_of l = first_of (fields_of (content_of l))

-- the call on a line that is read alone: refusal 1 comes first, and the line is line 1
unfoldable pub read_line : List ℕ → Result Entry Refusal
read_line l = cond (over_limit (length l)) (Err TooLong) (only_if (one_line l) (six_line_says 1 l))

-- ---- writing

-- the five numbers of a line
abbrev pub six_columns_of : Record → Offset → List ℕ
six_columns_of x q = x.length ∷ x.position.0 ∷ x.line_bases ∷ x.line_width ∷ q.0 ∷ []

-- the line of a row that holds a record
abbrev pub row_written : List ℕ → Offset → List ℕ → Result Record Refusal → Outcome (Result ℕ Refusal)
row_written names q = Columns.row_written (λ x. six_columns_of x q) names

-- the call: 1 first, then 25, 13, 14
unfoldable pub line_written : List ℕ → Result Record Refusal → Offset → List ℕ → Outcome (Result ℕ Refusal)
line_written names h q out = Columns.line_written (λ x. six_columns_of x q) names h out
