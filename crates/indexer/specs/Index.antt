-- What indexing one record gives by the ported rule (docs/RULES.md, R20), over the lines of the file.
use Rattle.std.specs.Prelude.{ℕ, ◌+◌, List, [], ◌∷◌, Bool, cond, ◌&&◌, length, eqb, leb, Result, Ok, Err}
use Rattle.refusal.specs.declared.Refusal.{Refusal}
use Rattle.refusal.specs.Numbers.{over_limit}
use Rattle.refusal.specs.declared.Refusal.TheVariants.{TooLong, NoBases, LineBases, LineWidth}
use Rattle.lines.specs.declared.Line.{Line}
use Rattle.definition.specs.declared.Definition.{Definition}
use Rattle.lines.specs.Lines.{bases_of, first_line, none, sum_bases, sum_widths}
use Rattle.record.specs.declared.Record.{Record}
use Rattle.indexer.specs.declared.Indexer.{Indexer}
use Rattle.indexer.specs.declared.Step.{Step}
use Rattle.indexer.specs.Rule.{Verdict, good, bad, SequenceRule, row_for, sequence_by, record_by}

-- width and bases of a line
abbrev pub line_of : List ℕ → Line
line_of l = record { width = length l; bases = length (bases_of l) }

-- may a line be the last: the file ends or '>' follows, and neither width nor bases exceed the first line's
unfoldable pub fits_last : Bool → Line → Line → Bool
fits_last last l first = last && leb l.width first.width && leb l.bases first.bases

-- the lines after the first: a last that fits is good; else differing bases are refused, then a differing width
unfoldable pub rest_of : Line → List (List ℕ) → Verdict
rest_of first [] = good
rest_of first (l ∷ ls) =
    cond (fits_last (none ls) (line_of l) first) good
    (cond (eqb (line_of l).bases first.bases)
    (cond (eqb (line_of l).width first.width) (rest_of first ls) (bad (LineWidth (line_of l).width first.width)))
    (bad (LineBases (line_of l).bases first.bases)))

-- a record's sequence lines, which begin at a position: no bases in the first is refused, with the offset after that line
unfoldable pub judge : ℕ → List (List ℕ) → Verdict
judge at [] = bad (NoBases at)
judge at (l ∷ ls) = cond (eqb (line_of l).bases 0) (bad (NoBases (at + length l))) (rest_of (line_of l) ls)

-- the row of a record, by where its definition begins, the bytes of that line, what it says, and the sequence lines
abbrev pub row_of : ℕ → ℕ → Definition → List (List ℕ) → Record
row_of at n d ls = row_for at d (sum_bases ls) (at + n) (first_line ls).bases (first_line ls).width

-- the rule
abbrev pub ported : SequenceRule
ported = record { judge = judge; row = row_of }

-- a record whose definition line has been read
abbrev pub sequence_says : ℕ → ℕ → Definition → List (List ℕ) → Step
sequence_says = sequence_by ported

-- the record at an offset of a file
abbrev pub record_at : List ℕ → ℕ → Step
record_at = record_by ported

-- the call: the size limit first
unfoldable pub record_read : List ℕ → Indexer → Step
record_read s c = cond (over_limit (length s)) (record { answer = Err TooLong; next = c }) (record_at s c.at)

-- the lines after the first: the bases with n before them, and the offset behind them
abbrev pub rest_as : ℕ → ℕ → List (List ℕ) → Verdict → Result (ℕ × ℕ) Refusal
rest_as n at ls good = Ok ((n + sum_bases ls), (at + sum_widths ls))
rest_as n at ls (bad x) = Err x

unfoldable pub rest_says : Line → ℕ → ℕ → List (List ℕ) → Result (ℕ × ℕ) Refusal
rest_says first n at ls = rest_as n at ls (rest_of first ls)
