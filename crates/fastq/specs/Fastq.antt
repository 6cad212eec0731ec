-- A FASTQ record by its lines (docs/RULES.md, R80 to R84): what its sequence lines, its '+' line and its quality lines say, and its row.
use Rattle.std.specs.Prelude.{ℕ, ◌+◌, List, [], ◌∷◌, map, Bool, false, cond, not, ◌&&◌, ◌||◌, length, take, drop, eqb, Some, None, Result, Ok, Err, ⊤}
use Rattle.definition.specs.declared.Definition.{Definition}
use Rattle.definition.specs.declared.Fault.{Fault}
use Rattle.refusal.specs.declared.Refusal.{Refusal}
use Rattle.refusal.specs.declared.Refusal.TheVariants.{NoBases, LineBases, LineWidth, NoPlusLine, QualityLine}
use Rattle.lines.specs.declared.Line.{Line}
use Rattle.lines.specs.declared.Span.{Span}
use Rattle.lines.specs.Lines.{lines, ends, bases_of, content_of, none, first_line, sum_bases, sum_widths}
use Rattle.definition.specs.Definition.{marked_says, refusal_at}
use Rattle.indexer.specs.Index.{line_of, fits_last}
use Rattle.fastq.specs.declared.QualityRow.{QualityRow}
use Rattle.fastq.specs.declared.Step.{Step}

-- ---- the parts of a record

-- the lines from an offset on
abbrev pub lines_at : List ℕ → ℕ → List (List ℕ)
lines_at s at = lines (drop at s)

-- does a line begin with '+'
abbrev pub plus : List ℕ → Bool
plus [] = false
plus (b ∷ l) = eqb b 43

-- the sequence lines: those up to one that begins with '+', or all
unfoldable pub body_of : List (List ℕ) → List (List ℕ)
body_of [] = []
body_of (l ∷ ls) = cond (plus l) [] (l ∷ body_of ls)

-- the lines from the '+' line on; none where there is no '+' line
unfoldable pub from_plus : List (List ℕ) → List (List ℕ)
from_plus [] = []
from_plus (l ∷ ls) = cond (plus l) (l ∷ ls) (from_plus ls)

-- the sequence lines from an offset on
unfoldable pub body_at : List ℕ → ℕ → List (List ℕ)
body_at s at = body_of (lines_at s at)

-- ---- the sequence lines

-- a line behind the first: a blank one is refused; a last that fits is good; else differing bases are refused, then a differing width
unfoldable pub line_says : Line → Bool → Line → Result ⊤ Refusal
line_says first last l =
    cond (eqb l.bases 0) (Err (LineBases 0 first.bases))
    (cond (fits_last last l first) (Ok tt)
    (cond (eqb l.bases first.bases)
    (cond (eqb l.width first.width) (Ok tt) (Err (LineWidth l.width first.width)))
    (Err (LineBases l.bases first.bases))))

-- the first refusal of two
abbrev pub and_then : Result ⊤ Refusal → Result ⊤ Refusal → Result ⊤ Refusal
and_then (Ok tt) v = v
and_then (Err x) v = Err x

-- the lines behind the first, one by one
unfoldable pub rest_of : Line → List (List ℕ) → Result ⊤ Refusal
rest_of first [] = Ok tt
rest_of first (l ∷ ls) = and_then (line_says first (none ls) (line_of l)) (rest_of first ls)

-- all sequence lines, which begin at an offset: no bases in the first is refused, with the offset after that line
unfoldable pub sequence_of : ℕ → List (List ℕ) → Result ⊤ Refusal
sequence_of at [] = Err (NoBases at)
sequence_of at (l ∷ ls) = cond (eqb (line_of l).bases 0) (Err (NoBases (at + length l))) (rest_of (line_of l) ls)

-- ---- the quality lines

-- does a quality line fit its partner, a sequence line: it has as many bases, and its width; a line without its LF, which is the file's last,
-- may have another
unfoldable pub fits_partner : Line → List ℕ → Bool
fits_partner p q = eqb (length (bases_of q)) p.bases && (eqb (length q) p.width || not (ends 10 q))

-- the lines behind '+', one for each sequence line
unfoldable pub qualities_of : List Line → List (List ℕ) → Result ⊤ Refusal
qualities_of [] qs = Ok tt
qualities_of (p ∷ ps) [] = Err (QualityLine 0 p.bases)
qualities_of (p ∷ ps) (q ∷ qs) = cond (fits_partner p q) (qualities_of ps qs) (Err (QualityLine (length (bases_of q)) p.bases))

-- ---- the record

-- the row of a record: where its definition line begins and how many bytes that has, its name's place in it, its sequence lines, and the
-- bytes of its '+' line
abbrev pub row_for : ℕ → ℕ → Span → List (List ℕ) → ℕ → QualityRow
row_for at n name ls p =
    record {
      «record» = record {
        name_start = at + name.start;
        name_length = name.length;
        length = sum_bases ls;
        position = record { 0 = at + n };
        line_bases = (first_line ls).bases;
        line_width = (first_line ls).width;
        description_start = 0;
        description_length = 0;
      };
      qualities = record { 0 = at + n + sum_widths ls + p };
    }

-- a refusal leaves the place where it was
abbrev pub refused_at : ℕ → Refusal → Step
refused_at at x = record { answer = Err x; next = at }

abbrev pub qualities_judged : ℕ → ℕ → Span → List (List ℕ) → ℕ → List (List ℕ) → Result ⊤ Refusal → Step
qualities_judged at n name ls p qs (Err x) = refused_at at x
qualities_judged at n name ls p qs (Ok tt) =
    record { answer = Ok (Some (row_for at n name ls p)); next = at + n + sum_widths ls + p + sum_widths (take (length ls) qs) }

-- 38: no '+' line; 39
abbrev pub plus_judged : ℕ → ℕ → Span → List (List ℕ) → List (List ℕ) → Step
plus_judged at n name ls [] = refused_at at NoPlusLine
plus_judged at n name ls (p ∷ qs) = qualities_judged at n name ls (length p) qs (qualities_of (map line_of ls) qs)

-- 5 to 7, then 38
abbrev pub sequence_judged : ℕ → ℕ → Span → List (List ℕ) → List (List ℕ) → Result ⊤ Refusal → Step
sequence_judged at n name ls rest (Err x) = refused_at at x
sequence_judged at n name ls rest (Ok tt) = plus_judged at n name ls rest

-- a record whose definition line has been read
unfoldable pub sequence_says : ℕ → ℕ → Span → List (List ℕ) → Step
sequence_says at n name ls = sequence_judged at n name (body_of ls) (from_plus ls) (sequence_of (at + n) (body_of ls))

-- 2 to 4, with the offset
abbrev pub defined_says : ℕ → ℕ → List (List ℕ) → Result Definition Fault → Step
defined_says at n ls (Ok d) = sequence_says at n d.name ls
defined_says at n ls (Err f) = refused_at at (refusal_at f at)

-- the record whose definition is the first of some lines, which begin at an offset; a definition begins with '@'
abbrev pub first_says : ℕ → List (List ℕ) → Step
first_says at [] = record { answer = Ok None; next = at }
first_says at (d ∷ ls) = defined_says at (length d) ls (marked_says 64 (content_of d))

-- the record at an offset of a file
unfoldable pub record_at : List ℕ → ℕ → Step
record_at s at = first_says at (lines_at s at)
