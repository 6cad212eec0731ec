-- What the checker answers (docs/RULES.md, R43): record by record 2 to 4, 19, 9 to 12, 21, 22, 23; last 20.
use Rattle.std.specs.Prelude.{ℕ, suc, ◌+◌, List, [], ◌∷◌, cond, length, take, drop, eqb, Option, Some, None, Result, Ok, Err, ⊤}
use Rattle.refusal.specs.declared.Refusal.{Refusal}
use Rattle.record.specs.declared.Offset.{Offset}
use Rattle.record.specs.declared.Position.{Position}
use Rattle.definition.specs.declared.Definition.{Definition}
use Rattle.definition.specs.declared.Fault.{Fault}
use Rattle.index_line.specs.declared.Entry.{Entry}
use Rattle.refusal.specs.Numbers.{over_limit}
use Rattle.refusal.specs.declared.Refusal.TheVariants as refusal
use Rattle.lines.specs.Lines.{lines, tail_of, sum_bases, sum_widths, bases_at}
use Rattle.lines.specs.Groups.{Group, groups}
use Rattle.lines.specs.Same.{same_bytes}
use Rattle.lines.specs.declared.Span.{Span}
use Rattle.definition.specs.Definition.{refusal_in}
use Rattle.definition.specs.Definition as definition
use Rattle.record.specs.Place.{place_in}
use Rattle.record.specs.declared.Record.{Record}
use Rattle.index_line.specs.IndexLine.{name_of}
use Rattle.index_line.specs.IndexLine as index
use Rattle.walking.specs.Places.{first_elsewhere}

-- some of a line's bytes
abbrev pub span_of : List ℕ → Span → List ℕ
span_of l s = take s.length (drop s.start l)

-- 23: every base of record n is where its line says, or the first that is not
abbrev pub places_say : ℕ → Option (Position × Offset) → Result ⊤ Refusal
places_say n None = Ok tt
places_say n (Some (p, o)) = Err (refusal.BaseElsewhere n p.0)

-- 22, 23: the sequence of record n, which begins at an offset, against the numbers of its line
unfoldable pub sequence_says : ℕ → ℕ → List (List ℕ) → Record → Result ⊤ Refusal
sequence_says n start seq x =
    cond (eqb (sum_bases seq) x.length) (places_say n (first_elsewhere (place_in x) 0 (bases_at start seq))) (Err (refusal.LengthDiffers n))

-- 21: record n, which has a name, and whose sequence begins at an offset, against its line's name and numbers
unfoldable pub entry_says : ℕ → ℕ → List ℕ → List (List ℕ) → List ℕ → Record → Result ⊤ Refusal
entry_says n start name seq named x = cond (same_bytes name named) (sequence_says n start seq x) (Err (refusal.NameDiffers n))

-- 9 to 12: against what its line says
abbrev pub line_judged : ℕ → ℕ → List ℕ → List (List ℕ) → List ℕ → Result Entry Refusal → Result ⊤ Refusal
line_judged n start name seq l (Err x) = Err x
line_judged n start name seq l (Ok e) = entry_says n start name seq (name_of l) e.«record»

-- 19: against the first of the lines that are left
unfoldable pub against_lines : ℕ → ℕ → List ℕ → List (List ℕ) → List (List ℕ) → Result ⊤ Refusal
against_lines n start name seq [] = Err (refusal.LineAbsent n)
against_lines n start name seq (l ∷ ls) = line_judged n start name seq l (index.index_line_says n l)

-- 2 to 4
abbrev pub defined_says : ℕ → ℕ → Group → List (List ℕ) → Result Definition Fault → Result ⊤ Refusal
defined_says n at g ls (Err f) = Err (refusal_in f n at)
defined_says n at g ls (Ok d) = against_lines n (at + length g.def) (span_of g.def d.name) g.seq ls

-- record n, which begins at an offset, against the lines that are left
unfoldable pub record_says : ℕ → ℕ → Group → List (List ℕ) → Result ⊤ Refusal
record_says n at g ls = defined_says n at g ls (definition.definition_says g.def)

-- the first refusal of two
abbrev pub and_then : Result ⊤ Refusal → Result ⊤ Refusal → Result ⊤ Refusal
and_then (Ok tt) v = v
and_then (Err x) v = Err x

-- the records behind k others, the first of which begins at an offset, against the lines that are left; last 20
unfoldable pub records_say : ℕ → ℕ → List Group → List (List ℕ) → Result ⊤ Refusal
records_say k at [] [] = Ok tt
records_say k at [] (l ∷ ls) = Err (refusal.BytesLeft k)
records_say k at (g ∷ gs) ls =
    and_then (record_says (suc k) at g ls) (records_say (suc k) (at + length g.def + sum_widths g.seq) gs (tail_of ls))

-- the records of a file from an offset on against the lines of an index from a place on, as if no record came before
unfoldable pub from_says : List ℕ → ℕ → List ℕ → ℕ → Result ⊤ Refusal
from_says f at i line = records_say 0 at (groups (lines (drop at f))) (lines (drop line i))

-- a file and an index: the size limit first, then every record
unfoldable pub check_of : List ℕ → List ℕ → Result ⊤ Refusal
check_of f i =
    cond (over_limit (length f)) (Err refusal.TooLong) (cond (over_limit (length i)) (Err refusal.TooLong) (records_say 0 0 (groups (lines f)) (lines i)))
