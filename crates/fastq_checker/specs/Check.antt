-- What the checker of FASTQ answers (docs/RULES.md, R88): the size limit; then what the indexer refuses, 8 apart; then record by record 19, 9 to 12, 21, 22,
-- 23 for its bases and 23 for its qualities; last 20.
use Rattle.std.specs.Prelude.{ℕ, suc, List, [], ◌∷◌, cond, length, take, eqb, Option, Some, None, Result, Ok, Err, ⊤}
use Rattle.refusal.specs.declared.Refusal.{Refusal}
use Rattle.record.specs.declared.Offset.{Offset}
use Rattle.record.specs.declared.Position.{Position}
use Rattle.fastq_line.specs.declared.Entry.{Entry}
use Rattle.refusal.specs.Numbers.{over_limit}
use Rattle.refusal.specs.declared.Refusal.TheVariants as refusal
use Rattle.lines.specs.Lines.{lines, tail_of, bases_at}
use Rattle.lines.specs.Same.{same_bytes}
use Rattle.record.specs.Place.{place_in}
use Rattle.index_line.specs.IndexLine.{name_in}
use Rattle.walking.specs.Places.{first_elsewhere}
use Rattle.fastq.specs.Fastq.{lines_at, body_at}
use Rattle.fastq.specs.Parts.{part_of}
use Rattle.fastq.specs.declared.Part.{Part}
use Rattle.fastq.specs.declared.Part.TheVariants.{Bases, Qualities}
use Rattle.fastq.specs.declared.QualityRow.{QualityRow}
use Rattle.fastq_line.specs.SixColumns.{six_line_says, name_of}
use Rattle.fastq_index.specs.File.{rows_at}
use Rattle.checker.specs.Check.{and_then}

-- ---- where the bases and the qualities of a record are, by the line rule

-- the lines of a part of a record of a file: its sequence lines; as many quality lines
unfoldable pub part_lines : List ℕ → QualityRow → Part → List (List ℕ)
part_lines f x Bases = body_at f x.«record».position.0
part_lines f x Qualities = take (length (body_at f x.«record».position.0)) (lines_at f x.qualities.0)

-- the offset of every base, or of every quality, of a record of a file
unfoldable pub offsets_of : List ℕ → QualityRow → Part → List ℕ
offsets_of f x p = bases_at (part_of p x).position.0 (part_lines f x p)

-- ---- a record of the file against a line's row

-- 23: what lies elsewhere first in record n, or what the rest says
abbrev pub places_say : ℕ → Option (Position × Offset) → Result ⊤ Refusal → Result ⊤ Refusal
places_say n None v = v
places_say n (Some (p, o)) v = Err (refusal.BaseElsewhere n p.0)

-- 23 for a part: the first of its bytes that is not where the row says
abbrev pub part_says : ℕ → List ℕ → QualityRow → QualityRow → Part → Result ⊤ Refusal → Result ⊤ Refusal
part_says n f x y p = places_say n (first_elsewhere (place_in (part_of p y)) 0 (offsets_of f x p))

-- 21, 22, 23 for bases, 23 for qualities: record x of the file, which is number n, against a line's name and row
unfoldable pub entry_says : ℕ → List ℕ → QualityRow → List ℕ → QualityRow → Result ⊤ Refusal
entry_says n f x named y =
    cond (same_bytes (name_in f x.«record») named)
    (cond (eqb x.«record».length y.«record».length)
    (part_says n f x y Bases (part_says n f x y Qualities (Ok tt)))
    (Err (refusal.LengthDiffers n)))
    (Err (refusal.NameDiffers n))

-- 9 to 12: against what its line says
abbrev pub line_judged : ℕ → List ℕ → QualityRow → List ℕ → Result Entry Refusal → Result ⊤ Refusal
line_judged n f x l (Err y) = Err y
line_judged n f x l (Ok e) = entry_says n f x (name_of l) e.row

-- 19: against the first of the lines that are left
unfoldable pub record_says : ℕ → List ℕ → QualityRow → List (List ℕ) → Result ⊤ Refusal
record_says n f x [] = Err (refusal.LineAbsent n)
record_says n f x (l ∷ ls) = line_judged n f x l (six_line_says n l)

-- ---- a file and an index

-- the records behind k others against the lines that are left; last 20
unfoldable pub records_say : ℕ → List ℕ → List QualityRow → List (List ℕ) → Result ⊤ Refusal
records_say k f [] [] = Ok tt
records_say k f [] (l ∷ ls) = Err (refusal.BytesLeft k)
records_say k f (x ∷ xs) ls = and_then (record_says (suc k) f x ls) (records_say (suc k) f xs (tail_of ls))

-- what the indexer finds in the file, its records and where they stop: what it refuses; else every record
abbrev pub file_says : List ℕ → List (List ℕ) → List QualityRow → Result ⊤ Refusal → Result ⊤ Refusal
file_says f ls xs (Err y) = Err y
file_says f ls xs (Ok _) = records_say 0 f xs ls

-- the call: the size limit first
unfoldable pub check_of : List ℕ → List ℕ → Result ⊤ Refusal
check_of f i =
    cond (over_limit (length f)) (Err refusal.TooLong)
    (cond (over_limit (length i)) (Err refusal.TooLong) (file_says f (lines i) (rows_at f 0).rows (rows_at f 0).stop))
