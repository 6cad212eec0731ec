-- What the checker's steps from record to record find, by places in the file and in the index.
use Rattle.std.specs.Prelude.{ℕ, ◌+◌, List, drop, Option, Some, None, Result, Ok, Err, ⊤}
use Rattle.refusal.specs.declared.Refusal.{Refusal}
use Rattle.lines.specs.Lines.{line_end, lines}
use Rattle.record.specs.Place.{place_in}
use Rattle.walking.specs.Places.{first_elsewhere}
use Rattle.fastq.specs.Fastq.{record_at}
use Rattle.fastq.specs.Parts.{part_of}
use Rattle.fastq.specs.declared.Part.{Part}
use Rattle.fastq.specs.declared.Part.TheVariants.{Bases, Qualities}
use Rattle.fastq.specs.declared.QualityRow.{QualityRow}
use Rattle.fastq_index.specs.File.{rows_at}
use Rattle.checker.specs.Check.{and_then}
use Rattle.fastq_checker.specs.Check.{places_say, record_says, records_say}
use Rattle.fastq_checker.specs.Elsewhere.{places_of}
use Rattle.fastq_checker.specs.declared.Place.{Place}
use Rattle.fastq_checker.specs.declared.Step.{Step}
use Rattle.fastq_checker.specs.declared.Step.TheVariants as step

-- 23 for a part of a record whose bytes lie where its numbers say
unfoldable pub part_says_of : ℕ → QualityRow → QualityRow → Part → Result ⊤ Refusal
part_says_of n x y p = places_say n (first_elsewhere (place_in (part_of p y)) 0 (places_of (part_of p x))) (Ok tt)

-- its bases, then its qualities
unfoldable pub parts_say : ℕ → QualityRow → QualityRow → Result ⊤ Refusal
parts_say n x y = and_then (part_says_of n x y Bases) (part_says_of n x y Qualities)

-- what the indexer refuses, or what the index says
unfoldable pub stop_then : Result ⊤ Refusal → Result ⊤ Refusal → Result ⊤ Refusal
stop_then (Ok _) v = v
stop_then (Err y) v = Err y

-- the place behind a record that ends at an offset, and behind its line
abbrev pub place_behind : List ℕ → Place → ℕ → Place
place_behind i w next = record { fastq = next; index = line_end i w.index; records = w.records + 1 }

-- the place behind a record that is accepted
unfoldable pub judged_as : Result ⊤ Refusal → Place → Step
judged_as (Ok _) next = step.Next next
judged_as (Err x) next = step.Refused x

-- what the indexer finds at a place, against the lines from the place on
abbrev pub step_from : List ℕ → List ℕ → Place → Result (Option QualityRow) Refusal → ℕ → Step
step_from f i w (Ok (Some x)) next = judged_as (record_says (w.records + 1) f x (lines (drop w.index i))) (place_behind i w next)
step_from f i w (Ok None) next = step.End
step_from f i w (Err y) next = step.Stopped y

unfoldable pub step_of : List ℕ → List ℕ → Place → Step
step_of f i w = step_from f i w (record_at f w.fastq).answer (record_at f w.fastq).next

-- what the file and the lines from a place on lead to
unfoldable pub check_at : List ℕ → List ℕ → Place → Result ⊤ Refusal
check_at f i w = stop_then (rows_at f w.fastq).stop (records_say w.records f (rows_at f w.fastq).rows (lines (drop w.index i)))
