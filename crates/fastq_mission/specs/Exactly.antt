-- Demand 3 for FASTQ, "exactly": the checker accepts a file and an index of six columns if and only if both are within the limit, the indexer takes
-- the file to its end, there is one readable line for each record, in the file's order, with the same name and the same count of bases, nothing is
-- left over, and the line's numbers give the offset of every base and of every quality. `Accepts` of the crate fastq_checker says so.
--
-- Each refusal means what R88 of docs/RULES.md says, the first fault in the given order; and where that is the first fault, the checker gives that
-- refusal. FirstFault.antt says what each is.
use Rattle.std.specs.Prelude.{ℕ, ◌≡◌, List, Ok, Err}
use Rattle.refusal.specs.declared.Refusal.{Refusal}
use Rattle.fastq_checker.specs.Check.{check_of}
use Rattle.fastq_checker.specs.Accepts.{Accepts}
use Rattle.fastq_mission.specs.FirstFault.{FirstFault}
use Rattle.fastq_mission.specs.AllSaid.{check-means, check-only}

pub accepted-only-if : (f i : List ℕ) → check_of f i ≡ Ok tt → Accepts f i
accepted-only-if f i h = rw h at (check-means f i)

pub accepted-if : (f i : List ℕ) → Accepts f i → check_of f i ≡ Ok tt
accepted-if f i a = check-only f i (Ok tt) a

pub refused-only-if : (f i : List ℕ) (y : Refusal) → check_of f i ≡ Err y → FirstFault f i y
refused-only-if f i y h = rw h at (check-means f i)

pub refused-if : (f i : List ℕ) (y : Refusal) → FirstFault f i y → check_of f i ≡ Err y
refused-if f i y e = check-only f i (Err y) e
