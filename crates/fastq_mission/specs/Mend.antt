-- What mending a base of a FASTQ file is: a base by its record, its number and its offset, the byte that takes its place, and what it means that a read
-- covers the base.
use Rattle.std.specs.Prelude.{ℕ, suc, ◌≤◌, ◌<◌, ◌≡◌, List, Option}
use Rattle.record.specs.declared.Position.{Position}
use Rattle.region.specs.Region.{start_of, end_of}
use Rattle.fastq.specs.declared.Part.{Part}
use Rattle.fastq.specs.declared.Part.TheVariants.{Bases}
use Rattle.fastq_mission.specs.TableOf.{record_count, base_count, base_place}

-- offset o of a file is that of base j + 1 of record k, by the line rule
pub record BaseAt (f : List ℕ) (k j o : ℕ) : Type 0 where
  pub record' : k < record_count f
  pub base : j < base_count f k Bases
  pub place : base_place f k Bases j ≡ o

-- a byte other than LF, CR and '+'. The request bars '>' and '@' too; they need not be: a sequence line may begin with either
pub record Plain (b : ℕ) : Type 0 where
  pub no-lf : b ≡ 10 → ⊥
  pub no-cr : b ≡ 13 → ⊥
  pub no_plus : b ≡ 43 → ⊥

-- the read of a part of row r with these bounds covers base j + 1 of record k: a read of qualities covers none
pub record Covers (f : List ℕ) (k j r : ℕ) (p : Part) (a e : Option Position) : Type 0 where
  pub row : r ≡ k
  pub part : p ≡ Bases
  pub from : start_of a ≤ suc j
  pub to : suc j ≤ end_of (base_count f k Bases) e
