-- What it means that a read covers a base.
use Rattle.std.specs.Prelude.{ℕ, suc, ◌≤◌, ◌≡◌, List, Option}
use Rattle.record.specs.declared.Position.{Position}
use Rattle.region.specs.Region.{start_of, end_of}
use Rattle.mission.specs.TableOf.{base_count}

-- the read of row r with these bounds covers base j + 1 of record k
pub record Covers (f : List ℕ) (k j r : ℕ) (a e : Option Position) : Type 0 where
  pub row : r ≡ k
  pub from : start_of a ≤ suc j
  pub to : suc j ≤ end_of (base_count f k) e
