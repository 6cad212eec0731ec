-- What it means that a row is the first that has a name.
use Rattle.std.specs.Prelude.{ℕ, ◌<◌, ◌≡◌, List, false, length, Ok}
use Rattle.refusal.specs.Numbers.{over_limit}
use Rattle.record.specs.declared.Record.{Record}
use Rattle.table.specs.Rows.{named_at}
use Rattle.index_line.specs.IndexLine.{name_in}

-- row r of a table with n rows in use is sound, and its name, a span of `names`, is `name`; or is another
pub record Has (names t : List ℕ) (n : ℕ) (name : List ℕ) (r : ℕ) : Type 0 where
  pub row : Record
  pub sound : named_at t n r (length names) ≡ Ok row
  pub same : name_in names row ≡ name

pub record HasAnother (names t : List ℕ) (n : ℕ) (name : List ℕ) (r : ℕ) : Type 0 where
  pub row : Record
  pub sound : named_at t n r (length names) ≡ Ok row
  pub other : name_in names row ≡ name → ⊥

-- row r is the first that has the name
pub record IsFirst (names t : List ℕ) (n : ℕ) (name : List ℕ) (r : ℕ) : Type 0 where
  pub here : Has names t n name r
  pub before : (k : ℕ) → k < r → HasAnother names t n name k

-- over the call: the names and the name are within the limit too
pub record Wins (names t : List ℕ) (n : ℕ) (name : List ℕ) (r : ℕ) : Type 0 where
  pub small-names : over_limit (length names) ≡ false
  pub small-name : over_limit (length name) ≡ false
  pub is-first : IsFirst names t n name r
