-- The one call by name, as it was before looking up and reading became two calls; and what it means that two calls answer as the one did.
use Rattle.std.specs.Prelude.{ℕ, ◌≡◌, List, false, cond, length, Option, Result, Ok, Err}
use Rattle.record.specs.declared.Position.{Position}
use Rattle.refusal.specs.Numbers.{over_limit}
use Rattle.refusal.specs.declared.Refusal.{Refusal}
use Rattle.refusal.specs.declared.Refusal.TheVariants.{TooLong}
use Rattle.index.specs.Find.{row_read}
use Rattle.output.specs.Outcome.{Outcome, refuses}
use Rattle.region.specs.Exact.{exact_read}
use Rattle.region.specs.Raw.{raw_read}
use Rattle.region.specs.Refusals.{OfLookUp, ReadRefuses}

-- the row that has a name, for a file of so many bytes: 1 first, for the file, the names and the name
unfoldable pub row_for : ℕ → List ℕ → List ℕ → ℕ → List ℕ → Result ℕ Refusal
row_for bytes names t u name = cond (over_limit bytes) (Err TooLong) (row_read names t u name)

-- the row that is found is read
unfoldable pub read_found : Result ℕ Refusal → (ℕ → Outcome (Result ℕ Refusal)) → List ℕ → Outcome (Result ℕ Refusal)
read_found (Err f) read out = refuses f out
read_found (Ok r) read out = read r

-- the exact read, and the raw read, of the row that has a name
unfoldable pub exact_named : List ℕ → List ℕ → List ℕ → ℕ → List ℕ → Option Position → Option Position → List ℕ → Outcome (Result ℕ Refusal)
exact_named s names t u name a e out = read_found (row_for (length s) names t u name) (λ r. exact_read s t u r a e out) out

unfoldable pub raw_named : List ℕ → List ℕ → List ℕ → ℕ → List ℕ → Option Position → Option Position → List ℕ → Outcome (Result ℕ Refusal)
raw_named s names t u name a e out = read_found (row_for (length s) names t u name) (λ r. raw_read s t u r a e out) out

-- one call has the outcome of two: a refusal of the first is its answer, and leaves the output as it was; else it has the second's outcome,
-- for the row that the first gives. Each has its own refusals
pub record Split (one : Outcome (Result ℕ Refusal)) (first : Result ℕ Refusal) (second : ℕ → Outcome (Result ℕ Refusal)) (out : List ℕ) : Type 0 where
  pub refused : (f : Refusal) → first ≡ Err f → OfLookUp f × (one ≡ refuses f out)
  pub read : (r : ℕ) → first ≡ Ok r → (one ≡ second r) × ReadRefuses (second r)

-- the lent bytes are within the limit
pub record Small (s names name : List ℕ) : Type 0 where
  pub file : over_limit (length s) ≡ false
  pub rows : over_limit (length names) ≡ false
  pub wanted : over_limit (length name) ≡ false
