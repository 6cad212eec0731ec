-- A part of a file, and which bases of a region lie in it: all of them, or how many up to the first that does not.
use Rattle.std.specs.Prelude.{ℕ, suc, ◌+◌, ◌-◌, ◌≤◌, ◌<◌, min, max, List, [], ◌∷◌, Bool, cond, ◌&&◌, ltb, leb}
use Rattle.record.specs.declared.Record.{Record}
use Rattle.record.specs.Place.{place_in}
use Rattle.region.specs.declared.Part.{Part}

-- is an offset one of those from f up to t
unfoldable pub is_in : ℕ → ℕ → ℕ → Bool
is_in f t o = leb f o && ltb o t

-- how many of some offsets are, up to the first that is not
unfoldable pub in_part : ℕ → ℕ → List ℕ → ℕ
in_part f t [] = 0
in_part f t (o ∷ os) = cond (is_in f t o) (suc (in_part f t os)) 0

-- the smallest of some offsets
unfoldable pub lowest : List ℕ → ℕ
lowest [] = 0
lowest (o ∷ []) = o
lowest (o ∷ q ∷ os) = min o (lowest (q ∷ os))

-- the offset behind the largest
unfoldable pub behind : List ℕ → ℕ
behind [] = 0
behind (o ∷ os) = max (suc o) (behind os)

-- the part of a file from the smallest of some offsets to the largest
unfoldable pub part_of : List ℕ → Part
part_of os = record { from = record { 0 = lowest os }; to = record { 0 = behind os } }

-- n bases from base a on all lie in the bytes from offset f up to offset t
pub record LieIn (f t : ℕ) (x : Record) (a n : ℕ) : Type 0 where
  pub each : (p : ℕ) → a ≤ p → p < a + n → (f ≤ place_in x (p - 1)) × (place_in x (p - 1) < t)
