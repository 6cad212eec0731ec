-- Where a primer matches, said without a walk over the text.
use Rattle.std.specs.Prelude.{ℕ, ◌+◌, ◌≤◌, ◌<◌, ◌≡◌, true, List, length, get_or}
use Rattle.letters.specs.Letters.{set_of}
use Rattle.primer.specs.Search.{fits}

-- a primer matches a text at a place: it ends inside the text, and each byte there fits its letter
pub record MatchesAt (ps s : List ℕ) (k : ℕ) : Type 0 where
  pub ends : k + length ps ≤ length s
  pub each : (j : ℕ) → j < length ps → fits (get_or ps j 0) (get_or s (k + j) 0) ≡ true

-- k is the first such place that is not before `from`
pub record FirstAt (ps s : List ℕ) (from k : ℕ) : Type 0 where
  pub later : from ≤ k
  pub matches : MatchesAt ps s k
  pub first : (i : ℕ) → from ≤ i → i < k → MatchesAt ps s i → ⊥

-- a primer has 1 to 31 letters
abbrev pub Sized : List ℕ → Type 0
Sized ps = (1 ≤ length ps) × (length ps ≤ 31)

-- each letter before place k has a code
abbrev pub CodedTo : List ℕ → ℕ → Type 0
CodedTo ps k = (j : ℕ) → j < k → set_of (get_or ps j 0) ≡ 0 → ⊥

-- the first letter without a code is at place k
pub record FirstUncoded (ps : List ℕ) (k : ℕ) : Type 0 where
  pub there : k < length ps
  pub uncoded : set_of (get_or ps k 0) ≡ 0
  pub first : CodedTo ps k
