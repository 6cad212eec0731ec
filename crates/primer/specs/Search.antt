-- Where a primer is found in a text: the first place, and the first that is not before a given one.
use Rattle.std.specs.Prelude.{ℕ, suc, Bool, true, false, cond, ◌&&◌, List, [], ◌∷◌, drop, Option, Some, None}
use Rattle.letters.specs.Letters.{set_of}
use Rattle.letters.specs.Sets.{inside}

-- a text byte's set lies inside a primer letter's set
unfoldable pub fits : ℕ → ℕ → Bool
fits p b = inside (set_of b) (set_of p)

-- the text begins with bytes that fit the primer's letters one by one
unfoldable pub matches : List ℕ → List ℕ → Bool
matches [] s = true
matches (p ∷ ps) [] = false
matches (p ∷ ps) (b ∷ s) = fits p b && matches ps s

-- the first place from which the text does so, the first being `at`
unfoldable pub first_from : List ℕ → ℕ → List ℕ → Option ℕ
first_from ps at [] = None
first_from ps at (b ∷ s) = cond (matches ps (b ∷ s)) (Some at) (first_from ps (suc at) s)

unfoldable pub first_of : List ℕ → List ℕ → Option ℕ
first_of ps s = first_from ps 0 s

-- the first place that is not before `from`
unfoldable pub next_of : List ℕ → List ℕ → ℕ → Option ℕ
next_of ps s from = first_from ps from (drop from s)
