-- Bases with T in the place of U, and bases without a U.
use Rattle.std.specs.Prelude.{ℕ, ◌≡◌, cond, List, [], ◌∷◌, eqb}
use Prim.Native.Char.{code}

-- a base, with T in the place of U
unfoldable pub thymine : ℕ → ℕ
thymine b = cond (eqb b (code "U")) (code "T") (cond (eqb b (code "u")) (code "t") b)

-- no base is U
abbrev pub NoU : List ℕ → Type 0
NoU [] = Unit {0}
NoU (b ∷ s) = (b ≡ code "U" → ⊥) × ((b ≡ code "u" → ⊥) × NoU s)
