-- The plain sequences that a primer stands for: of all sequences over A, C, G, T that have its length, those that fit it.
use Rattle.std.specs.Prelude.{ℕ, zero, suc, Bool, cond, List, [], ◌∷◌, ◌++◌, map, length}
use Prim.Native.Char.{code}
use Prim.Native.String.{String, [] as empty, ◌∷◌ as ◌◂◌}
use Rattle.primer.specs.Search.{matches}

-- each letter of a text in front of each of some sequences
abbrev pub fronted : String → List (List ℕ) → List (List ℕ)
fronted empty l = []
fronted (x ◂ s) l = map (λ (t : List ℕ). code x ∷ t) l ++ fronted s l

-- all sequences of n letters over A, C, G, T
unfoldable pub plain : ℕ → List (List ℕ)
plain zero = [] ∷ []
plain (suc n) = fronted "ACGT" (plain n)

-- those that pass a test
unfoldable pub kept : (List ℕ → Bool) → List (List ℕ) → List (List ℕ)
kept f [] = []
kept f (t ∷ l) = cond (f t) (t ∷ kept f l) (kept f l)

unfoldable pub stands_for : List ℕ → List (List ℕ)
stands_for ps = kept (matches ps) (plain (length ps))
