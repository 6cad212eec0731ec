-- What the calls answer: a primer is judged, its length before its letters; then its sequences are counted, or a place is found.
use Rattle.std.specs.Prelude.{ℕ, suc, cond, List, [], ◌∷◌, eqb, ltb, length, Option, Some, None, Result, Ok, Err, ⊤}
use Rattle.refusal.specs.declared.Refusal.{Refusal}
use Rattle.refusal.specs.Numbers.{over_limit}
use Rattle.refusal.specs.declared.Refusal.TheVariants.{TooLong, PrimerLength, PrimerLetter}
use Rattle.letters.specs.Letters.{set_of}
use Rattle.primer.specs.Search.{next_of}
use Rattle.primer.specs.Sequences.{stands_for}

-- the first letter that has no code, the first being at the place `at`
unfoldable pub letters_judged : ℕ → List ℕ → Result ⊤ Refusal
letters_judged at [] = Ok tt
letters_judged at (p ∷ ps) = cond (eqb (set_of p) 0) (Err (PrimerLetter at)) (letters_judged (suc at) ps)

unfoldable pub judged : List ℕ → Result ⊤ Refusal
judged ps = cond (eqb (length ps) 0) (Err PrimerLength) (cond (ltb 31 (length ps)) (Err PrimerLength) (letters_judged 0 ps))

-- how many plain sequences a primer stands for
unfoldable pub degeneracy_by : Result ⊤ Refusal → List ℕ → Result ℕ Refusal
degeneracy_by (Ok tt) ps = Ok (length (stands_for ps))
degeneracy_by (Err r) ps = Err r

unfoldable pub degeneracy_read : List ℕ → Result ℕ Refusal
degeneracy_read ps = cond (over_limit (length ps)) (Err TooLong) (degeneracy_by (judged ps) ps)

-- the first place of a primer in a text that is not before `from`
unfoldable pub place_told : Option ℕ → Result (Option ℕ) Refusal
place_told (Some k) = Ok (Some k)
place_told None = Ok None

unfoldable pub place_by : Result ⊤ Refusal → Option ℕ → Result (Option ℕ) Refusal
place_by (Ok tt) f = place_told f
place_by (Err r) f = Err r

unfoldable pub place_read : List ℕ → List ℕ → ℕ → Result (Option ℕ) Refusal
place_read ps s from =
    cond (over_limit (length ps)) (Err TooLong) (cond (over_limit (length s)) (Err TooLong) (place_by (judged ps) (next_of ps s from)))
