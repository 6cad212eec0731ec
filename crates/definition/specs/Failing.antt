-- Where reading a definition line failed, and the refusal for it (docs/RULES.md, R10).
use Rattle.std.specs.Prelude.{ℕ, suc, ◌≡◌, refl, List, [], ◌∷◌, Bool, true, false, cond, eqb, Err}
use Rattle.std.proofs.Common.{eqb-true, arith}
use Rattle.std.proofs.lemmas.Bool.{eqb-false}
use Rattle.refusal.specs.Numbers.{numbers_of}
use Rattle.definition.specs.Definition.{is_space, spaced, run, named_of, content_says, fails_at, refusal_of}
use Rattle.definition.specs.declared.Fault.{Fault}
use Rattle.definition.specs.declared.Fault.TheVariants.{Empty, NoPrefix, NoName}

-- a content goes wrong at a place: it ends there, or has a byte that no definition line has there
pub data StopsAt : List ℕ → ℕ → Type 0 where
  empty : StopsAt [] 0
  no-prefix : {b : ℕ} {s : List ℕ} → (b ≡ 62 → ⊥) → StopsAt (b ∷ s) 0
  prefix-alone : StopsAt (62 ∷ []) 1
  space-for-name : {b : ℕ} {s : List ℕ} → is_space b ≡ true → StopsAt (62 ∷ b ∷ s) 1

-- the answered place is that place
pub stops_at : (l : List ℕ) (f : Fault) → content_says l ≡ Err f → StopsAt l (fails_at f)
unfolding content_says fails_at run
stops_at [] f h = let e : Empty ≡ f = cc in rw (← e) empty
stops_at (b ∷ s) f h = prefixed (eqb b 62) refl h
  where
    named : (s : List ℕ) → named_of s (run (spaced false) s) ≡ Err f → StopsAt (62 ∷ s) (fails_at f)
    named [] k = let e : NoName ≡ f = cc in rw (← e) prefix-alone
    named (c ∷ s) k = go (is_space c) refl k
      where
        go : (t : Bool) → is_space c ≡ t → named_of (c ∷ s) (run (spaced false) (c ∷ s)) ≡ Err f → StopsAt (62 ∷ c ∷ s) (fails_at f)
        go true e k = let v : Err NoName ≡ Err f = rw e at k in let q : NoName ≡ f = cc in rw (← q) (space-for-name e)
        go false e k = let v : named_of (c ∷ s) (suc (run (spaced false) s)) ≡ Err f = rw e at k in let z : ◌≡◌ {A = ℕ} 0 1 = cc in absurd (omega arith)

    prefixed : (t : Bool) → eqb b 62 ≡ t → cond t (named_of s (run (spaced false) s)) (Err NoPrefix) ≡ Err f → StopsAt (b ∷ s) (fails_at f)
    prefixed true e k = rw (eqb-true b 62 e) (named s k)
    prefixed false e k = let q : NoPrefix ≡ f = cc in rw (← q) (no-prefix (eqb-false b 62 e))

-- the number of each fault
unfoldable pub number_of : Fault → ℕ
number_of Empty = 2
number_of NoPrefix = 3
number_of NoName = 4

-- the refusal of a fault has the fault's number, and the two numbers that it was given
pub tells : (f : Fault) (a b : ℕ) → numbers_of (refusal_of f a b) ≡ record { refusal = number_of f; first = a; second = b }
unfolding numbers_of refusal_of number_of
tells Empty a b = refl
tells NoPrefix a b = refl
tells NoName a b = refl
