-- Are two byte strings the same.
use Rattle.std.specs.Prelude.{ℕ, ◌≡◌, refl, List, [], ◌∷◌, Bool, true, false, ◌&&◌, eqb}
use Rattle.std.proofs.Common.{sym, true≢false, eq-eqb, eqb-true}

unfoldable pub same_bytes : List ℕ → List ℕ → Bool
same_bytes [] [] = true
same_bytes [] (b ∷ t) = false
same_bytes (a ∷ s) [] = false
same_bytes (a ∷ s) (b ∷ t) = eqb a b && same_bytes s t

pub same_refl : (s : List ℕ) → same_bytes s s ≡ true
unfolding same_bytes
same_refl [] = refl
same_refl (a ∷ s) = rw (eq-eqb a a refl) (same_refl s)

pub same_true : (s t : List ℕ) → same_bytes s t ≡ true → s ≡ t
unfolding same_bytes
same_true [] [] h = refl
same_true [] (b ∷ t) h = absurd (true≢false (sym h))
same_true (a ∷ s) [] h = absurd (true≢false (sym h))
same_true (a ∷ s) (b ∷ t) h = go (eqb a b) refl (same_true s t) h
  where
    go : (e : Bool) → eqb a b ≡ e → (same_bytes s t ≡ true → s ≡ t) → (e && same_bytes s t) ≡ true → a ∷ s ≡ b ∷ t
    go true e f k = let p : a ≡ b = eqb-true _ _ e in let q : s ≡ t = f k in cc
    go false e f k = absurd (true≢false (sym k))

-- a test that holds exactly for equal bytes is this one
pub same-is : (s t : List ℕ) (r : Bool) → (r ≡ true → s ≡ t) → (s ≡ t → r ≡ true) → r ≡ same_bytes s t
same-is s t true f g = sym (rw (f refl) (same_refl t))
same-is s t false f g = go (same_bytes s t) refl
  where
    go : (e : Bool) → same_bytes s t ≡ e → false ≡ e
    go true h = absurd (true≢false (sym (g (same_true s t h))))
    go false h = refl
