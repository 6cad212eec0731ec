-- Laws of places: what the first base elsewhere says of every base.
use Prim.Native.Nat.{ℕ, zero, suc, ◌+◌, ◌<◌}
use Rattle.std.specs.Prelude.{◌≡◌, Bool, true, false, cond, get_or, eqb, Option, Some, None}
use Rattle.std.proofs.Math.Path.{refl, ap}
use Rattle.std.proofs.Common.{sym, ◌∙◌, eq-eqb, ne_eqb, eqb-true, zero-add}
use mathlib.Core.List.{List, [], ◌∷◌, ◌++◌}
use Rattle.std.proofs.Math.ListN.{length}
use Rattle.std.proofs.lemmas.Bool.{eqb-false}
use native.Mathlib.Omega.{arith}
use Rattle.std.proofs.Math.Nat.{add-zero}
use Rattle.lines.specs.Lines.{sum_bases, bases_at}
use Rattle.record.specs.EvenLines.{length-bases_at}
use Rattle.record.specs.declared.Position.{Position}
use Rattle.record.specs.declared.Offset.{Offset}
use Rattle.walking.specs.Places.{first_elsewhere, walked_as}

-- the first fault of two
abbrev pub first_of : Option (Position × Offset) → Option (Position × Offset) → Option (Position × Offset)
first_of None y = y
first_of (Some (q, o)) y = Some (q, o)

module _ (f : ℕ → ℕ) where
  -- one base on
  shifted : (i : ℕ) (o : ℕ) (os : List ℕ) (n : ℕ) → ((j : ℕ) → j < suc n → get_or (o ∷ os) j 0 ≡ f (i + j)) → (j : ℕ) → j < n → get_or os j 0 ≡ f (suc i + j)
  shifted i o os n h j m = h (suc j) (omega arith) ∙ ap f q
    where
      q : i + suc j ≡ suc i + j
      q = omega arith

  first-there : (i o : ℕ) → o ≡ f (i + 0) → eqb o (f i) ≡ true
  first-there i o h = eq-eqb o (f i) (h ∙ ap f (add-zero i))

  pub all_there : (i : ℕ) (os : List ℕ) → ((j : ℕ) → j < length os → get_or os j 0 ≡ f (i + j)) → None ≡ first_elsewhere f i os
  unfolding first_elsewhere
  all_there i [] h = refl
  all_there i (o ∷ os) h = rw (first-there i o (h 0 (omega arith))) (all_there (suc i) os (shifted i o os (length os) h))

  pub first-elsewhere : (i m : ℕ) (os : List ℕ) → m < length os → ((j : ℕ) → j < m → get_or os j 0 ≡ f (i + j)) → (get_or os m 0 ≡ f (i + m) → ⊥)
      → Some ((record { 0 = suc (i + m) }), (record { 0 = get_or os m 0 })) ≡ first_elsewhere f i os
  unfolding first_elsewhere
  first-elsewhere i m [] l h n = absurd (omega arith)
  first-elsewhere i zero (o ∷ os) l h n = rw (ne_eqb o (f i) (λ e. n (e ∙ ap f (sym (add-zero i)))), add-zero i)
  first-elsewhere i (suc m) (o ∷ os) l h n =
      rw (first-there i o (h 0 (omega arith)), q)
      (first-elsewhere (suc i) m os (omega arith) (shifted i o os m h) (λ e. n (e ∙ ap f (sym q))))
    where
      q : i + suc m ≡ suc i + m
      q = omega arith

  -- the first base elsewhere, in words: every base is at its place, or base j is the first that is not
  pub data PlacesSaid (i : ℕ) (os : List ℕ) : Option (Position × Offset) → Type 0 where
    all : ((j : ℕ) → j < length os → get_or os j 0 ≡ f (i + j)) → PlacesSaid i os None
    one : (p : Position) (o : Offset) (j : ℕ) → p.0 ≡ suc (i + j) → o.0 ≡ get_or os j 0 → j < length os → ((m : ℕ) → m < j → get_or os m 0 ≡ f (i + m)) → (get_or os j 0 ≡ f (i + j) → ⊥) → PlacesSaid i os (Some (p, o))

  pub places-only : (i : ℕ) (os : List ℕ) (p : Option (Position × Offset)) → PlacesSaid i os p → p ≡ first_elsewhere f i os
  places-only i os p (all h) = all_there i os h
  places-only i os p (one q o j e g l h n) = rw (← g, ← e) at (first-elsewhere i j os l h n)

  pub places-said : (i : ℕ) (os : List ℕ) → PlacesSaid i os (first_elsewhere f i os)
  unfolding first_elsewhere
  places-said i [] = all (λ j h. absurd (omega arith))
  places-said i (o ∷ os) = go (eqb o (f i)) refl (first_elsewhere f (suc i) os) (places-said (suc i) os)
    where
      here : o ≡ f i → o ≡ f (i + 0)
      here e = e ∙ ap f (sym (add-zero i))

      more : (n : ℕ) → o ≡ f i → ((m : ℕ) → m < n → get_or os m 0 ≡ f (suc i + m)) → (m : ℕ) → m < suc n → get_or (o ∷ os) m 0 ≡ f (i + m)
      more n e h zero l = here e
      more n e h (suc m) l = h m (omega arith) ∙ ap f (omega arith)

      go : (t : Bool) → eqb o (f i) ≡ t → (p : Option (Position × Offset)) → PlacesSaid (suc i) os p → PlacesSaid i (o ∷ os) (cond t p (Some ((record { 0 = suc i }), (record { 0 = o }))))
      go false e p s = one (record { 0 = suc i }) (record { 0 = o }) 0 (omega arith) refl (omega arith) (λ m l. absurd (omega arith)) (λ g. eqb-false _ _ e (g ∙ ap f (add-zero i)))
      go true e p (all h) = all (more (length os) (eqb-true _ _ e) h)
      go true e p (one q y j g r l h n) = one q y (suc j) (omega arith) r (omega arith) (more j (eqb-true _ _ e) h) (λ k. n (k ∙ ap f (omega arith)))

  pub elsewhere-append : (i : ℕ) (xs ys : List ℕ) → first_elsewhere f i (xs ++ ys) ≡ first_of (first_elsewhere f i xs) (first_elsewhere f (i + length xs) ys)
  unfolding first_elsewhere
  elsewhere-append i [] ys = rw (add-zero i)
  elsewhere-append i (x ∷ xs) ys = go (eqb x (f i)) (elsewhere-append (suc i) xs ys)
    where
      q : suc i + length xs ≡ i + suc (length xs)
      q = omega arith

      go : (t : Bool) → first_elsewhere f (suc i) (xs ++ ys) ≡ first_of (first_elsewhere f (suc i) xs) (first_elsewhere f (suc i + length xs) ys)
          → cond t (first_elsewhere f (suc i) (xs ++ ys)) (Some ((record { 0 = suc i }), (record { 0 = x })))
          ≡ first_of (cond t (first_elsewhere f (suc i) xs) (Some ((record { 0 = suc i }), (record { 0 = x })))) (first_elsewhere f (i + suc (length xs)) ys)
      go true h = rw (← q) h
      go false h = refl

-- places that are the same for every base lead to the same
pub elsewhere-same : (f g : ℕ → ℕ) (i : ℕ) (os : List ℕ) → ((j : ℕ) → j < length os → f (i + j) ≡ g (i + j)) → first_elsewhere f i os ≡ first_elsewhere g i os
unfolding first_elsewhere
elsewhere-same f g i [] h = refl
elsewhere-same f g i (o ∷ os) h = rw (first, elsewhere-same f g (suc i) os (λ j m. rest j m))
  where
    first : f i ≡ g i
    first = rw add-zero at (h 0 (omega arith))

    rest : (j : ℕ) → j < length os → f (suc i + j) ≡ g (suc i + j)
    rest j m =
        let q : i + suc j ≡ suc i + j = omega arith in
        rw q at (h (suc j) (omega arith))

pub walked_same : (f g : ℕ → ℕ) (at : ℕ) (ls : List (List ℕ)) → ((i : ℕ) → i < sum_bases ls → f i ≡ g i) → walked_as f at ls ≡ walked_as g at ls
unfolding walked_as
walked_same f g at ls h = rw (elsewhere-same f g 0 (bases_at at ls) (λ j m. rw zero-add (h j (rw length-bases_at at m))))
