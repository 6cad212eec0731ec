-- Laws for PlaceTheorems.antt: which tests an answer follows from.
use Rattle.std.specs.Prelude.{ℕ, suc, ◌≤◌, Bool, List, [], ◌∷◌, ◌↔◌, Option, Some, None, Result, Ok, Err, ⊤}
use Rattle.std.proofs.Math.Path.{◌≡◌, refl, sym, ap}
use Rattle.std.proofs.Common.{◌∙◌, true≢false}
use Rattle.std.proofs.Math.Bool.{true, false, cond}
use native.Mathlib.Omega.{arith}
use Rattle.std.proofs.Math.Dec.{eqb, ltb}
use Rattle.std.proofs.Math.ListN.{length}
use borrow.Author.Tests.{eqb-true, eqb-false, ltb-true, ltb-false}
use Rattle.refusal.specs.Numbers.{over_limit}
use Rattle.refusal.specs.declared.Refusal.{Refusal}
use Rattle.refusal.specs.declared.Refusal.TheVariants.{TooLong, PrimerLength, PrimerLetter}
use Rattle.letters.specs.Letters.{set_of}
use Rattle.primer.specs.Search.{next_of}
use Rattle.primer.specs.Sequences.{stands_for}
use Rattle.primer.specs.Primer.{letters_judged, judged, degeneracy_by, degeneracy_read, place_told, place_by, place_read}
use Rattle.primer.specs.Places.{MatchesAt, FirstAt, Sized, CodedTo, FirstUncoded}
use Rattle.primer.specs.PlaceLaws.{found_first, first_found, none_found, found_none, letter-first, first-letter, letters-coded, coded-letters}
use Rattle.primer.specs.Laws.{judged-fit, judged-letters, judged-none, judged-long, place-within, degeneracy-within}

abbrev Within : List ℕ → Type 0
Within s = over_limit (length s) ≡ false

abbrev Taken : List ℕ → Type 0
Taken ps = Within ps × (Sized ps × CodedTo ps (length ps))

-- ---- how a primer is judged

-- judging the letters refuses only for a letter
letters-only : (r : Refusal) → ((k : ℕ) → PrimerLetter k ≡ r → ⊥) → (at : ℕ) (qs : List ℕ) → letters_judged at qs ≡ Err r → ⊥
unfolding letters_judged
letters-only r x at [] e = let z : ◌≡◌ {A = ℕ} 0 1 = cc in omega arith
letters-only r x at (q ∷ qs) e = go (eqb (set_of q) 0) (letters-only r x (suc at) qs) e
  where
    go : (v : Bool) → (letters_judged (suc at) qs ≡ Err r → ⊥) → cond v (Err (PrimerLetter at)) (letters_judged (suc at) qs) ≡ Err r → ⊥
    go true more e = x at cc
    go false more e = more e

letter-is-not-length : (k : ℕ) → PrimerLetter k ≡ PrimerLength → ⊥
letter-is-not-length k e = let z : ◌≡◌ {A = ℕ} 0 1 = cc in omega arith

letter-is-not-size : (k : ℕ) → PrimerLetter k ≡ TooLong → ⊥
letter-is-not-size k e = let z : ◌≡◌ {A = ℕ} 0 1 = cc in omega arith

module _ (ps : List ℕ) where
  sized-letters : Sized ps → letters_judged 0 ps ≡ judged ps
  sized-letters z = judged-letters ps (λ e. omega (arith, z.0)) z.1

  not-sized : (Sized ps → ⊥) → judged ps ≡ Err PrimerLength
  not-sized n = go (eqb (length ps) 0) refl (ltb 31 (length ps)) refl
    where
      go : (v : Bool) → eqb (length ps) 0 ≡ v → (w : Bool) → ltb 31 (length ps) ≡ w → judged ps ≡ Err PrimerLength
      go true e w l = sym (judged-none ps (eqb-true _ _ e))
      go false e true l = sym (judged-long ps (eqb-false _ _ e) (ltb-true 31 (length ps) l))
      go false e false l = let z : length ps ≡ 0 → ⊥ = eqb-false _ _ e in absurd (n (omega arith, ltb-false 31 (length ps) l))

  other_length : judged ps ≡ Err PrimerLength → Sized ps → ⊥
  other_length e z = letters-only PrimerLength letter-is-not-length 0 ps (sized-letters z ∙ e)

  fit : judged ps ≡ Ok tt → Sized ps × CodedTo ps (length ps)
  fit e = let z = judged-fit ps (sym e) in (z, letters-coded 0 ps (sized-letters z ∙ e))

  so-fit : Sized ps → CodedTo ps (length ps) → Ok tt ≡ judged ps
  so-fit z f = sym (coded-letters 0 ps f) ∙ sized-letters z

  letter : (k : ℕ) → judged ps ≡ Err (PrimerLetter k) → Sized ps × FirstUncoded ps k
  unfolding judged
  letter k e = go (eqb (length ps) 0) refl (ltb 31 (length ps)) refl e
    where
      go : (v : Bool) → eqb (length ps) 0 ≡ v → (w : Bool) → ltb 31 (length ps) ≡ w
          → cond v (Err PrimerLength) (cond w (Err PrimerLength) (letters_judged 0 ps)) ≡ Err (PrimerLetter k) → Sized ps × FirstUncoded ps k
      go true e w l q = let z : ◌≡◌ {A = ℕ} 0 1 = cc in absurd (omega arith)
      go false e true l q = let z : ◌≡◌ {A = ℕ} 0 1 = cc in absurd (omega arith)
      go false e false l q = let z : length ps ≡ 0 → ⊥ = eqb-false _ _ e in ((omega arith, ltb-false 31 (length ps) l), letter-first ps k q)

  so-letter : (k : ℕ) → Sized ps → FirstUncoded ps k → Err (PrimerLetter k) ≡ judged ps
  so-letter k z f = sym (first-letter ps k f) ∙ sized-letters z

  -- judging a primer never gives the size limit's refusal
  not-by-size : judged ps ≡ Err TooLong → ⊥
  unfolding judged
  not-by-size e = go (eqb (length ps) 0) (ltb 31 (length ps)) e
    where
      go : (v w : Bool) → cond v (Err PrimerLength) (cond w (Err PrimerLength) (letters_judged 0 ps)) ≡ Err TooLong → ⊥
      go true w q = let z : ◌≡◌ {A = ℕ} 0 1 = cc in omega arith
      go false true q = let z : ◌≡◌ {A = ℕ} 0 1 = cc in omega arith
      go false false q = letters-only TooLong letter-is-not-size 0 ps q

-- ---- answers taken apart

abbrev told : Bool → Bool → Result ⊤ Refusal → Option ℕ → Result (Option ℕ) Refusal
told a b j n = cond a (Err TooLong) (cond b (Err TooLong) (place_by j n))

found_at : (a b : Bool) (j : Result ⊤ Refusal) (n : Option ℕ) (k : ℕ) → told a b j n ≡ Ok (Some k) → (a ≡ false) × ((b ≡ false) × ((j ≡ Ok tt) × (n ≡ Some k)))
unfolding place_by place_told
found_at true b j n k e = let z : ◌≡◌ {A = ℕ} 0 1 = cc in absurd (omega arith)
found_at false true j n k e = let z : ◌≡◌ {A = ℕ} 0 1 = cc in absurd (omega arith)
found_at false false (Err r) n k e = let z : ◌≡◌ {A = ℕ} 0 1 = cc in absurd (omega arith)
found_at false false (Ok tt) None k e = let z : ◌≡◌ {A = ℕ} 0 1 = cc in absurd (omega arith)
found_at false false (Ok tt) (Some m) k e = (refl, (refl, (refl, cc)))

found_nothing : (a b : Bool) (j : Result ⊤ Refusal) (n : Option ℕ) → told a b j n ≡ Ok None → (a ≡ false) × ((b ≡ false) × ((j ≡ Ok tt) × (n ≡ None)))
unfolding place_by place_told
found_nothing true b j n e = let z : ◌≡◌ {A = ℕ} 0 1 = cc in absurd (omega arith)
found_nothing false true j n e = let z : ◌≡◌ {A = ℕ} 0 1 = cc in absurd (omega arith)
found_nothing false false (Err r) n e = let z : ◌≡◌ {A = ℕ} 0 1 = cc in absurd (omega arith)
found_nothing false false (Ok tt) None e = (refl, (refl, (refl, refl)))
found_nothing false false (Ok tt) (Some m) e = let z : ◌≡◌ {A = ℕ} 0 1 = cc in absurd (omega arith)

found-refused : (a b : Bool) (j : Result ⊤ Refusal) (n : Option ℕ) (r : Refusal) → (TooLong ≡ r → ⊥) → told a b j n ≡ Err r → (a ≡ false) × ((b ≡ false) × (j ≡ Err r))
unfolding place_by place_told
found-refused true b j n r x e = absurd (x cc)
found-refused false true j n r x e = absurd (x cc)
found-refused false false (Err q) n r x e = (refl, (refl, cc))
found-refused false false (Ok tt) None r x e = let z : ◌≡◌ {A = ℕ} 0 1 = cc in absurd (omega arith)
found-refused false false (Ok tt) (Some m) r x e = let z : ◌≡◌ {A = ℕ} 0 1 = cc in absurd (omega arith)

within-not-refused : (a b : Bool) (j : Result ⊤ Refusal) (n : Option ℕ) → (j ≡ Err TooLong → ⊥) → told a b j n ≡ Err TooLong → (a ≡ false) × (b ≡ false) → ⊥
unfolding place_by place_told
within-not-refused true b j n x e w = true≢false w.0
within-not-refused false true j n x e w = true≢false w.1
within-not-refused false false (Err q) n x e w = x cc
within-not-refused false false (Ok tt) None x e w = let z : ◌≡◌ {A = ℕ} 0 1 = cc in omega arith
within-not-refused false false (Ok tt) (Some m) x e w = let z : ◌≡◌ {A = ℕ} 0 1 = cc in omega arith

not-within-refused : (a b : Bool) (j : Result ⊤ Refusal) (n : Option ℕ) → ((a ≡ false) × (b ≡ false) → ⊥) → told a b j n ≡ Err TooLong
not-within-refused true b j n x = refl
not-within-refused false true j n x = refl
not-within-refused false false j n x = absurd (x (refl, refl))

counted-within : (a : Bool) (j : Result ⊤ Refusal) (ps : List ℕ) → (j ≡ Err TooLong → ⊥) → cond a (Err TooLong) (degeneracy_by j ps) ≡ Err TooLong → a ≡ false → ⊥
unfolding degeneracy_by
counted-within true j ps x e w = true≢false w
counted-within false (Err q) ps x e w = x cc
counted-within false (Ok tt) ps x e w = let z : ◌≡◌ {A = ℕ} 0 1 = cc in omega arith

counted-over : (a : Bool) (j : Result ⊤ Refusal) (ps : List ℕ) → (a ≡ false → ⊥) → cond a (Err TooLong) (degeneracy_by j ps) ≡ Err TooLong
counted-over true j ps x = refl
counted-over false j ps x = absurd (x refl)

counted-sequences : (a : Bool) (j : Result ⊤ Refusal) (ps : List ℕ) (n : ℕ) → cond a (Err TooLong) (degeneracy_by j ps) ≡ Ok n → (a ≡ false) × ((j ≡ Ok tt) × (n ≡ length (stands_for ps)))
unfolding degeneracy_by
counted-sequences true j ps n e = let z : ◌≡◌ {A = ℕ} 0 1 = cc in absurd (omega arith)
counted-sequences false (Err r) ps n e = let z : ◌≡◌ {A = ℕ} 0 1 = cc in absurd (omega arith)
counted-sequences false (Ok tt) ps n e = (refl, (refl, cc))

counted-refused : (a : Bool) (j : Result ⊤ Refusal) (ps : List ℕ) (r : Refusal) → (TooLong ≡ r → ⊥) → cond a (Err TooLong) (degeneracy_by j ps) ≡ Err r → (a ≡ false) × (j ≡ Err r)
unfolding degeneracy_by
counted-refused true j ps r x e = absurd (x cc)
counted-refused false (Err q) ps r x e = (refl, cc)
counted-refused false (Ok tt) ps r x e = let z : ◌≡◌ {A = ℕ} 0 1 = cc in absurd (omega arith)

size-is-not-length : TooLong ≡ PrimerLength → ⊥
size-is-not-length e = let z : ◌≡◌ {A = ℕ} 0 1 = cc in omega arith

size-is-not-letter : (k : ℕ) → TooLong ≡ PrimerLetter k → ⊥
size-is-not-letter k e = let z : ◌≡◌ {A = ℕ} 0 1 = cc in omega arith

-- ---- the theorems

module _ (ps s : List ℕ) (from : ℕ) where
  pub place-told : (k : ℕ) → place_read ps s from ≡ Ok (Some k) ↔ (Taken ps × (Within s × FirstAt ps s from k))
  unfolding place_read place_by place_told
  place-told k = (
    λ e.
        let (a, (b, (j, n))) = found_at (over_limit (length ps)) (over_limit (length s)) (judged ps) (next_of ps s from) k e in
        let f = fit ps j in
        ((a, f), (b, found_first ps s from f.0.0 k n)),
    λ w.
        let (t, (b, f)) = w in
        sym (place-within ps s from (Ok tt) t.0 b (so-fit ps t.1.0 t.1.1)) ∙ ap place_told (first_found ps s from t.1.0.0 k f),
  )

  pub nothing-told : place_read ps s from ≡ Ok None ↔ (Taken ps × (Within s × ((k : ℕ) → from ≤ k → MatchesAt ps s k → ⊥)))
  unfolding place_read place_by place_told
  nothing-told = (
    λ e.
        let (a, (b, (j, n))) = found_nothing (over_limit (length ps)) (over_limit (length s)) (judged ps) (next_of ps s from) e in
        let f = fit ps j in
        ((a, f), (b, none_found ps s from f.0.0 n)),
    λ w.
        let (t, (b, f)) = w in
        sym (place-within ps s from (Ok tt) t.0 b (so-fit ps t.1.0 t.1.1)) ∙ ap place_told (found_none ps s from t.1.0.0 f),
  )

  pub size-refused : place_read ps s from ≡ Err TooLong ↔ (Within ps × Within s → ⊥)
  unfolding place_read
  size-refused = (
    within-not-refused (over_limit (length ps)) (over_limit (length s)) (judged ps) (next_of ps s from) (not-by-size ps),
    not-within-refused (over_limit (length ps)) (over_limit (length s)) (judged ps) (next_of ps s from),
  )

  pub length-refused : place_read ps s from ≡ Err PrimerLength ↔ (Within ps × (Within s × (Sized ps → ⊥)))
  unfolding place_read place_by
  length-refused = (
    λ e.
        let (a, (b, j)) = found-refused (over_limit (length ps)) (over_limit (length s)) (judged ps) (next_of ps s from) PrimerLength size-is-not-length e in
        (a, (b, other_length ps j)),
    λ w. sym (place-within ps s from (Err PrimerLength) w.0 w.1.0 (sym (not-sized ps w.1.1))),
  )

  pub letter-refused : (k : ℕ) → place_read ps s from ≡ Err (PrimerLetter k) ↔ (Within ps × (Within s × (Sized ps × FirstUncoded ps k)))
  unfolding place_read place_by
  letter-refused k = (
    λ e.
        let (a, (b, j)) = found-refused (over_limit (length ps)) (over_limit (length s)) (judged ps) (next_of ps s from) (PrimerLetter k) (size-is-not-letter k) e in
        (a, (b, letter ps k j)),
    λ w. sym (place-within ps s from (Err (PrimerLetter k)) w.0 w.1.0 (so-letter ps k w.1.1.0 w.1.1.1)),
  )

module _ (ps : List ℕ) where
  pub count-told : (n : ℕ) → degeneracy_read ps ≡ Ok n ↔ (Taken ps × (n ≡ length (stands_for ps)))
  unfolding degeneracy_read degeneracy_by
  count-told n = (
    λ e.
        let (a, (j, q)) = counted-sequences (over_limit (length ps)) (judged ps) ps n e in
        ((a, fit ps j), q),
    λ w.
        let (t, q) = w in
        rw q (sym (degeneracy-within ps (Ok tt) t.0 (so-fit ps t.1.0 t.1.1))),
  )

  pub count-size-refused : degeneracy_read ps ≡ Err TooLong ↔ (Within ps → ⊥)
  unfolding degeneracy_read
  count-size-refused = (counted-within (over_limit (length ps)) (judged ps) ps (not-by-size ps), counted-over (over_limit (length ps)) (judged ps) ps)

  pub count-length-refused : degeneracy_read ps ≡ Err PrimerLength ↔ (Within ps × (Sized ps → ⊥))
  unfolding degeneracy_read degeneracy_by
  count-length-refused = (
    λ e.
        let (a, j) = counted-refused (over_limit (length ps)) (judged ps) ps PrimerLength size-is-not-length e in
        (a, other_length ps j),
    λ w. sym (degeneracy-within ps (Err PrimerLength) w.0 (sym (not-sized ps w.1))),
  )

  pub count-letter-refused : (k : ℕ) → degeneracy_read ps ≡ Err (PrimerLetter k) ↔ (Within ps × (Sized ps × FirstUncoded ps k))
  unfolding degeneracy_read degeneracy_by
  count-letter-refused k = (
    λ e.
        let (a, j) = counted-refused (over_limit (length ps)) (judged ps) ps (PrimerLetter k) (size-is-not-letter k) e in
        (a, letter ps k j),
    λ w. sym (degeneracy-within ps (Err (PrimerLetter k)) w.0 (so-letter ps k w.1.0 w.1.1)),
  )
