-- Laws of the calls: how a primer is judged letter by letter, and a search from a place on.
use Rattle.std.specs.Prelude.{ℕ, suc, ◌+◌, ◌-◌, ◌≤◌, ◌<◌, Bool, List, [], ◌∷◌, take, drop, get_or, Option, Some, None, Result, Ok, Err, ⊤}
use Rattle.std.proofs.Math.Path.{◌≡◌, refl}
use Rattle.std.proofs.Common.{add-zero, add-suc, take_all}
use Rattle.std.proofs.Math.Bool.{true, false, cond}
use native.Mathlib.Omega.{arith}
use Rattle.std.proofs.Math.Dec.{eqb, ltb}
use Rattle.std.proofs.Math.ListN.{length, length-drop, drop_of_length-le}
use Rattle.std.proofs.Math.Seq.{drop-cons}
use Rattle.refusal.specs.declared.Refusal.{Refusal}
use borrow.Author.Tests.{eq-eqb, ne_eqb, lt-ltb, le-ltb, eqb-false, ltb-false}
use Rattle.refusal.specs.Numbers.{over_limit}
use Rattle.refusal.specs.declared.Refusal.TheVariants.{TooLong, PrimerLength, PrimerLetter}
use Rattle.letters.specs.Letters.{set_of}
use Rattle.primer.specs.Search.{matches, first_from, first_of, next_of}
use Rattle.primer.specs.Primer.{letters_judged, judged, degeneracy_by, degeneracy_read, place_told, place_by, place_read}

-- ---- judging

module _ (ps : List ℕ) where
  pub judged-none : length ps ≡ 0 → Err PrimerLength ≡ judged ps
  unfolding judged
  judged-none e = rw (eq-eqb _ _ e)

  pub judged-long : (length ps ≡ 0 → ⊥) → 31 < length ps → Err PrimerLength ≡ judged ps
  unfolding judged
  judged-long e h = rw (ne_eqb _ _ e, lt-ltb 31 (length ps) h)

  pub judged-letters : (length ps ≡ 0 → ⊥) → length ps ≤ 31 → letters_judged 0 ps ≡ judged ps
  unfolding judged
  judged-letters e h = rw (ne_eqb _ _ e, le-ltb 31 (length ps) h)

  -- a primer that is taken has 1 to 31 letters
  pub judged-fit : Ok tt ≡ judged ps → (1 ≤ length ps) × (length ps ≤ 31)
  unfolding judged
  judged-fit q = go (eqb (length ps) 0) refl (ltb 31 (length ps)) refl q
    where
      go : (v : Bool) → eqb (length ps) 0 ≡ v → (w : Bool) → ltb 31 (length ps) ≡ w
          → Ok tt ≡ cond v (Err PrimerLength) (cond w (Err PrimerLength) (letters_judged 0 ps)) → (1 ≤ length ps) × (length ps ≤ 31)
      go true e w l q = let z : ◌≡◌ {A = ℕ} 0 1 = cc in absurd (omega arith)
      go false e true l q = let z : ◌≡◌ {A = ℕ} 0 1 = cc in absurd (omega arith)
      go false e false l q = let n : length ps ≡ 0 → ⊥ = eqb-false _ _ e in (omega arith, ltb-false 31 (length ps) l)

  module _ (i : ℕ) (h : i < length ps) (inv : letters_judged i (drop i ps) ≡ letters_judged 0 ps) where
    pub letter-bad : set_of (get_or ps i 0) ≡ 0 → Err (PrimerLetter i) ≡ letters_judged 0 ps
    unfolding letters_judged
    letter-bad e = rw (← inv, drop-cons ps i 0 h, eq-eqb _ _ e)

    pub letter-good : (set_of (get_or ps i 0) ≡ 0 → ⊥) → letters_judged (suc i) (drop (suc i) ps) ≡ letters_judged 0 ps
    unfolding letters_judged
    letter-good e = rw (← inv, drop-cons ps i 0 h, ne_eqb _ _ e)

  pub letters-end : (i : ℕ) → length ps ≤ i → letters_judged i (drop i ps) ≡ letters_judged 0 ps → Ok tt ≡ letters_judged 0 ps
  unfolding letters_judged
  letters-end i h inv = rw (← inv, drop_of_length-le ps h)

-- ---- the answer, past the size limit

module _ (ps : List ℕ) where
  pub degeneracy-over : over_limit (length ps) ≡ true → Err TooLong ≡ degeneracy_read ps
  unfolding degeneracy_read
  degeneracy-over e = rw e

  pub degeneracy-within : (j : Result ⊤ Refusal) → over_limit (length ps) ≡ false → j ≡ judged ps → degeneracy_by j ps ≡ degeneracy_read ps
  unfolding degeneracy_read
  degeneracy-within j e q = rw (e, q)

  module _ (s : List ℕ) (from : ℕ) where
    pub place-primer-over : over_limit (length ps) ≡ true → Err TooLong ≡ place_read ps s from
    unfolding place_read
    place-primer-over e = rw e

    pub place-text-over : over_limit (length ps) ≡ false → over_limit (length s) ≡ true → Err TooLong ≡ place_read ps s from
    unfolding place_read
    place-text-over e f = rw (e, f)

    pub place-within : (j : Result ⊤ Refusal) → over_limit (length ps) ≡ false → over_limit (length s) ≡ false → j ≡ judged ps → place_by j (next_of ps s from) ≡ place_read ps s from
    unfolding place_read
    place-within j e f q = rw (e, f, q)

-- ---- a search from a place on

-- so many places later
abbrev later : ℕ → Option ℕ → Option ℕ
later a (Some k) = Some (a + k)
later a None = None

first-later : (ps : List ℕ) (a at : ℕ) (s : List ℕ) → first_from ps (a + at) s ≡ later a (first_from ps at s)
unfolding first_from
first-later ps a at [] = refl
first-later ps a at (b ∷ s) = go (matches ps (b ∷ s)) (rw (add-suc a at) at (first-later ps a (suc at) s))
  where
    go : (v : Bool) → first_from ps (suc (a + at)) s ≡ later a (first_from ps (suc at) s) → cond v (Some (a + at)) (first_from ps (suc (a + at)) s) ≡ later a (cond v (Some at) (first_from ps (suc at) s))
    go true e = refl
    go false e = e

first-within : (ps : List ℕ) (at : ℕ) (s : List ℕ) (k : ℕ) → first_from ps at s ≡ Some k → k < at + length s
unfolding first_from
first-within ps at [] k e = let z : ◌≡◌ {A = ℕ} 0 1 = cc in absurd (omega arith)
first-within ps at (b ∷ s) k e = go (matches ps (b ∷ s)) (first-within ps (suc at) s k) e
  where
    go : (v : Bool) → (first_from ps (suc at) s ≡ Some k → k < suc at + length s) → cond v (Some at) (first_from ps (suc at) s) ≡ Some k → k < at + suc (length s)
    go true more e = let q : at ≡ k = cc in omega arith
    go false more e = omega (arith, more e)

module _ (ps s : List ℕ) (from : ℕ) where
  -- the text from a place on
  abbrev rest : List ℕ
  rest = take (length s - from) (drop from s)

  rest-is : rest ≡ drop from s
  rest-is = take_all (length s - from) (drop from s) (simp length-drop (omega arith))

  next-later : next_of ps s from ≡ later from (first_of ps rest)
  unfolding next_of first_of
  next-later = rw rest-is (rw (add-zero from) at (first-later ps from 0 (drop from s)))

  pub next-at : (k : ℕ) → first_of ps rest ≡ Some k → Ok (Some (from + k)) ≡ place_told (next_of ps s from)
  unfolding place_told
  next-at k e = rw (next-later, e)

  pub next-none : first_of ps rest ≡ None → Ok None ≡ place_told (next_of ps s from)
  unfolding place_told
  next-none e = rw (next-later, e)

  pub next_past : length s < from → Ok None ≡ place_told (next_of ps s from)
  unfolding place_told next_of first_from
  next_past h = let l : length s ≤ from = omega arith in rw (drop_of_length-le s l)

  -- the place is inside the text
  pub next_fits : (k : ℕ) → from ≤ length s → first_of ps rest ≡ Some k → from + k < length s
  unfolding first_of
  next_fits k h e = omega (arith, first-within ps 0 (drop from s) k (rw rest-is at e), length-drop from s)
