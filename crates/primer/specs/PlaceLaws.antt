-- Laws for PlaceTheorems.antt: what the walks over a primer and a text find.
use Rattle.std.specs.Prelude.{ℕ, zero, suc, ◌+◌, ◌-◌, ◌≤◌, ◌<◌, ◌≡◌, refl, Bool, true, false, cond, not, ◌&&◌, List, [], ◌∷◌, eqb, drop, get_or, Some, None, Ok, Err}
use Rattle.std.proofs.Common.{sym, ap, ◌∙◌, true≢false, add-suc, suc-add, zero-add, get_or-drop, drop-drop, eq-eqb, ne_eqb, eqb-true}
use Rattle.std.proofs.Math.Nat.{sub-zero}
use native.Mathlib.Omega.{arith}
use Rattle.std.proofs.Math.ListN.{length, length-drop}
use Rattle.std.proofs.lemmas.Bool.{eqb-false}
use Rattle.refusal.specs.declared.Refusal.TheVariants.{PrimerLetter}
use Rattle.letters.specs.Letters.{set_of}
use Rattle.letters.specs.Sets.{inside}
use Rattle.primer.specs.Search.{fits, matches, first_from, next_of}
use Rattle.primer.specs.Primer.{letters_judged}
use Rattle.primer.specs.Places.{MatchesAt, FirstAt, CodedTo, FirstUncoded}

and_both : (a b : Bool) → (a && b) ≡ true → (a ≡ true) × (b ≡ true)
and_both true b e = (refl, e)
and_both false b e = absurd (true≢false (sym e))

-- ---- a match, place by place

begins : (ps t : List ℕ) → matches ps t ≡ true → (length ps ≤ length t) × ((j : ℕ) → j < length ps → fits (get_or ps j 0) (get_or t j 0) ≡ true)
unfolding matches
begins [] t e = (omega arith, λ j h. absurd (omega arith))
begins (p ∷ ps) [] e = absurd (true≢false (sym e))
begins (p ∷ ps) (b ∷ t) e =
    let tests = and_both (fits p b) (matches ps t) e in
    let rest = begins ps t tests.1 in
    (omega (arith, rest.0), at tests.0 rest.1)
  where
    at : fits p b ≡ true → ((j : ℕ) → j < length ps → fits (get_or ps j 0) (get_or t j 0) ≡ true) → (j : ℕ) → j < suc (length ps) → fits (get_or (p ∷ ps) j 0) (get_or (b ∷ t) j 0) ≡ true
    at here rest zero h = here
    at here rest (suc j) h = rest j (omega arith)

so-begins : (ps t : List ℕ) → length ps ≤ length t → ((j : ℕ) → j < length ps → fits (get_or ps j 0) (get_or t j 0) ≡ true) → matches ps t ≡ true
unfolding matches
so-begins [] t l h = refl
so-begins (p ∷ ps) [] l h = absurd (omega arith)
so-begins (p ∷ ps) (b ∷ t) l h = rw (h 0 (omega arith), so-begins ps t (omega arith) (λ j k. h (suc j) (omega arith)))

module _ (ps s : List ℕ) where
  pub match-at : (k : ℕ) → 1 ≤ length ps → matches ps (drop k s) ≡ true → MatchesAt ps s k
  match-at k n e =
      let b = begins ps (drop k s) e in
      record { ends = omega (arith, b.0, length-drop k s); each = λ j h. rw (get_or-drop k s j 0) at (b.1 j h) }

  pub at-match : (k : ℕ) → MatchesAt ps s k → matches ps (drop k s) ≡ true
  at-match k m = so-begins ps (drop k s) (simp length-drop (omega (arith, m.ends))) (λ j h. rw (get_or-drop k s j 0) (m.each j h))

-- a byte that fits a letter has a code
pub fits-coded : (p b : ℕ) → fits p b ≡ true → set_of b ≡ 0 → ⊥
unfolding fits inside
fits-coded p b e z = go (eqb (set_of b) 0) (eq-eqb _ _ z) (and_both (not (eqb (set_of b) 0)) _ e).0
  where
    go : (v : Bool) → v ≡ true → not v ≡ true → ⊥
    go true q n = true≢false (sym n)
    go false q n = true≢false (sym q)

-- ---- the walk over a text

-- the walk from the place `at` on stops j bytes later
record Stops (ps : List ℕ) (at : ℕ) (s : List ℕ) (k : ℕ) : Type 0 where
  by : ℕ
  is : k ≡ at + by
  short : by < length s
  matched : matches ps (drop by s) ≡ true
  before : (i : ℕ) → i < by → matches ps (drop i s) ≡ false

stops : (ps : List ℕ) (at : ℕ) (s : List ℕ) (k : ℕ) → first_from ps at s ≡ Some k → Stops ps at s k
unfolding first_from
stops ps at [] k e = let z : ◌≡◌ {A = ℕ} 0 1 = cc in absurd (omega arith)
stops ps at (b ∷ s) k e = go (matches ps (b ∷ s)) refl (stops ps (suc at) s k) e
  where
    go : (v : Bool) → matches ps (b ∷ s) ≡ v → (first_from ps (suc at) s ≡ Some k → Stops ps (suc at) s k) → cond v (Some at) (first_from ps (suc at) s) ≡ Some k → Stops ps at (b ∷ s) k
    go true m more e = record { by = 0; is = let q : at ≡ k = cc in omega arith; short = omega arith; matched = m; before = λ i h. absurd (omega arith) }
    go false m more e =
        let w = more e in
        record { by = suc w.by; is = omega (arith, w.is); short = omega (arith, w.short); matched = w.matched; before = passed w }
      where
        passed : (w : Stops ps (suc at) s k) → (i : ℕ) → i < suc w.by → matches ps (drop i (b ∷ s)) ≡ false
        passed w zero h = m
        passed w (suc i) h = w.before i (omega arith)

goes-on : (ps : List ℕ) (at : ℕ) (s : List ℕ) → first_from ps at s ≡ None → (i : ℕ) → i < length s → matches ps (drop i s) ≡ false
unfolding first_from
goes-on ps at [] e i h = absurd (omega arith)
goes-on ps at (b ∷ s) e i h = go (matches ps (b ∷ s)) refl (goes-on ps (suc at) s) e i h
  where
    go : (v : Bool) → matches ps (b ∷ s) ≡ v → (first_from ps (suc at) s ≡ None → (i : ℕ) → i < length s → matches ps (drop i s) ≡ false)
        → cond v (Some at) (first_from ps (suc at) s) ≡ None → (i : ℕ) → i < suc (length s) → matches ps (drop i (b ∷ s)) ≡ false
    go true m more e i h = let z : ◌≡◌ {A = ℕ} 0 1 = cc in absurd (omega arith)
    go false m more e zero h = m
    go false m more e (suc i) h = more e i (omega arith)

so-stops : (ps : List ℕ) (at : ℕ) (s : List ℕ) (j : ℕ) → j < length s → matches ps (drop j s) ≡ true → ((i : ℕ) → i < j → matches ps (drop i s) ≡ false) → first_from ps at s ≡ Some (at + j)
unfolding first_from
so-stops ps at [] j h m f = absurd (omega arith)
so-stops ps at (b ∷ s) zero h m f = rw m (ap Some (omega arith))
so-stops ps at (b ∷ s) (suc j) h m f = rw (f 0 (omega arith), add-suc at j, ← suc-add at j) (so-stops ps (suc at) s j (omega arith) m (λ i l. f (suc i) (omega arith)))

so-goes-on : (ps : List ℕ) (at : ℕ) (s : List ℕ) → ((i : ℕ) → i < length s → matches ps (drop i s) ≡ false) → first_from ps at s ≡ None
unfolding first_from
so-goes-on ps at [] f = refl
so-goes-on ps at (b ∷ s) f = rw (f 0 (omega arith)) (so-goes-on ps (suc at) s (λ i h. f (suc i) (omega arith)))

not-true : (v : Bool) → (v ≡ true → ⊥) → v ≡ false
not-true true n = absurd (n refl)
not-true false n = refl

module _ (ps s : List ℕ) (from : ℕ) (some : 1 ≤ length ps) where
  -- i bytes behind `from`
  moved : (i : ℕ) → matches ps (drop i (drop from s)) ≡ matches ps (drop (from + i) s)
  moved i = ap (matches ps) (drop-drop i from s)

  no-match : (i : ℕ) → matches ps (drop i (drop from s)) ≡ false → MatchesAt ps s (from + i) → ⊥
  no-match i e m = true≢false (sym (at-match ps s (from + i) m) ∙ sym (moved i) ∙ e)

  pub found_first : (k : ℕ) → next_of ps s from ≡ Some k → FirstAt ps s from k
  unfolding next_of
  found_first k e =
      let w = stops ps from (drop from s) k e in
      record {
        later = omega (arith, w.is);
        matches = rw w.is (match-at ps s (from + w.by) some (sym (moved w.by) ∙ w.matched));
        first = λ i l h m. no-match (i - from) (w.before (i - from) (omega (arith, w.is))) (let q : from + (i - from) ≡ i = omega arith in rw q m);
      }

  pub first_found : (k : ℕ) → FirstAt ps s from k → next_of ps s from ≡ Some k
  unfolding next_of
  first_found k f =
      let q : from + (k - from) ≡ k = omega (arith, f.later) in
      let n : length (drop from s) ≡ length s - from = length-drop from s in
      rw q at (so-stops ps from (drop from s) (k - from) (omega (arith, f.matches.ends, f.later))
      (moved (k - from) ∙ rw q (at-match ps s k f.matches))
      (λ i h. not-true _ (λ m. f.first (from + i) (omega arith) (omega (arith, f.later)) (match-at ps s (from + i) some (sym (moved i) ∙ m)))))

  pub none_found : next_of ps s from ≡ None → (k : ℕ) → from ≤ k → MatchesAt ps s k → ⊥
  unfolding next_of
  none_found e k l m =
      let q : from + (k - from) ≡ k = omega arith in
      let n : length (drop from s) ≡ length s - from = length-drop from s in
      no-match (k - from) (goes-on ps from (drop from s) e (k - from) (omega (arith, m.ends))) (rw q m)

  pub found_none : ((k : ℕ) → from ≤ k → MatchesAt ps s k → ⊥) → next_of ps s from ≡ None
  unfolding next_of
  found_none f = so-goes-on ps from (drop from s) (λ i h. not-true _ (λ m. f (from + i) (omega arith) (match-at ps s (from + i) some (sym (moved i) ∙ m))))

-- ---- the walk over a primer

letter-told : (at : ℕ) (ps : List ℕ) (k : ℕ) → letters_judged at ps ≡ Err (PrimerLetter k) → (at ≤ k) × FirstUncoded ps (k - at)
unfolding letters_judged
letter-told at [] k e = let z : ◌≡◌ {A = ℕ} 0 1 = cc in absurd (omega arith)
letter-told at (p ∷ ps) k e = go (eqb (set_of p) 0) refl (letter-told (suc at) ps k) e
  where
    go : (v : Bool) → eqb (set_of p) 0 ≡ v → (letters_judged (suc at) ps ≡ Err (PrimerLetter k) → (suc at ≤ k) × FirstUncoded ps (k - suc at))
        → cond v (Err (PrimerLetter at)) (letters_judged (suc at) ps) ≡ Err (PrimerLetter k) → (at ≤ k) × FirstUncoded (p ∷ ps) (k - at)
    go true q more e =
        let w : at ≡ k = cc in
        let z : k - at ≡ 0 = omega arith in
        (omega arith, rw z (record { there = omega arith; uncoded = eqb-true _ _ q; first = λ j h. absurd (omega arith) }))
    go false q more e =
        let (l, f) = more e in
        let z : k - at ≡ suc (k - suc at) = omega arith in
        (omega arith, rw z (record { there = omega (arith, f.there); uncoded = f.uncoded; first = λ j h. passed f j h }))
      where
        passed : FirstUncoded ps (k - suc at) → (j : ℕ) → j < suc (k - suc at) → set_of (get_or (p ∷ ps) j 0) ≡ 0 → ⊥
        passed f zero h = eqb-false _ _ q
        passed f (suc j) h = f.first j (omega arith)

pub letter-first : (ps : List ℕ) (k : ℕ) → letters_judged 0 ps ≡ Err (PrimerLetter k) → FirstUncoded ps k
letter-first ps k e = rw sub-zero at (letter-told 0 ps k e).1

so-letter : (at : ℕ) (ps : List ℕ) (j : ℕ) → FirstUncoded ps j → letters_judged at ps ≡ Err (PrimerLetter (at + j))
unfolding letters_judged
so-letter at [] j f = absurd (omega (arith, f.there))
so-letter at (p ∷ ps) zero f = let q : set_of p ≡ 0 = f.uncoded in rw (eq-eqb _ _ q) (ap (λ (x : ℕ). Err (PrimerLetter x)) (omega arith))
so-letter at (p ∷ ps) (suc j) f =
    let q : set_of p ≡ 0 → ⊥ = f.first 0 (omega arith) in
    rw (ne_eqb _ _ q, add-suc at j, ← suc-add at j) (so-letter (suc at) ps j (record { there = omega (arith, f.there); uncoded = f.uncoded; first = λ i h. f.first (suc i) (omega arith) }))

pub first-letter : (ps : List ℕ) (k : ℕ) → FirstUncoded ps k → letters_judged 0 ps ≡ Err (PrimerLetter k)
first-letter ps k f = rw zero-add at (so-letter 0 ps k f)

pub letters-coded : (at : ℕ) (ps : List ℕ) → letters_judged at ps ≡ Ok tt → CodedTo ps (length ps)
unfolding letters_judged
letters-coded at [] e j h = absurd (omega arith)
letters-coded at (p ∷ ps) e j h = go (eqb (set_of p) 0) refl (letters-coded (suc at) ps) e j h
  where
    go : (v : Bool) → eqb (set_of p) 0 ≡ v → (letters_judged (suc at) ps ≡ Ok tt → CodedTo ps (length ps))
        → cond v (Err (PrimerLetter at)) (letters_judged (suc at) ps) ≡ Ok tt → CodedTo (p ∷ ps) (suc (length ps))
    go true q more e j h = let z : ◌≡◌ {A = ℕ} 0 1 = cc in absurd (omega arith)
    go false q more e zero h = eqb-false _ _ q
    go false q more e (suc j) h = more e j (omega arith)

pub coded-letters : (at : ℕ) (ps : List ℕ) → CodedTo ps (length ps) → letters_judged at ps ≡ Ok tt
unfolding letters_judged
coded-letters at [] f = refl
coded-letters at (p ∷ ps) f = let q : set_of p ≡ 0 → ⊥ = f 0 (omega arith) in rw (ne_eqb _ _ q) (coded-letters (suc at) ps (λ j h. f (suc j) (omega arith)))
