-- What is promised of a score. `asked` of Laws is the first: right, wrong and missing places are all places of the key.
use Rattle.std.specs.Prelude.{ℕ, zero, suc, ◌+◌, ◌*◌, ◌/◌, ◌≤◌, ◌<◌, ◌≡◌, refl, Bool, true, false, cond, not, ◌&&◌, List, [], ◌∷◌, ◌++◌, T, eqb, ltb, get_or}
use Rattle.std.proofs.Common.{sym, true≢false, le-div_iff_mul-le, div-mul-le_self, mul-div_cancel, length-append, lt-ltb, ltb-true, eqb-true}
use native.Mathlib.Omega.{arith}
use Rattle.std.proofs.Math.Nat.{div-le_of_le-mul, zero-div}
use Rattle.std.proofs.Math.ListN.{length, get_or-append}
use Rattle.letters.specs.Letters.{set_of}
use Rattle.letters.specs.Sets.{inside}
use Rattle.scoring.specs.Rules.{folded, same, coded, lies}
use Rattle.scoring.specs.Places.{count_below, is_right, right_of, wrong_of, missing_of, surplus_of, tenths, tenths_of}
use Rattle.scoring.specs.Counting.{count-le, count-mono, count_same}
use Rattle.scoring.specs.RuleLaws.{same-lies}
use Rattle.scoring.specs.Laws.{asked, missing-is, surplus-is}

both : (a b : Bool) → (a && b) ≡ true → (a ≡ true) × (b ≡ true)
both true b e = (refl, e)
both false b e = absurd (true≢false (sym e))

-- ---- tenths

tenths-most : (r n : ℕ) → r ≤ n → tenths r n ≤ 1000
unfolding tenths
tenths-most r zero h = omega arith
tenths-most r (suc n) h = div-le_of_le-mul (suc n) (omega arith)

tenths-mono : (r s n : ℕ) → r ≤ s → tenths r n ≤ tenths s n
unfolding tenths
tenths-mono r s zero h = omega arith
tenths-mono r s (suc n) h = (le-div_iff_mul-le {k = suc n} {x = 1000 * r / suc n} {y = 1000 * s} (omega arith)).1 (omega (arith, div-mul-le_self (1000 * r) (suc n)))

tenths-full : (r n : ℕ) → 0 < n → tenths r n ≡ 1000 → n ≤ r
unfolding tenths
tenths-full r zero z e = absurd (omega arith)
tenths-full r (suc n) z e = omega (arith, (le-div_iff_mul-le {k = suc n} {x = 1000} {y = 1000 * r} (omega arith)).0 (omega arith))

tenths-whole : (n : ℕ) → 0 < n → tenths n n ≡ 1000
unfolding tenths
tenths-whole zero z = absurd (omega arith)
tenths-whole (suc n) z = mul-div_cancel 1000 (omega arith)

tenths-nothing : (n : ℕ) → tenths 0 n ≡ 0
unfolding tenths
tenths-nothing zero = refl
tenths-nothing (suc n) = zero-div (suc n)

-- ---- for any rule of what is right

module _ (rule : ℕ → ℕ → Bool) (key typed : List ℕ) where
  pub right-most : right_of rule key typed ≤ length key
  unfolding right_of
  right-most = count-le (is_right rule key typed) (length key)

  -- a score is at most 1000
  pub score-most : tenths_of rule key typed ≤ 1000
  unfolding tenths_of
  score-most = tenths-most (right_of rule key typed) (length key + surplus_of key typed) (omega (arith, right-most))

  -- it is 1000 exactly where all is right and nothing is surplus
  pub full-right : 0 < length key → tenths_of rule key typed ≡ 1000 → (right_of rule key typed ≡ length key) × (surplus_of key typed ≡ 0)
  unfolding tenths_of
  full-right z e =
      let h = tenths-full (right_of rule key typed) (length key + surplus_of key typed) (omega arith) e in
      (omega (arith, h, right-most), omega (arith, h, right-most))

  pub right-full : 0 < length key → right_of rule key typed ≡ length key → surplus_of key typed ≡ 0 → tenths_of rule key typed ≡ 1000
  unfolding tenths_of
  right-full z e f =
      let w : length key + surplus_of key typed ≡ length key = omega arith in
      rw (w, e) (tenths-whole (length key) z)

  -- nothing asked: 0, whatever was typed
  pub empty-score : length key ≡ 0 → tenths_of rule key typed ≡ 0
  unfolding tenths_of
  empty-score e =
      let r : right_of rule key typed ≡ 0 = omega (arith, right-most) in
      rw r (tenths-nothing (length key + surplus_of key typed))

  -- a hundred asked, fifty typed, 49 right: 490, and never 980
  pub half-typed : length key ≡ 100 → length typed ≡ 50 → right_of rule key typed ≡ 49
      → (wrong_of rule key typed ≡ 1) × (missing_of key typed ≡ 50) × (surplus_of key typed ≡ 0) × (tenths_of rule key typed ≡ 490)
  unfolding tenths_of tenths
  half-typed k t r =
      let s : surplus_of key typed ≡ 0 = omega (arith, surplus-is rule key typed) in
      (omega (arith, asked rule key typed, missing-is rule key typed), omega (arith, missing-is rule key typed), s, rw (r, k, s))

-- where no more was typed than asked, leaving out the last typed byte never raises the score
pub left_out : (rule : ℕ → ℕ → Bool) (key typed : List ℕ) (b : ℕ) → length typed < length key
    → (right_of rule key typed ≤ right_of rule key (typed ++ (b ∷ []))) × (tenths_of rule key typed ≤ tenths_of rule key (typed ++ (b ∷ [])))
unfolding right_of tenths_of
left_out rule key typed b h =
    let l : length (typed ++ (b ∷ [])) ≡ length typed + 1 = length-append typed (b ∷ []) in
    let s : surplus_of key typed ≡ 0 = omega (arith, surplus-is rule key typed) in
    let u : surplus_of key (typed ++ (b ∷ [])) ≡ 0 = omega (arith, surplus-is rule key (typed ++ (b ∷ []))) in
    let m = count-mono (is_right rule key typed) (is_right rule key (typed ++ (b ∷ []))) (length key) (λ p q e. still p e) in
    (m, rw (s, u) (tenths-mono _ _ (length key + 0) m))
  where
    still : (p : ℕ) → is_right rule key typed p ≡ true → is_right rule key (typed ++ (b ∷ [])) p ≡ true
    still p e =
        let w = both (ltb p (length typed)) (rule (get_or key p 0) (get_or typed p 0)) e in
        let i : p < length typed = ltb-true p (length typed) w.0 in
        let j : p < length (typed ++ (b ∷ [])) = omega (arith, length-append typed (b ∷ [])) in
        rw (lt-ltb p _ j, get_or-append typed (b ∷ []) 0 p i) w.1

-- ---- the two editions

-- a test of all pairs of a list's numbers, computed
abbrev pub among : ℕ → List ℕ → Bool
among b [] = false
among b (x ∷ xs) = cond (eqb b x) true (among b xs)

abbrev pub all : (ℕ → Bool) → List ℕ → Bool
all f [] = true
all f (x ∷ xs) = cond (f x) (all f xs) false

pub all-at : (f : ℕ → Bool) (xs : List ℕ) → T (all f xs) → (b : ℕ) → T (among b xs) → T (f b)
all-at f [] t b h = absurd h
all-at f (x ∷ xs) t b h = go (f x) refl t (eqb b x) refl h (λ u v. all-at f xs u b v)
  where
    go : (p : Bool) → f x ≡ p → T (cond p (all f xs) false) → (q : Bool) → eqb b x ≡ q → T (cond q true (among b xs)) → (T (all f xs) → T (among b xs) → T (f b)) → T (f b)
    go true e u true g v more = rw (eqb-true b x g, e) tt
    go true e u false g v more = more u v
    go false e u q g v more = absurd u

pairs-at : (f : ℕ → ℕ → Bool) (xs : List ℕ) → T (all (λ k. all (f k) xs) xs) → (k t : ℕ) → T (among k xs) → T (among t xs) → T (f k t)
pairs-at f xs u k t x y = all-at (f k) xs (all-at (λ k. all (f k) xs) xs u k x) t y

unfoldable pub beq : Bool → Bool → Bool
beq true b = b
beq false b = not b

pub beq_same : (a b : Bool) → T (beq a b) → a ≡ b
unfolding beq
beq_same true true t = refl
beq_same true false t = absurd t
beq_same false true t = absurd t
beq_same false false t = refl

right-both : (key typed : List ℕ) (p : ℕ) → is_right same key typed p ≡ true → is_right lies key typed p ≡ true
right-both key typed p e =
    let w = both (ltb p (length typed)) (same (get_or key p 0) (get_or typed p 0)) e in
    rw w.0 (same-lies (get_or key p 0) (get_or typed p 0) w.1)

-- from edition 1 to edition 2 neither the right places nor the score fall
pub editions-rise : (key typed : List ℕ) → (right_of same key typed ≤ right_of lies key typed) × (tenths_of same key typed ≤ tenths_of lies key typed)
unfolding right_of tenths_of
editions-rise key typed =
    let m = count-mono (is_right same key typed) (is_right lies key typed) (length key) (λ p q e. right-both key typed p e) in
    (m, tenths-mono _ _ (length key + surplus_of key typed) m)

-- where key and typed hold only A, C, G and T, in either case, both editions count the same
abbrev pub Plain : ℕ → Type 0
Plain b = T (among b (65 ∷ 67 ∷ 71 ∷ 84 ∷ 97 ∷ 99 ∷ 103 ∷ 116 ∷ []))

pub plain-both : (k t : ℕ) → Plain k → Plain t → same k t ≡ lies k t
unfolding same lies coded folded set_of inside beq
plain-both k t x y = beq_same (same k t) (lies k t) (pairs-at (λ k t. beq (same k t) (lies k t)) (65 ∷ 67 ∷ 71 ∷ 84 ∷ 97 ∷ 99 ∷ 103 ∷ 116 ∷ []) tt k t x y)

pub plain-editions : (key typed : List ℕ) → ((p : ℕ) → p < length key → Plain (get_or key p 0)) → ((p : ℕ) → p < length typed → Plain (get_or typed p 0))
    → right_of same key typed ≡ right_of lies key typed
unfolding right_of
plain-editions key typed h k = count_same (is_right same key typed) (is_right lies key typed) (length key) (λ p q. go (ltb p (length typed)) p q (λ e. ltb-true p (length typed) e))
  where
    go : (t : Bool) (p : ℕ) → p < length key → (t ≡ true → p < length typed) → (t && same (get_or key p 0) (get_or typed p 0)) ≡ (t && lies (get_or key p 0) (get_or typed p 0))
    go true p q m = plain-both (get_or key p 0) (get_or typed p 0) (h p q) (k p (m refl))
    go false p q m = refl

-- typed U for key T; typed N for key A, typed A for key N; '[' and '{'
pub letters : (same 84 85 ≡ false) × (lies 84 85 ≡ true) × (same 65 78 ≡ false) × (lies 65 78 ≡ false) × (lies 78 97 ≡ true) × (same 91 123 ≡ false) × (lies 91 123 ≡ false) × (lies 45 45 ≡ true)
unfolding same lies coded folded set_of inside
letters = (refl, refl, refl, refl, refl, refl, refl, refl)

-- ---- the user's case, computed

abbrev pub copies : ℕ → ℕ → List ℕ
copies zero b = []
copies (suc n) b = b ∷ copies n b

pub users-case : (right_of same (copies 100 65) (copies 49 97 ++ (67 ∷ [])) ≡ 49) × (tenths_of same (copies 100 65) (copies 49 97 ++ (67 ∷ [])) ≡ 490)
unfolding right_of tenths_of surplus_of tenths count_below same folded
users-case = (refl, refl)
