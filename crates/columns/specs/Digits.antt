-- Reading and writing share these facts over the number of digits.
use Rattle.std.specs.Prelude.{ℕ, zero, suc, ◌+◌, ◌-◌, ◌*◌, ◌/◌, ◌%◌, ◌^◌, ◌≤◌, ◌<◌, ◌≡◌, refl, List, [], ◌∷◌, Bool, true, false, cond, not, ◌&&◌, ◌||◌, length, drop, ltb, leb, eqb, Some, None, Option}
use Rattle.std.proofs.Common.{sym, ap, ◌∙◌, true≢false, add-one, add-mul, mul_assoc, mul-le-mul_right, mod-eq_of_lt, lt_of_not-le, le_trans, add-zero, suc-add, add-suc, le-div_iff_mul-le, div-lt_iff_lt-mul, mul_comm, drop_of_length-le, drop-cons, lit<}
use native.Mathlib.Omega.{arith}
use Rattle.std.proofs.Math.Nat.{pow-succ', pow-le-pow_right, one-le-pow, div-eq_of_lt-le, div-div-eq-div-mul}
use Rattle.std.proofs.Math.Arith.{mod-mul}
use Rattle.std.proofs.Math.ListN.{get_or}
use borrow.Author.Tests.{lt-ltb, le-ltb, ltb-true, ltb-false, le-leb, lt-leb, leb-true, eq-eqb, ne_eqb, eqb-false}
use Rattle.columns.specs.Decimal.{all_digits, value_from, number_from, digits_of, number_of, plain_number, digits, width_from, width, decimal_of}

-- ---- reading, from a place on

pub digits-none : (s : List ℕ) → length s ≡ 0 → None ≡ digits_of s
unfolding digits_of
digits-none [] h = refl
digits-none (b ∷ r) h = absurd (omega arith)

pub digits-start : (s : List ℕ) → (length s ≡ 0 → ⊥) → number_from 0 (drop 0 s) ≡ digits_of s
unfolding digits_of
digits-start [] h = absurd (h refl)
digits-start (b ∷ r) h = refl

module _ (s : List ℕ) (a i : ℕ) where
  pub number-end : length s ≤ i → a < 2 ^ 64 → number_from a (drop i s) ≡ Some a
  unfolding number_from all_digits value_from
  number-end h b = rw (drop_of_length-le s h, lt-ltb _ _ b)

  pub number-low : i < length s → get_or s i 0 < 48 → number_from a (drop i s) ≡ None
  unfolding number_from all_digits
  number-low h b = rw (drop-cons s i 0, lt-leb _ _ b)

  pub number-high : i < length s → 57 < get_or s i 0 → number_from a (drop i s) ≡ None
  unfolding number_from all_digits
  number-high h b = let l : 48 ≤ get_or s i 0 = omega arith in rw (drop-cons s i 0, le-leb _ _ l, lt-leb _ _ b)

  pub number_more : i < length s → 48 ≤ get_or s i 0 → get_or s i 0 ≤ 57
      → number_from a (drop i s) ≡ number_from (a * 10 + (get_or s i 0 - 48)) (drop (i + 1) s)
  unfolding number_from all_digits value_from
  number_more h l u = rw (drop-cons s i 0, le-leb _ _ l, le-leb _ _ u, add-one)

pub from-ge : (a : ℕ) (l : List ℕ) → a ≤ value_from a l
unfolding value_from
from-ge a [] = omega arith
from-ge a (b ∷ r) = omega (arith, from-ge (a * 10 + (b - 48)) r)

pub number-over : (a : ℕ) (l : List ℕ) → 2 ^ 64 ≤ a → number_from a l ≡ None
unfolding number_from
number-over a l h = rw (le-ltb (value_from a l) (2 ^ 64) (omega (arith, from-ge a l))) (go (all_digits l))
  where
    go : (t : Bool) → cond {A = Option ℕ} t None None ≡ None
    go true = refl
    go false = refl

pub plain-short : (s : List ℕ) → length s < 2 → true ≡ plain_number s
unfolding plain_number
plain-short [] h = refl
plain-short (b ∷ []) h = refl
plain-short (b ∷ x ∷ r) h = absurd (omega arith)

pub plain-plus : (s : List ℕ) → 2 ≤ length s → get_or s 0 0 ≡ 43 → false ≡ plain_number s
unfolding plain_number
plain-plus [] h p = absurd (omega arith)
plain-plus (b ∷ []) h p = absurd (omega arith)
plain-plus (b ∷ x ∷ r) h p = rw (eq-eqb b 43 p)

pub plain-first : (s : List ℕ) → 2 ≤ length s → (get_or s 0 0 ≡ 43 → ⊥) → not (eqb (get_or s 0 0) 48) ≡ plain_number s
unfolding plain_number
plain-first [] h p = absurd (omega arith)
plain-first (b ∷ []) h p = absurd (omega arith)
plain-first (b ∷ x ∷ r) h p = rw (ne_eqb b 43 p)

-- ---- a number, with a plus and without

pub number-none : (s : List ℕ) → length s ≡ 0 → None ≡ number_of s
unfolding number_of
number-none [] h = refl
number-none (b ∷ r) h = absurd (omega arith)

pub number-plus : (s : List ℕ) → 1 ≤ length s → get_or s 0 0 ≡ 43 → digits_of (drop 1 s) ≡ number_of s
unfolding number_of
number-plus [] h p = absurd (omega arith)
number-plus (b ∷ r) h p = rw (eq-eqb b 43 p)

pub number_digits : (s : List ℕ) → (get_or s 0 0 ≡ 43 → ⊥) → digits_of s ≡ number_of s
unfolding digits_of number_of
number_digits [] p = refl
number_digits (b ∷ r) p = rw (ne_eqb b 43 p)

-- ---- the number of digits

ten-pos : (k : ℕ) → 1 ≤ 10 ^ k
ten-pos k = one-le-pow k 10 (lit< tt)

ten-more : (j k : ℕ) → j ≤ k → 10 ^ j ≤ 10 ^ k
ten-more j k h = pow-le-pow_right (lit< tt) h

le_of_not_gt : {n m : ℕ} → (m < n → ⊥) → n ≤ m
le_of_not_gt {n} {m} h = omega (arith, lt_of_not-le {n = suc m} {m = n} h)

-- w digits are enough for n, and fewer are not
record Wide (n w : ℕ) : Type 0 where
  some : 1 ≤ w
  enough : n < 10 ^ w
  least : (k : ℕ) → 1 ≤ k → k < w → 10 ^ k ≤ n

-- it is enough to look at one fewer
wide_by : (n k : ℕ) → n < 10 ^ suc k → (1 ≤ k → 10 ^ k ≤ n) → Wide n (suc k)
wide_by n k b h = record { some = omega arith; enough = b; least = λ j p q. le_trans (ten-more j k (omega arith)) (h (omega arith)) }

wide_from : (f j n : ℕ) → n < 10 ^ (suc j + f) → (1 ≤ j → 10 ^ j ≤ n) → Wide n (width_from f (suc j) n)
unfolding width_from
wide_from zero j n b h = wide_by n j (rw add-zero at b) h
wide_from (suc f) j n b h = go (ltb n (10 ^ suc j)) refl (λ g. wide_from f (suc j) n (rw (suc-add, ← add-suc) b) (λ _. g))
  where
    go : (t : Bool) → ltb n (10 ^ suc j) ≡ t → (10 ^ suc j ≤ n → Wide n (width_from f (suc (suc j)) n))
        → Wide n (cond t (suc j) (width_from f (suc (suc j)) n))
    go true e k = wide_by n j (ltb-true _ _ e) h
    go false e k = k (ltb-false _ _ e)

below_power : (k : ℕ) → k < 10 ^ k
below_power zero = ten-pos 0
below_power (suc k) = rw (pow-succ' 10 k) (omega (arith, below_power k))

wide : (n : ℕ) → Wide n (width n)
unfolding width
wide n = wide_from n 0 n (omega (arith, below_power n, ten-more n (1 + n) (omega arith))) (λ h. absurd (omega arith))

wide-le : (n w v : ℕ) → Wide n w → Wide n v → w ≤ v
wide-le n w v x y = le_of_not_gt (λ (h : v < w). omega (arith, x.least v y.some h, y.enough))

wide_is : (n w : ℕ) → Wide n w → width n ≡ w
wide_is n w x = omega (arith, wide-le n w (width n) x (wide n), wide-le n (width n) w (wide n) x)

pub digits-length : (k n : ℕ) → length (digits k n) ≡ k
unfolding digits
digits-length zero n = refl
digits-length (suc k) n = ap suc (digits-length k n)

decimal-length : (n : ℕ) → length (decimal_of n) ≡ width n
unfolding decimal_of
decimal-length n = digits-length (width n) n

-- a number of 64 bits has at most 20 digits
pub decimal-short : (n : ℕ) → n < 2 ^ 64 → length (decimal_of n) ≤ 20
decimal-short n b =
    rw decimal-length
    (le_of_not_gt (λ (h : 20 < width n). omega (arith, (wide n).least 20 (omega arith) h)))

-- ---- how many digits

-- a number below ten has one digit
pub one-digit : (n : ℕ) → n < 10 → length (decimal_of n) ≡ 1
one-digit n b = decimal-length n ∙ wide_is n 1 (wide_by n 0 (omega arith) (λ h. absurd (omega arith)))

-- any other has one more than its tenth
pub digit-more : (n : ℕ) → 10 ≤ n → length (decimal_of n) ≡ suc (length (decimal_of (n / 10)))
digit-more n h = rw (decimal-length n, decimal-length (n / 10)) (wide_is n (suc (width (n / 10))) (wide_by n (width (n / 10)) up (λ _. low (width (n / 10)) (wide (n / 10)))))
  where
    up : n < 10 ^ suc (width (n / 10))
    up = rw (pow-succ' 10 (width (n / 10))) (omega (arith, (wide (n / 10)).enough))

    low : (v : ℕ) → Wide (n / 10) v → 10 ^ v ≤ n
    low zero x = omega (arith, x.some)
    low (suc zero) x = omega arith
    low (suc (suc u)) x = rw (pow-succ' 10 (suc u)) (omega (arith, x.least (suc u) (omega arith) (omega arith)))

-- two more than its hundredth, where there is one
pub pair-more : (n : ℕ) → 100 ≤ n → length (decimal_of n) ≡ 2 + length (decimal_of (n / 100))
pair-more n h =
    let e : n / 10 / 10 ≡ n / 100 = omega arith in
    omega (arith, digit-more n (omega arith), digit-more (n / 10) (omega arith), ap (λ (k : ℕ). length (decimal_of k)) e)

pub four-more : (n : ℕ) → 10000 ≤ n → length (decimal_of n) ≡ 4 + length (decimal_of (n / 10000))
four-more n h =
    let e : n / 100 / 100 ≡ n / 10000 = omega arith in
    omega (arith, pair-more n (omega arith), pair-more (n / 100) (omega arith), ap (λ (k : ℕ). length (decimal_of k)) e)

-- four digits at most are counted by comparing
pub few-digits : (n : ℕ) → n < 10000 → 1 + cond (ltb n 10) 0 1 + cond (ltb n 100) 0 1 + cond (ltb n 1000) 0 1 ≡ length (decimal_of n)
few-digits n h = go (ltb n 10) (ltb n 100) (ltb n 1000) refl refl refl
  where
    two : 10 ≤ n → n < 100 → length (decimal_of n) ≡ 2
    two a b = omega (arith, digit-more n a, one-digit (n / 10) (omega arith))

    go : (t u v : Bool) → ltb n 10 ≡ t → ltb n 100 ≡ u → ltb n 1000 ≡ v → 1 + cond t 0 1 + cond u 0 1 + cond v 0 1 ≡ length (decimal_of n)
    go true true true a b c = omega (arith, one-digit n (ltb-true n 10 a))
    go false true true a b c = omega (arith, two (ltb-false n 10 a) (ltb-true n 100 b))
    go false false true a b c = omega (arith, pair-more n (ltb-false n 100 b), one-digit (n / 100) (omega (arith, ltb-true n 1000 c)))
    go false false false a b c =
        omega (arith, pair-more n (ltb-false n 100 b), digit-more (n / 100) (omega (arith, ltb-false n 1000 c)), one-digit (n / 100 / 10) (omega arith))
    go true true false a b c = absurd (omega (arith, ltb-true n 10 a, ltb-false n 1000 c))
    go true false v a b c = absurd (omega (arith, ltb-true n 10 a, ltb-false n 100 b))
    go false true false a b c = absurd (omega (arith, ltb-true n 100 b, ltb-false n 1000 c))

-- ---- writing

-- one more division
pub ten-times : (n k : ℕ) → n / 10 ^ k / 10 ≡ n / 10 ^ suc k
ten-times n k = div-div-eq-div-mul n (10 ^ k) 10 ∙ rw (pow-succ' 10 k, mul_comm 10 (10 ^ k))

-- that many last digits are all of them
pub all-digits : (n w : ℕ) → w ≡ length (decimal_of n) → digits w n ≡ decimal_of n
unfolding decimal_of
all-digits n w e = ap (λ (k : ℕ). digits k n) (e ∙ decimal-length n)

-- ---- written, then read

-- the value of k digits of n, with those of a before them
value-digits : (k n a : ℕ) → value_from a (digits k n) ≡ a * 10 ^ k + n % 10 ^ k
unfolding digits value_from
value-digits zero n a = omega arith
value-digits (suc k) n a =
    let x : ℕ = n / 10 ^ k % 10 in
    let e : 48 + x - 48 ≡ x = omega arith in
    let m : n % (10 * 10 ^ k) ≡ x * 10 ^ k + n % 10 ^ k = mod-mul n {m = 10} {c = 10 ^ k} (lit< tt) (ten-pos k) in
    let s : (a * 10 + x) * 10 ^ k ≡ a * (10 * 10 ^ k) + x * 10 ^ k = add-mul (a * 10) x (10 ^ k) ∙ rw (mul_assoc a 10 (10 ^ k)) in
    ap (λ (y : ℕ). value_from (a * 10 + y) (digits k n)) e ∙ (value-digits k n (a * 10 + x) ∙ rw (pow-succ' 10 k, m, s) (omega arith))

digits-all : (k n : ℕ) → all_digits (digits k n) ≡ true
unfolding digits all_digits
digits-all zero n = refl
digits-all (suc k) n =
    let l : 48 ≤ 48 + n / 10 ^ k % 10 = omega arith in
    let u : 48 + n / 10 ^ k % 10 ≤ 57 = omega arith in
    rw (le-leb _ _ l, le-leb _ _ u) (digits-all k n)

from-digits : (k n : ℕ) → n < 10 ^ k → n < 2 ^ 64 → number_from 0 (digits k n) ≡ Some n
unfolding number_from
from-digits k n g d =
    let e : value_from 0 (digits k n) ≡ n = value-digits k n 0 ∙ (rw (mod-eq_of_lt g) (omega arith)) in
    rw (digits-all k n, e, lt-ltb _ _ d)

digits-some : (s : List ℕ) → 1 ≤ length s → digits_of s ≡ number_from 0 s
unfolding digits_of
digits-some [] h = absurd (omega arith)
digits-some (b ∷ r) h = refl

-- no plus is written
digits-first : (k n : ℕ) → get_or (digits k n) 0 0 ≡ 43 → ⊥
unfolding digits
digits-first zero n e = absurd (omega arith)
digits-first (suc k) n e = absurd (omega arith)

-- a number that is written reads back as itself
pub read-written : (n : ℕ) → n < 2 ^ 64 → number_of (decimal_of n) ≡ Some n
unfolding decimal_of
read-written n b =
    sym (number_digits _ (digits-first (width n) n))
    ∙ (digits-some _ (rw (digits-length (width n) n) (wide n).some) ∙ from-digits (width n) n (wide n).enough b)

plain-digits : (w n : ℕ) → Wide n w → plain_number (digits w n) ≡ true
unfolding digits plain_number
plain-digits zero n x = refl
plain-digits (suc zero) n x = refl
plain-digits (suc (suc k)) n x =
    let q : 10 ^ suc k ≤ n = x.least (suc k) (omega arith) (omega arith) in
    let low : 1 ≤ n / 10 ^ suc k = (le-div_iff_mul-le {k = 10 ^ suc k} {x = 1} {y = n} (ten-pos (suc k))).1 (omega arith) in
    let up : n / 10 ^ suc k < 10 = (div-lt_iff_lt-mul {k = 10 ^ suc k} {x = n} {y = 10} (ten-pos (suc k))).1 (rw (← pow-succ' 10 (suc k)) x.enough) in
    rw (ne_eqb (48 + n / 10 ^ suc k % 10) 43 (λ e. omega arith), ne_eqb (48 + n / 10 ^ suc k % 10) 48 (λ e. omega arith))

-- and is plain
pub written-plain : (n : ℕ) → plain_number (decimal_of n) ≡ true
unfolding decimal_of
written-plain n = plain-digits (width n) n (wide n)

-- ---- read, then written

-- a digit in front
pub digit-in : (b : ℕ) (r : List ℕ) → all_digits (b ∷ r) ≡ true → (48 ≤ b) × ((b ≤ 57) × (all_digits r ≡ true))
unfolding all_digits
digit-in b r h = go (leb 48 b) (leb b 57) refl refl h
  where
    go : (t u : Bool) → leb 48 b ≡ t → leb b 57 ≡ u → ((t && u) && all_digits r) ≡ true → (48 ≤ b) × ((b ≤ 57) × (all_digits r ≡ true))
    go true true e g k = (leb-true _ _ e, (leb-true _ _ g, k))
    go true false e g k = absurd (true≢false (sym k))
    go false u e g k = absurd (true≢false (sym k))

-- the value of digits behind a lies in a's span
value-span : (a : ℕ) (s : List ℕ) → all_digits s ≡ true → (a * 10 ^ length s ≤ value_from a s) × (value_from a s < (a + 1) * 10 ^ length s)
unfolding value_from
value-span a [] h = (omega arith, omega arith)
value-span a (b ∷ r) h =
    let d = digit-in b r h in
    let v = value-span (a * 10 + (b - 48)) r d.1.1 in
    let p : ℕ = 10 ^ length r in
    let low : a * 10 * p ≤ (a * 10 + (b - 48)) * p = mul-le-mul_right p (omega arith) in
    let up : (a * 10 + (b - 48) + 1) * p ≤ (a + 1) * 10 * p = mul-le-mul_right p (omega (arith, d)) in
    rw (pow-succ' 10 (length r), ← mul_assoc a 10 p, ← mul_assoc (a + 1) 10 p) (omega (arith, v), omega (arith, v))

digits_value : (a : ℕ) (s : List ℕ) → all_digits s ≡ true → digits (length s) (value_from a s) ≡ s
unfolding value_from digits
digits_value a [] h = refl
digits_value a (b ∷ r) h =
    let d = digit-in b r h in
    let v = value-span (a * 10 + (b - 48)) r d.1.1 in
    let q = div-eq_of_lt-le {k = a * 10 + (b - 48)} (10 ^ length r) v.0 v.1 in
    let e : 48 + (a * 10 + (b - 48)) % 10 ≡ b = omega (arith, d) in
    rw (q, e, digits_value (a * 10 + (b - 48)) r d.1.1)

number_is : (s : List ℕ) (v : ℕ) → number_from 0 s ≡ Some v → (all_digits s ≡ true) × ((value_from 0 s ≡ v) × (v < 2 ^ 64))
unfolding number_from
number_is s v h = go (all_digits s) (ltb (value_from 0 s) (2 ^ 64)) refl refl h
  where
    go : (t u : Bool) → all_digits s ≡ t → ltb (value_from 0 s) (2 ^ 64) ≡ u → cond t (cond u (Some (value_from 0 s)) None) None ≡ Some v
        → (all_digits s ≡ true) × ((value_from 0 s ≡ v) × (v < 2 ^ 64))
    go true true e g k = let z : value_from 0 s ≡ v = cc in (e, (z, rw (← z) (ltb-true _ _ g)))
    go true false e g k = let z : ◌≡◌ {A = ℕ} 0 1 = cc in absurd (omega arith)
    go false u e g k = let z : ◌≡◌ {A = ℕ} 0 1 = cc in absurd (omega arith)

-- digits that are read are one or more
digits_are : (s : List ℕ) (v : ℕ) → digits_of s ≡ Some v → (1 ≤ length s) × (number_from 0 s ≡ Some v)
unfolding digits_of
digits_are [] v h = let z : ◌≡◌ {A = ℕ} 0 1 = cc in absurd (omega arith)
digits_are (b ∷ r) v h = (omega arith, h)

-- a number that is read fits 64 bits
pub number_fits : (s : List ℕ) (v : ℕ) → number_of s ≡ Some v → v < 2 ^ 64
unfolding number_of
number_fits [] v h = let z : ◌≡◌ {A = ℕ} 0 1 = cc in absurd (omega arith)
number_fits (b ∷ r) v h = go (eqb b 43) h
  where
    go : (t : Bool) → cond t (digits_of r) (digits_of (b ∷ r)) ≡ Some v → v < 2 ^ 64
    go true k = (number_is r v (digits_are r v k).1).1.1
    go false k = (number_is (b ∷ r) v (digits_are (b ∷ r) v k).1).1.1

-- a plain number begins with no plus, and where it has more than one byte with no zero
plain-front : (b x : ℕ) (r : List ℕ) → plain_number (b ∷ x ∷ r) ≡ true → (eqb b 43 ≡ false) × (eqb b 48 ≡ false)
unfolding plain_number
plain-front b x r p = go (eqb b 43) (eqb b 48) refl refl p
  where
    go : (t u : Bool) → eqb b 43 ≡ t → eqb b 48 ≡ u → not (t || u) ≡ true → (eqb b 43 ≡ false) × (eqb b 48 ≡ false)
    go true u e g k = absurd (true≢false (sym k))
    go false true e g k = absurd (true≢false (sym k))
    go false false e g k = (e, g)

-- so it is its digits
plain-digits-are : (b : ℕ) (r : List ℕ) (v : ℕ) → number_of (b ∷ r) ≡ Some v → plain_number (b ∷ r) ≡ true → number_from 0 (b ∷ r) ≡ Some v
unfolding number_of
plain-digits-are b [] v h p = go (eqb b 43) h
  where
    go : (t : Bool) → cond t (digits_of []) (digits_of (b ∷ [])) ≡ Some v → number_from 0 (b ∷ []) ≡ Some v
    go true k = absurd (omega (arith, (digits_are [] v k).0))
    go false k = (digits_are (b ∷ []) v k).1
plain-digits-are b (x ∷ r) v h p = (digits_are (b ∷ x ∷ r) v (rw (plain-front b x r p).0 at h)).1

wide_value : (b : ℕ) (r : List ℕ) → all_digits (b ∷ r) ≡ true → plain_number (b ∷ r) ≡ true → Wide (value_from 0 (b ∷ r)) (length (b ∷ r))
unfolding value_from
wide_value b [] h p = wide_by _ 0 (omega (arith, (value-span 0 (b ∷ []) h).1)) (λ g. absurd (omega arith))
wide_value b (x ∷ r) h p =
    let k : ℕ = suc (length r) in
    let d : ℕ = 0 * 10 + (b - 48) in
    let e : 1 * 10 ^ k ≤ d * 10 ^ k = mul-le-mul_right (10 ^ k) (omega (arith, digit-in b (x ∷ r) h, eqb-false b 48 (plain-front b x r p).1)) in
    wide_by _ k (omega (arith, (value-span 0 (b ∷ x ∷ r) h).1)) (λ _. omega (arith, e, value-span d (x ∷ r) (digit-in b (x ∷ r) h).1.1))

-- a plain number is written as it was read
pub write_read : (s : List ℕ) (v : ℕ) → number_of s ≡ Some v → plain_number s ≡ true → decimal_of v ≡ s
unfolding number_of decimal_of
write_read [] v h p = let z : ◌≡◌ {A = ℕ} 0 1 = cc in absurd (omega arith)
write_read (b ∷ r) v h p =
    let n = number_is (b ∷ r) v (plain-digits-are b r v h p) in
    rw (← n.1.0, wide_is _ _ (wide_value b r n.0 p)) (digits_value 0 (b ∷ r) n.0)
