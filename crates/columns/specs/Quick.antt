-- Digits as most numbers have them, 1 to 9 in front and no sign: what the quick way through a line finds, and that it is a number as it is written.
use Rattle.std.specs.Prelude.{ℕ, zero, suc, ◌+◌, ◌-◌, ◌*◌, ◌^◌, ◌≤◌, ◌<◌, ◌≡◌, refl, List, [], ◌∷◌, ◌++◌, Bool, true, false, ◌&&◌, length, take, drop, get_or, Some}
use Rattle.std.proofs.Common.{sym, ap, ◌∙◌, arith, add-one, add-zero, length-drop, take-suc, get_or-drop, ne_eqb, lt-ltb, le-leb}
use Rattle.columns.specs.Decimal.{is_digit, all_digits, value_from, number_from, digits_of, number_of, plain_number, decimal_of}
use Rattle.columns.specs.Digits.{from-ge, digit-in, write_read}

-- the first n bytes are digits, whose value is v
pub record FrontDigits (s : List ℕ) (v n : ℕ) : Type 0 where
  pub within : n ≤ length s
  pub digits : all_digits (take n s) ≡ true
  pub value : v ≡ value_from 0 (take n s)
  pub small : v < 2 ^ 64

-- the digits at a place of some bytes end at another, have a value, and begin with no 0; or there are none
pub record DigitsAt (s : List ℕ) (at v end : ℕ) : Type 0 where
  pub from : at ≤ end
  pub digits : FrontDigits (drop at s) v (end - at)
  pub plain : at < end → get_or s at 0 ≡ 48 → ⊥

-- ---- digits

all_more : (l : List ℕ) (b : ℕ) → all_digits l ≡ true → is_digit b ≡ true → all_digits (l ++ (b ∷ [])) ≡ true
unfolding all_digits
all_more [] b h e = rw e
all_more (x ∷ l) b h e = go (is_digit x) refl h (all_more l b)
  where
    go : (t : Bool) → is_digit x ≡ t → (t && all_digits l) ≡ true → (all_digits l ≡ true → is_digit b ≡ true → all_digits (l ++ (b ∷ [])) ≡ true) → (t && all_digits (l ++ (b ∷ []))) ≡ true
    go true q h more = more h e
    go false q h more = h

value-more : (a : ℕ) (l : List ℕ) (b : ℕ) → value_from a (l ++ (b ∷ [])) ≡ value_from a l * 10 + (b - 48)
unfolding value_from
value-more a [] b = refl
value-more a (x ∷ l) b = value-more (a * 10 + (x - 48)) l b

pub front-none : (s : List ℕ) → FrontDigits s 0 0
unfolding all_digits value_from
front-none s = record { within = omega arith; digits = refl; value = refl; small = omega arith }

pub front-more : (s : List ℕ) (v n : ℕ) → FrontDigits s v n → n < length s → 48 ≤ get_or s n 0 → get_or s n 0 ≤ 57 → v < 1844674407370955160
    → FrontDigits s (v * 10 + (get_or s n 0 - 48)) (n + 1)
front-more s v n h l lo hi r =
    let q : take (n + 1) s ≡ take n s ++ (get_or s n 0 ∷ []) = rw (add-one n) (take-suc s n 0 l) in
    record {
      within = omega arith;
      digits = rw q (all_more (take n s) (get_or s n 0) h.digits (rw (le-leb 48 (get_or s n 0) lo, le-leb (get_or s n 0) 57 hi)));
      value = rw (q, value-more 0 (take n s) (get_or s n 0), ← h.value);
      small = omega arith;
    }

-- the digits at a place

digits-none : (s : List ℕ) (at : ℕ) → FrontDigits (drop at s) 0 (at - at)
digits-none s at = let z : at - at ≡ 0 = omega arith in rw z (front-none (drop at s))

pub at_none : (s : List ℕ) (at : ℕ) → DigitsAt s at 0 at
at_none s at = record { from = omega arith; digits = digits-none s at; plain = λ h e. omega arith }

pub at_more : (s : List ℕ) (at v i : ℕ) → at ≤ i → FrontDigits (drop at s) v (i - at) → i < length s → 48 ≤ get_or s i 0 → get_or s i 0 ≤ 57 → v < 1844674407370955160
    → FrontDigits (drop at s) (v * 10 + (get_or s i 0 - 48)) (i + 1 - at)
at_more s at v i o h l lo hi r =
    let k : at + (i - at) ≡ i = omega arith in
    let g : get_or (drop at s) (i - at) 0 ≡ get_or s i 0 = get_or-drop at s (i - at) 0 ∙ ap (λ (j : ℕ). get_or s j 0) k in
    let n : i + 1 - at ≡ i - at + 1 = omega arith in
    rw (n, ← g) (front-more (drop at s) v (i - at) h (omega (arith, length-drop at s)) (rw g lo) (rw g hi) r)

pub at_first : (s : List ℕ) (at : ℕ) → at < length s → 48 ≤ get_or s at 0 → get_or s at 0 ≤ 57 → FrontDigits (drop at s) (get_or s at 0 - 48) (at + 1 - at)
at_first s at l lo hi =
    let e : 0 * 10 + (get_or s at 0 - 48) ≡ get_or s at 0 - 48 = omega arith in
    rw e at (at_more s at 0 at (omega arith) (digits-none s at) l lo hi (omega arith))

-- ---- the field

plain-first : (b : ℕ) (r : List ℕ) → 48 ≤ b → (b ≡ 48 → ⊥) → plain_number (b ∷ r) ≡ true
unfolding plain_number
plain-first b [] h z = refl
plain-first b (x ∷ r) h z = rw (ne_eqb b 43 (λ q. omega arith), ne_eqb b 48 z)

-- digits that begin with 1 to 9 are a number
number_is : (b : ℕ) (r : List ℕ) → all_digits (b ∷ r) ≡ true → value_from 0 (b ∷ r) < 2 ^ 64 → number_of (b ∷ r) ≡ Some (value_from 0 (b ∷ r))
unfolding number_of digits_of number_from
number_is b r h l =
    let d = digit-in b r h in
    rw (ne_eqb b 43 (λ q. omega arith), h, lt-ltb (value_from 0 (b ∷ r)) (2 ^ 64) l)

value_pos : (b : ℕ) (r : List ℕ) → 48 < b → 0 < value_from 0 (b ∷ r)
unfolding value_from
value_pos b r h = omega (arith, from-ge (0 * 10 + (b - 48)) r)

-- digits that begin with 1 to 9 are their number as it is written, which is not 0
front-written : (l : List ℕ) (v n : ℕ) → FrontDigits l v n → 0 < n → (get_or l 0 0 ≡ 48 → ⊥) → (decimal_of v ≡ take n l) × (0 < v)
front-written l v zero h p z = absurd (omega arith)
front-written [] v (suc n) h p z = absurd (omega (arith, h.within))
front-written (b ∷ l) v (suc n) h p z =
    let d = digit-in b (take n l) h.digits in
    let c : 48 < b = omega arith in
    let k : plain_number (b ∷ take n l) ≡ true = plain-first b (take n l) d.0 z in
    let w : number_of (b ∷ take n l) ≡ Some v = number_is b (take n l) h.digits (omega (arith, h.value, h.small)) ∙ ap Some (sym h.value) in
    (write_read (b ∷ take n l) v w k, omega (arith, h.value, value_pos b (take n l) c))

pub digits-written : (s : List ℕ) (at v end : ℕ) → DigitsAt s at v end → at < end → (decimal_of v ≡ take (end - at) (drop at s)) × (0 < v)
digits-written s at v end h some =
    let z : get_or (drop at s) 0 0 ≡ get_or s at 0 = get_or-drop at s 0 0 ∙ ap (λ (j : ℕ). get_or s j 0) (add-zero at) in
    front-written (drop at s) v (end - at) h.digits (omega arith) (λ g. h.plain some (sym z ∙ g))
