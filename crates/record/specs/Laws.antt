-- Laws of the addressing rule. Callers cite these and unfold nothing.
use Prim.Native.Nat.{ℕ, zero, suc, ◌+◌, ◌-◌, ◌*◌, ◌/◌, ◌%◌, ◌^◌, ◌≤◌, ◌<◌}
use Rattle.std.proofs.Math.Path.{◌≡◌, refl, ap}
use Rattle.std.proofs.Common.{sym, ◌∙◌, add-one, add-zero, le-div_iff_mul-le, div-lt_iff_lt-mul, Some, None, Option}
use Rattle.std.specs.Prelude.{Bool, ◌&&◌, length, get_or}
use Rattle.std.proofs.Math.Bool.{true, false, cond, and-false}
use Rattle.std.proofs.Math.Dec.{ltb}
use Rattle.std.proofs.Math.Arith.{digits_div, digits_mod}
use borrow.Author.Tests.{lt-ltb, le-ltb, ltb-true, ltb-false}
use native.Mathlib.Omega.{arith}
use Rattle.std.proofs.Math.Nat.{div-add-mod', add-mul, one-mul, add-div_left, add-mod_left, div-eq_of_lt, mod-eq_of_lt, zero-mul}
use Rattle.record.specs.Description.{described_at}
use Rattle.record.specs.Place.{place_of, places_from, place_in, offset_of, has_place, address_of}
use Rattle.record.specs.declared.Position.{Position}
use Rattle.record.specs.declared.Offset.{Offset}
use Rattle.record.specs.declared.Record.{Record}

-- ---- places: by line bases b and line width w, from position p

module _ (p b w : ℕ) where
  -- k bases on, in the same line
  run-sum : (i k : ℕ) → i + k ≡ i / b * b + (i % b + k)
  run-sum i k = omega (arith, div-add-mod' i b)

  pub run-div : (i k : ℕ) → i % b + k < b → (i + k) / b ≡ i / b
  run-div i k h = ap (λ (n : ℕ). n / b) (run-sum i k) ∙ digits_div (i / b) h

  pub run-mod : (i k : ℕ) → i % b + k < b → (i + k) % b ≡ i % b + k
  run-mod i k h = ap (λ (n : ℕ). n % b) (run-sum i k) ∙ digits_mod (i / b) h

  pub place-run : (i k : ℕ) → i % b + k < b → place_of p b w (i + k) ≡ place_of p b w i + k
  unfolding place_of
  place-run i k h = rw (run-div i k h, run-mod i k h) (omega arith)

  -- the next base of the same line
  pub next-div : (i : ℕ) → i % b + 1 < b → suc i / b ≡ i / b
  next-div i h = rw (add-one i) at (run-div i 1 h)

  pub next-mod : (i : ℕ) → i % b + 1 < b → suc i % b ≡ i % b + 1
  next-mod i h = rw (add-one i) at (run-mod i 1 h)

  pub place-next : (i : ℕ) → i % b + 1 < b → place_of p b w (suc i) ≡ suc (place_of p b w i)
  place-next i h = simp add-one at (place-run i 1 h)

  -- the first base of the next line
  wrap-sum : (i : ℕ) → i % b + 1 ≡ b → suc i ≡ (i / b + 1) * b + 0
  wrap-sum i h = rw (add-mul (i / b) 1 b, one-mul b) (omega (arith, div-add-mod' i b))

  pub wrap-div : (i : ℕ) → 0 < b → i % b + 1 ≡ b → suc i / b ≡ i / b + 1
  wrap-div i z h = ap (λ (n : ℕ). n / b) (wrap-sum i h) ∙ digits_div (i / b + 1) z

  pub wrap-mod : (i : ℕ) → 0 < b → i % b + 1 ≡ b → suc i % b ≡ 0
  wrap-mod i z h = ap (λ (n : ℕ). n % b) (wrap-sum i h) ∙ digits_mod (i / b + 1) z

  pub place-wrap : (i : ℕ) → 0 < b → i % b + 1 ≡ b → place_of p b w (suc i) + b ≡ suc (place_of p b w i) + w
  unfolding place_of
  place-wrap i z h = rw (wrap-div i z h, wrap-mod i z h, add-mul (i / b) 1 w, one-mul w) (omega arith)

  -- no byte between two lines
  pub place-line : (i : ℕ) → w ≡ b → place_of p b w i ≡ p + i
  unfolding place_of
  place-line i h = rw h (omega (arith, div-add-mod' i b))

  -- the bases of the first line, and those behind it
  pub place-first : (i : ℕ) → i < b → place_of p b w i ≡ p + i
  unfolding place_of
  place-first i h = rw (div-eq_of_lt h, mod-eq_of_lt h, zero-mul w) (omega arith)

  pub place-row : (i : ℕ) → 0 < b → place_of p b w (b + i) ≡ place_of (p + w) b w i
  unfolding place_of
  place-row i z = rw (add-div_left i z, add-mod_left b i, add-mul (i / b) 1 w, one-mul w) (omega arith)

  -- of n places from base number i + 1 on, one for each, number k is that of base number i + k + 1
  pub length-places : (i n : ℕ) → length (places_from p b w i n) ≡ n
  unfolding places_from
  length-places i zero = refl
  length-places i (suc n) = ap suc (length-places (suc i) n)

  pub get_or-places : (i n k : ℕ) → k < n → get_or (places_from p b w i n) k 0 ≡ place_of p b w (i + k)
  unfolding places_from
  get_or-places i zero k h = absurd (omega arith)
  get_or-places i (suc n) zero h = ap (place_of p b w) (sym (add-zero i))
  get_or-places i (suc n) (suc k) h = get_or-places (suc i) n k (omega arith) ∙ ap (place_of p b w) q
    where
      q : suc i + k ≡ i + suc k
      q = omega arith

-- ---- addresses

-- is a product over a largest number m, by a quotient
pub mul-within : (m q w : ℕ) → 0 < w → q ≤ m / w → q * w ≤ m
mul-within m q w z h = (le-div_iff_mul-le {k = w} {x = q} {y = m} z).0 h

pub mul-past : (m q w : ℕ) → 0 < w → m / w < q → m < q * w
mul-past m q w z h = (div-lt_iff_lt-mul {k = w} {x = m} {y = q} z).0 h

-- a whole number as an offset
pub offset_at : (n : ℕ) → n < 2 ^ 64 → Some (record { 0 = n }) ≡ offset_of n
unfolding offset_of
offset_at n h = rw (lt-ltb _ _ h)

pub offset-over : (n : ℕ) → 2 ^ 64 ≤ n → None ≡ offset_of n
unfolding offset_of
offset-over n h = rw (le-ltb _ _ h)

pub offset-known : (n : ℕ) (o : Offset) → offset_of n ≡ Some o → (n < 2 ^ 64) × (o.0 ≡ n)
unfolding offset_of
offset-known n o e = go (ltb n (2 ^ 64)) refl e
  where
    go : (t : Bool) → ltb n (2 ^ 64) ≡ t → cond t (Some (record { 0 = n })) None ≡ Some o → (n < 2 ^ 64) × (o.0 ≡ n)
    go true h q = (ltb-true _ _ h, cc)
    go false h q = let z : ◌≡◌ {A = ℕ} 0 1 = cc in absurd (omega arith)

pub offset-none : (n : ℕ) → offset_of n ≡ None → 2 ^ 64 ≤ n
unfolding offset_of
offset-none n e = go (ltb n (2 ^ 64)) refl e
  where
    go : (t : Bool) → ltb n (2 ^ 64) ≡ t → cond {A = Option Offset} t (Some (record { 0 = n })) None ≡ None → 2 ^ 64 ≤ n
    go true h q = let z : ◌≡◌ {A = ℕ} 0 1 = cc in absurd (omega arith)
    go false h q = ltb-false _ _ h

-- what is known of a base that has an offset
pub record Addressed (x : Record) (p : Position) (o : Offset) : Type 0 where
  pub from_one : 0 < p.0
  pub some-bases : 0 < x.line_bases
  pub some-width : 0 < x.line_width
  pub fits : place_in x (p.0 - 1) < 2 ^ 64
  pub here : o.0 ≡ place_in x (p.0 - 1)

module _ (x : Record) (p : Position) where
  -- if a number is 0, there is no offset
  pub address-no-position : p.0 ≤ 0 → None ≡ address_of x p
  unfolding address_of has_place
  address-no-position h = rw (le-ltb _ _ h)

  pub address-no-bases : x.line_bases ≤ 0 → None ≡ address_of x p
  unfolding address_of has_place
  address-no-bases h = rw (le-ltb _ _ h, and-false)

  pub address-no-width : x.line_width ≤ 0 → None ≡ address_of x p
  unfolding address_of has_place
  address-no-width h = simp (le-ltb _ _ h, and-false)

  -- else it is the rule's, if that is below 2 ^ 64
  module _ (a : 0 < p.0) (b : 0 < x.line_bases) (w : 0 < x.line_width) where
    pub address-place : address_of x p ≡ offset_of (place_in x (p.0 - 1))
    unfolding address_of has_place
    address-place = simp (lt-ltb _ _ a, lt-ltb _ _ b, lt-ltb _ _ w)

    pub address-at : place_in x (p.0 - 1) < 2 ^ 64 → address_of x p ≡ Some (record { 0 = place_in x (p.0 - 1) })
    address-at h = address-place ∙ sym (offset_at _ h)

    pub address-over : 2 ^ 64 ≤ place_in x (p.0 - 1) → address_of x p ≡ None
    address-over h = address-place ∙ sym (offset-over _ h)

    -- then a base has no offset only because it is over 64 bits
    pub address-none : address_of x p ≡ None → 2 ^ 64 ≤ place_in x (p.0 - 1)
    address-none e = offset-none _ (sym address-place ∙ e)

  pub address-known : (o : Offset) → address_of x p ≡ Some o → Addressed x p o
  unfolding address_of has_place
  address-known o e = go (ltb 0 p.0) refl (ltb 0 x.line_bases) refl (ltb 0 x.line_width) refl e
    where
      go : (a : Bool) → ltb 0 p.0 ≡ a → (b : Bool) → ltb 0 x.line_bases ≡ b → (w : Bool) → ltb 0 x.line_width ≡ w
          → cond (a && (b && w)) (offset_of (place_in x (p.0 - 1))) None ≡ Some o → Addressed x p o
      go true a true b true w q =
          let k = offset-known _ o q in
          record { from_one = ltb-true _ _ a; some-bases = ltb-true _ _ b; some-width = ltb-true _ _ w; fits = k.0; here = k.1 }
      go false a _ b _ w q = let z : ◌≡◌ {A = ℕ} 0 1 = cc in absurd (omega arith)
      go true a false b _ w q = let z : ◌≡◌ {A = ℕ} 0 1 = cc in absurd (omega arith)
      go true a true b false w q = let z : ◌≡◌ {A = ℕ} 0 1 = cc in absurd (omega arith)

-- ---- descriptions

-- a description that has bytes begins at its start
pub described-some : (start n : ℕ) → (n ≡ 0 → ⊥) → start ≡ described_at start n
described-some start zero h = absurd (h refl)
described-some start (suc n) h = refl
