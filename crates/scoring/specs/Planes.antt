-- Bytes by their bits. Eight bytes are turned to eight planes, of which plane i has bit i of all eight, by swapping parts of two bytes.
use Prim.Native.Nat.{ℕ, zero, suc, ◌+◌, ◌-◌, ◌*◌, ◌/◌, ◌%◌, ◌^◌, ◌≤◌, ◌<◌, min, max}
use Rattle.std.specs.Prelude.{◌≡◌, ◌⊎◌, Bool, not, ◌&&◌, ◌||◌, T}
use Rattle.std.proofs.Math.Path.{refl, ap, ap₂}
use Rattle.std.proofs.Common.{sym, ◌∙◌, pow-suc, add-zero, add-suc, mul_assoc, mul-one, add-one}
use Rattle.std.proofs.Math.Bool.{true, false, cond, xor}
use Rattle.std.proofs.Math.Numerals.{add-two, add-four}
use native.Mathlib.Omega.{arith}
use Rattle.std.proofs.Math.Dec.{eqb, ltb}
use Rattle.std.proofs.Math.Arith.{digits_div, digits_mod}
use Rattle.std.specs.Int.Bits.{bit_and, bit_or, bit_xor, differ, and_step, or_step, xor_step}
use Rattle.std.proofs.lemmas.Nat.{and_le_r}
use Rattle.std.specs.Int.Count.{ones, ones_step}
use borrow.Author.Tests.{ltb-true, ltb-false, lt-ltb, le-ltb}
use Rattle.letters.specs.Sets.{bit}
use Rattle.scoring.specs.RuleLaws.{holds, holds_at}
use Rattle.scoring.specs.Theorems.{beq, beq_same}
use Rattle.scoring.specs.Places.{count_below}

-- bit i of a number
unfoldable pub bit_at : ℕ → ℕ → Bool
bit_at zero x = eqb (x % 2) 1
bit_at (suc i) x = bit_at i (x / 2)

-- ---- the operations, bit by bit

-- where an operation takes the two lowest bits, and the rest apart
module _ (op f : ℕ → ℕ → ℕ) (g : Bool → Bool → Bool) (small : (a b : ℕ) → f (a % 2) (b % 2) < 2)
    (step : (a b : ℕ) → op a b ≡ op (a / 2) (b / 2) * 2 + f (a % 2) (b % 2)) (low : (a b : ℕ) → a < 2 → b < 2 → eqb (f a b) 1 ≡ g (eqb a 1) (eqb b 1)) where
  bit-op : (i a b : ℕ) → bit_at i (op a b) ≡ g (bit_at i a) (bit_at i b)
  unfolding bit_at
  bit-op zero a b = ap (λ (x : ℕ). eqb (x % 2) 1) (step a b) ∙ (ap (λ (x : ℕ). eqb x 1) (digits_mod (op (a / 2) (b / 2)) {m = 2} {r = f (a % 2) (b % 2)} (small a b)) ∙ low (a % 2) (b % 2) (omega arith) (omega arith))
  bit-op (suc i) a b = ap (λ (x : ℕ). bit_at i (x / 2)) (step a b) ∙ (ap (bit_at i) (digits_div (op (a / 2) (b / 2)) {m = 2} {r = f (a % 2) (b % 2)} (small a b)) ∙ bit-op i (a / 2) (b / 2))

-- of a test of two bits, all four
four : (f : ℕ → ℕ → ℕ) (g : Bool → Bool → Bool) → T (holds (λ a. holds (λ b. beq (eqb (f a b) 1) (g (eqb a 1) (eqb b 1))) 2) 2) → (a b : ℕ) → a < 2 → b < 2 → eqb (f a b) 1 ≡ g (eqb a 1) (eqb b 1)
four f g t a b h k = beq_same _ _ (holds_at (λ b. beq (eqb (f a b) 1) (g (eqb a 1) (eqb b 1))) 2 (holds_at (λ a. holds (λ b. beq (eqb (f a b) 1) (g (eqb a 1) (eqb b 1))) 2) 2 t a h) b k)

below : (f : ℕ → ℕ → ℕ) → T (holds (λ a. holds (λ b. ltb (f a b) 2) 2) 2) → (a b : ℕ) → f (a % 2) (b % 2) < 2
below f t a b = go (ltb (f (a % 2) (b % 2)) 2) refl (holds_at (λ b. ltb (f (a % 2) b) 2) 2 (holds_at (λ a. holds (λ b. ltb (f a b) 2) 2) 2 t (a % 2) (omega arith)) (b % 2) (omega arith))
  where
    go : (v : Bool) → ltb (f (a % 2) (b % 2)) 2 ≡ v → T v → f (a % 2) (b % 2) < 2
    go true e w = ltb-true _ _ e
    go false e w = absurd w

pub bit-and : (i a b : ℕ) → bit_at i (bit_and a b) ≡ (bit_at i a && bit_at i b)
unfolding beq
bit-and = bit-op bit_and min ◌&&◌ (below min tt) and_step (four min ◌&&◌ tt)

pub bit-or : (i a b : ℕ) → bit_at i (bit_or a b) ≡ (bit_at i a || bit_at i b)
unfolding beq
bit-or = bit-op bit_or max ◌||◌ (below max tt) or_step (four max ◌||◌ tt)

pub bit-xor : (i a b : ℕ) → bit_at i (bit_xor a b) ≡ xor (bit_at i a) (bit_at i b)
unfolding beq xor
bit-xor = bit-op bit_xor differ xor (below differ tt) xor_step (four differ xor tt)

-- ---- shifts

double : (i x : ℕ) → bit_at (suc i) (x * 2) ≡ bit_at i x
unfolding bit_at
double i x = ap (bit_at i) (omega arith)

double-low : (x : ℕ) → bit_at 0 (x * 2) ≡ false
unfolding bit_at
double-low x = let e : x * 2 % 2 ≡ 0 = omega arith in rw e

twice : (s x : ℕ) → x * 2 ^ suc s ≡ x * 2 ^ s * 2
twice s x = ap (λ (v : ℕ). x * v) (pow-suc 2 s) ∙ sym (mul_assoc x (2 ^ s) 2)

left-none : (s i x : ℕ) → i < s → bit_at i (x * 2 ^ s) ≡ false
left-none zero i x h = absurd (omega arith)
left-none (suc s) zero x h = ap (bit_at 0) (twice s x) ∙ double-low (x * 2 ^ s)
left-none (suc s) (suc i) x h = ap (bit_at (suc i)) (twice s x) ∙ (double i (x * 2 ^ s) ∙ left-none s i x (omega arith))

left-on : (s i x : ℕ) → bit_at (i + s) (x * 2 ^ s) ≡ bit_at i x
left-on zero i x = ap₂ bit_at (add-zero i) (mul-one x)
left-on (suc s) i x = ap₂ bit_at (add-suc i s) (twice s x) ∙ (double (i + s) (x * 2 ^ s) ∙ left-on s i x)

left-some : (s i x : ℕ) → s ≤ i → bit_at i (x * 2 ^ s) ≡ bit_at (i - s) x
left-some s i x h = let e : i ≡ i - s + s = omega arith in ap (λ (v : ℕ). bit_at v (x * 2 ^ s)) e ∙ left-on s (i - s) x

-- ---- two bytes whose parts of s bits are swapped: the first then has the even parts of both, the second the odd ones

unfoldable pub Swapped : ℕ → ℕ → ℕ → ℕ → ℕ → Type 0
Swapped s a b x y =
    (i : ℕ) → i < 8 → (bit_at i x ≡ cond (eqb (i / s % 2) 0) (bit_at i a) (bit_at (i - s) b)) × (bit_at i y ≡ cond (eqb (i / s % 2) 0) (bit_at (i + s) a) (bit_at i b))

one_bit : (v p q : Bool) → xor q (xor p q && v) ≡ cond v p q
unfolding xor
one_bit true true true = refl
one_bit true true false = refl
one_bit true false true = refl
one_bit true false false = refl
one_bit false true true = refl
one_bit false true false = refl
one_bit false false true = refl
one_bit false false false = refl

other-bit : (v p q : Bool) → xor p (xor p q && not v) ≡ cond v p q
unfolding xor
other-bit true true true = refl
other-bit true true false = refl
other-bit true false true = refl
other-bit true false false = refl
other-bit false true true = refl
other-bit false true false = refl
other-bit false false true = refl
other-bit false false false = refl

xor-false : (v : Bool) → xor v false ≡ v
unfolding xor
xor-false true = refl
xor-false false = refl

-- the bits that differ, where the mask has the even parts: both bytes change there
module _ (s m a b u w : ℕ) (right : (i : ℕ) → bit_at i u ≡ bit_at (i + s) a) (none : (i : ℕ) → i < s → bit_at i w ≡ false)
    (left : (i : ℕ) → s ≤ i → bit_at i w ≡ bit_at (i - s) (bit_and (bit_xor u b) m))
    (mask : (i : ℕ) → i < 8 → bit_at i m ≡ eqb (i / s % 2) 0) (first : (i : ℕ) → i < 8 → i < s → eqb (i / s % 2) 0 ≡ true)
    (later : (i : ℕ) → i < 8 → s ≤ i → bit_at (i - s) m ≡ not (eqb (i / s % 2) 0)) where
  differing : (i : ℕ) → bit_at i (bit_and (bit_xor u b) m) ≡ (xor (bit_at (i + s) a) (bit_at i b) && bit_at i m)
  differing i = bit-and i (bit_xor u b) m ∙ ap (λ (v : Bool). v && bit_at i m) (bit-xor i u b ∙ ap (λ (v : Bool). xor v (bit_at i b)) (right i))

  swapped : Swapped s a b (bit_xor a w) (bit_xor b (bit_and (bit_xor u b) m))
  unfolding Swapped
  swapped i h = (bit-xor i a w ∙ go (ltb i s) refl, bit-xor i b _ ∙ (ap (xor (bit_at i b)) (differing i ∙ ap (λ (v : Bool). xor (bit_at (i + s) a) (bit_at i b) && v) (mask i h)) ∙ one_bit (eqb (i / s % 2) 0) (bit_at (i + s) a) (bit_at i b)))
    where
      go : (v : Bool) → ltb i s ≡ v → xor (bit_at i a) (bit_at i w) ≡ cond (eqb (i / s % 2) 0) (bit_at i a) (bit_at (i - s) b)
      go true e = rw (first i h (ltb-true i s e), none i (ltb-true i s e)) (xor-false (bit_at i a))
      go false e =
          let k : s ≤ i = ltb-false i s e in
          let f : i - s + s ≡ i = omega arith in
          ap (xor (bit_at i a)) (left i k ∙ differing (i - s) ∙ ap₂ (λ (v : ℕ) (z : Bool). xor (bit_at v a) (bit_at (i - s) b) && z) f (later i h k)) ∙ other-bit (eqb (i / s % 2) 0) (bit_at i a) (bit_at (i - s) b)

-- what the module asks of a mask, computed
even-parts : ℕ → ℕ → ℕ → Bool
even-parts s m i = beq (bit_at i m) (eqb (i / s % 2) 0)

first_part : ℕ → ℕ → Bool
first_part s i = not (ltb i s) || eqb (i / s % 2) 0

later-parts : ℕ → ℕ → ℕ → Bool
later-parts s m i = ltb i s || beq (bit_at (i - s) m) (not (eqb (i / s % 2) 0))

mask_at : (s m : ℕ) → T (holds (even-parts s m) 8) → (i : ℕ) → i < 8 → bit_at i m ≡ eqb (i / s % 2) 0
unfolding even-parts
mask_at s m t i h = beq_same (bit_at i m) (eqb (i / s % 2) 0) (holds_at (even-parts s m) 8 t i h)

first-at : (s : ℕ) → T (holds (first_part s) 8) → (i : ℕ) → i < 8 → i < s → eqb (i / s % 2) 0 ≡ true
unfolding first_part
first-at s t i h k = go (eqb (i / s % 2) 0) refl (rw (lt-ltb i s k) at (holds_at (first_part s) 8 t i h))
  where
    go : (v : Bool) → eqb (i / s % 2) 0 ≡ v → T (not true || eqb (i / s % 2) 0) → eqb (i / s % 2) 0 ≡ true
    go true e w = e
    go false e w = absurd (rw e at w)

later-at : (s m : ℕ) → T (holds (later-parts s m) 8) → (i : ℕ) → i < 8 → s ≤ i → bit_at (i - s) m ≡ not (eqb (i / s % 2) 0)
unfolding later-parts
later-at s m t i h k = beq_same (bit_at (i - s) m) (not (eqb (i / s % 2) 0)) (rw (le-ltb i s k) at (holds_at (later-parts s m) 8 t i h))

pub swap_four : (a b : ℕ) → Swapped 4 a b (bit_xor a (bit_and (bit_xor (a / 16) b) 15 * 16 % 256)) (bit_xor b (bit_and (bit_xor (a / 16) b) 15))
unfolding bit_at beq even-parts first_part later-parts
swap_four a b =
    let t = bit_and (bit_xor (a / 16) b) 15 in
    let e : t * 16 % 256 ≡ t * 2 ^ 4 = omega (arith, and_le_r (bit_xor (a / 16) b) 15) in
    swapped 4 15 a b (a / 16) (t * 16 % 256) (λ i. rw (add-four i) (ap (bit_at i) (omega arith))) (λ i h. ap (bit_at i) e ∙ left-none 4 i t h) (λ i h. ap (bit_at i) e ∙ left-some 4 i t h) (mask_at 4 15 tt) (first-at 4 tt) (later-at 4 15 tt)

pub swap-two : (a b : ℕ) → Swapped 2 a b (bit_xor a (bit_and (bit_xor (a / 4) b) 51 * 4 % 256)) (bit_xor b (bit_and (bit_xor (a / 4) b) 51))
unfolding bit_at beq even-parts first_part later-parts
swap-two a b =
    let t = bit_and (bit_xor (a / 4) b) 51 in
    let e : t * 4 % 256 ≡ t * 2 ^ 2 = omega (arith, and_le_r (bit_xor (a / 4) b) 51) in
    swapped 2 51 a b (a / 4) (t * 4 % 256) (λ i. rw (add-two i) (ap (bit_at i) (omega arith))) (λ i h. ap (bit_at i) e ∙ left-none 2 i t h) (λ i h. ap (bit_at i) e ∙ left-some 2 i t h) (mask_at 2 51 tt) (first-at 2 tt) (later-at 2 51 tt)

pub swap-one : (a b : ℕ) → Swapped 1 a b (bit_xor a (bit_and (bit_xor (a / 2) b) 85 * 2 % 256)) (bit_xor b (bit_and (bit_xor (a / 2) b) 85))
unfolding bit_at beq even-parts first_part later-parts
swap-one a b =
    let t = bit_and (bit_xor (a / 2) b) 85 in
    let e : t * 2 % 256 ≡ t * 2 ^ 1 = omega (arith, and_le_r (bit_xor (a / 2) b) 85) in
    swapped 1 85 a b (a / 2) (t * 2 % 256) (λ i. rw (add-one i)) (λ i h. ap (bit_at i) e ∙ left-none 1 i t h) (λ i h. ap (bit_at i) e ∙ left-some 1 i t h) (mask_at 1 85 tt) (first-at 1 tt) (later-at 1 85 tt)

-- halves, quarters or bits, and the even ones of a byte
abbrev pub AreParts : ℕ → ℕ → Type 0
AreParts s m = ((s ≡ 4) × (m ≡ 15)) ⊎ (((s ≡ 2) × (m ≡ 51)) ⊎ ((s ≡ 1) × (m ≡ 85)))

-- ---- how many bits are set

count-first : (f : ℕ → Bool) (n : ℕ) → count_below f (suc n) ≡ bit (f 0) + count_below (λ j. f (suc j)) n
unfolding count_below
count-first f zero = omega arith
count-first f (suc n) = omega (arith, count-first f n)

bit-odd : (x : ℕ) → x < 2 → bit (eqb x 1) ≡ x
bit-odd zero h = refl
bit-odd (suc zero) h = refl
bit-odd (suc (suc x)) h = absurd (omega arith)

pub ones-bits : (n x : ℕ) → x < 2 ^ n → ones x ≡ count_below (λ j. bit_at j x) n
unfolding bit_at ones count_below
ones-bits zero x h = let z : x ≡ 0 = omega arith in rw z
ones-bits (suc n) x h =
    ones_step x ∙ (ap₂ ◌+◌ (sym (bit-odd (x % 2) (omega arith))) (ones-bits n (x / 2) (omega (arith, pow-suc 2 n))) ∙ sym (count-first (λ j. bit_at j x) n))
