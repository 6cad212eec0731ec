-- The bits of a word, and the places that they stand for.
use Rattle.std.specs.Prelude.{ℕ, zero, suc, ◌+◌, ◌-◌, ◌*◌, ◌/◌, ◌%◌, ◌^◌, ◌≤◌, ◌<◌, ◌≡◌, Bool, true, false, ◌&&◌, List, eqb, get_or}
use Rattle.std.proofs.Math.Path.{refl}
use Rattle.std.proofs.Common.{◌∙◌, add-zero, zero-add, suc-add, pow-suc, arith, eqb→eq}
use Rattle.std.proofs.Math.Arith.{digits_div, digits_mod, lt-one}
use Rattle.std.specs.Int.Bits.{bit_and, bit_or, and_step, and_self, block_half, block_odd}
use Rattle.std.specs.Int.Count.{count_trailing_zeros}
use Rattle.letters.specs.Sets.{bit, bit-lt}
use Rattle.scoring.specs.RuleLaws.{holds_at}
use Rattle.scoring.specs.Lanes.{weigh, weigh-small, weigh-none, sum_to, sum-next, IsLanes, lane}

abbrev pub taken : ℕ → Bool → ℕ
taken zero b = 0
taken (suc d) b = bit b

-- how many of the k lowest bits of x are set and pass a test, where the lowest has the number i
unfoldable pub hits : (ℕ → Bool) → ℕ → ℕ → ℕ → ℕ
hits g zero i x = 0
hits g (suc k) i x = taken (x % 2) (g i) + hits g k (i + 1) (x / 2)

pub hits-none : (g : ℕ → Bool) (k i : ℕ) → hits g k i 0 ≡ 0
unfolding hits
hits-none g zero i = refl
hits-none g (suc k) i = omega (arith, hits-none g k (i + 1))

taken-lt : (d : ℕ) (b : Bool) → taken d b < 2
taken-lt zero b = omega arith
taken-lt (suc d) b = bit-lt b

pub hits-most : (g : ℕ → Bool) (k i x : ℕ) → hits g k i x ≤ k
unfolding hits
hits-most g zero i x = omega arith
hits-most g (suc k) i x = omega (arith, hits-most g k (i + 1) (x / 2), taken-lt (x % 2) (g i))

-- ---- the lowest bit that is set, and the word without it

halves : (x : ℕ) → x ≡ x / 2 * 2 + x % 2
halves x = omega arith

-- of an even number, and of an odd one
even-less : (x y : ℕ) → 0 < x → x ≡ y * 2 → bit_and x (x - 1) ≡ bit_and y (y - 1) * 2 + 0
even-less x y h e =
    let p : x - 1 ≡ (y - 1) * 2 + 1 = omega arith in
    let q : x ≡ y * 2 + 0 = omega arith in
    and_step x (x - 1) ∙ rw (p, q, digits_div y {m = 2} {r = 0} (omega arith), digits_mod y {m = 2} {r = 0} (omega arith), digits_div (y - 1) {m = 2} {r = 1} (omega arith), digits_mod (y - 1) {m = 2} {r = 1} (omega arith))

odd-less : (x y : ℕ) → x ≡ y * 2 + 1 → bit_and x (x - 1) ≡ y * 2 + 0
odd-less x y e =
    let p : x - 1 ≡ y * 2 + 0 = omega arith in
    and_step x (x - 1) ∙ rw (p, e, digits_div y {m = 2} {r = 0} (omega arith), digits_mod y {m = 2} {r = 0} (omega arith), digits_div y {m = 2} {r = 1} (omega arith), digits_mod y {m = 2} {r = 1} (omega arith), and_self y)

pub record Lowest (g : ℕ → Bool) (k i x : ℕ) : Type 0 where
  pub within : count_trailing_zeros k x < k
  pub rest : hits g k i x ≡ bit (g (i + count_trailing_zeros k x)) + hits g k i (bit_and x (x - 1))

pub lowest : (g : ℕ → Bool) (k i x : ℕ) → 0 < x → x < 2 ^ k → Lowest g k i x
unfolding hits count_trailing_zeros
lowest g zero i x h l = absurd (omega arith)
lowest g (suc k) i x h l = go (x % 2) refl (λ p q. lowest g k (i + 1) (x / 2) p q)
  where
    go : (d : ℕ) → x % 2 ≡ d → (0 < x / 2 → x / 2 < 2 ^ k → Lowest g k (i + 1) (x / 2)) → Lowest g (suc k) i x
    go zero e more =
        let y = x / 2 in
        let n : x ≡ y * 2 = omega arith in
        let w : Lowest g k (i + 1) y = more (omega arith) (omega (arith, pow-suc 2 k)) in
        let m : bit_and x (x - 1) ≡ bit_and y (y - 1) * 2 + 0 = even-less x y h n in
        let j : i + suc (count_trailing_zeros k y) ≡ i + 1 + count_trailing_zeros k y = omega arith in
        record {
          within = rw e (omega (arith, w.within));
          rest = rw (m, e, digits_mod (bit_and y (y - 1)) {m = 2} {r = 0} (omega arith), digits_div (bit_and y (y - 1)) {m = 2} {r = 0} (omega arith), j) (omega (arith, w.rest));
        }
    go (suc d) e more =
        let y = x / 2 in
        let n : x ≡ y * 2 + 1 = omega arith in
        let m : bit_and x (x - 1) ≡ y * 2 + 0 = odd-less x y n in
        record {
          within = rw e (omega arith);
          rest = rw (m, e, digits_mod y {m = 2} {r = 0} (omega arith), digits_div y {m = 2} {r = 0} (omega arith), add-zero i) (omega arith);
        }

-- the place of the lowest bit, and the others
pub walk_step : (g : ℕ → Bool) (x : ℕ) → 0 < x → x < 2 ^ 64 → (count_trailing_zeros 64 x < 64) × (hits g 64 0 x ≡ bit (g (count_trailing_zeros 64 x)) + hits g 64 0 (bit_and x (x - 1)))
walk_step g x h l = let w = lowest g 64 0 x h l in (w.within, rw (zero-add (count_trailing_zeros 64 x)) at w.rest)

-- ---- a word of eight bytes

pub hits-cat : (g : ℕ → Bool) (j k i y a : ℕ) → a < 2 ^ j → hits g (j + k) i (y * 2 ^ j + a) ≡ hits g j i a + hits g k (i + j) y
unfolding hits
hits-cat g zero k i y a h =
    let z : a ≡ 0 = lt-one h in
    let e : 0 + k ≡ k = omega arith in
    let f : y * 1 + 0 ≡ y = omega arith in
    rw (z, e, add-zero i, f) (omega arith)
hits-cat g (suc j) k i y a h =
    let e : i + suc j ≡ i + 1 + j = omega arith in
    rw (suc-add j k, block_odd y j a, block_half y j a, e, hits-cat g j k (i + 1) y (a / 2) (omega (arith, pow-suc 2 j))) (omega arith)

pub hits-byte : (g : ℕ → Bool) (k i y a : ℕ) → a < 256 → hits g (8 + k) i (y * 256 + a) ≡ hits g 8 i a + hits g k (i + 8) y
hits-byte g k i y a h = hits-cat g 8 k i y a h

-- the bytes from a place on, the first being the lowest
unfoldable pub word_at : List ℕ → ℕ → ℕ
word_at s w =
    ((((((get_or s (w + 7) 0 * 256 + get_or s (w + 6) 0) * 256 + get_or s (w + 5) 0) * 256 + get_or s (w + 4) 0) * 256 + get_or s (w + 3) 0) * 256 + get_or s (w + 2) 0) * 256
    + get_or s (w + 1) 0) * 256
    + get_or s w 0

-- ---- its bits are the places of eight lanes

taken-bit : (a b : Bool) → taken (bit a) b ≡ bit (a && b)
taken-bit true b = refl
taken-bit false b = refl

column : (f g h : ℕ → Bool) (k n i q l : ℕ) → n ≤ k → ((b : ℕ) → b < n → (f (q + 32 * b + l) && g (i + b)) ≡ h (q + 32 * b + l)) → hits g k i (weigh f 2 q n l) ≡ weigh h 1 q n l
unfolding hits weigh
column f g h k zero i q l d e = hits-none g k i
column f g h zero (suc n) i q l d e = absurd (omega arith)
column f g h (suc k) (suc n) i q l d e =
    let y = weigh f 2 (q + 32) n l in
    let s : bit (f (q + l)) + 2 * y ≡ y * 2 + bit (f (q + l)) = omega arith in
    let z : q + 32 * 0 + l ≡ q + l = omega arith in
    let first : (f (q + l) && g i) ≡ h (q + l) = rw (z, add-zero i) at (e 0 (omega arith)) in
    rw (s, digits_mod y {m = 2} {r = bit (f (q + l))} (bit-lt (f (q + l))), digits_div y {m = 2} {r = bit (f (q + l))} (bit-lt (f (q + l))), taken-bit (f (q + l)) (g i), first)
    (omega (arith, column f g h k n (i + 1) (q + 32) l (omega arith) (λ b p. later b p)))
  where
    later : (b : ℕ) → b < n → (f (q + 32 + 32 * b + l) && g (i + 1 + b)) ≡ h (q + 32 + 32 * b + l)
    later b p =
        let u : q + 32 * (b + 1) + l ≡ q + 32 + 32 * b + l = omega arith in
        let v : i + (b + 1) ≡ i + 1 + b = omega arith in
        rw (u, v) at (e (b + 1) (omega arith))

module _ (f g h : ℕ → Bool) (q n w : ℕ) (s : List ℕ) (small : n ≤ 7) (fit : w + 8 ≤ 32) (lanes : IsLanes f 2 q n s)
    (agree : (j b : ℕ) → j < 8 → b < n → (f (q + 32 * b + (w + j)) && g (8 * j + b)) ≡ h (q + 32 * b + (w + j))) where
  byte : (l : ℕ) → l < 32 → get_or s l 0 < 256
  byte l p = rw (lane f 2 q n s lanes l p) (omega (arith, weigh-small f q n l small))

  lane-hits : (j i l : ℕ) → j < 8 → i ≡ 8 * j → l ≡ w + j → hits g 8 i (get_or s l 0) ≡ weigh h 1 q n l
  lane-hits j i l p d e = rw (d, e, lane f 2 q n s lanes (w + j) (omega arith)) (column f g h 8 n (8 * j) q (w + j) (omega arith) (λ b m. agree j b p m))

  word-hits : hits g 64 0 (word_at s w) ≡ weigh h 1 q n w + (weigh h 1 q n (w + 1) + (weigh h 1 q n (w + 2) + (weigh h 1 q n (w + 3)
      + (weigh h 1 q n (w + 4) + (weigh h 1 q n (w + 5) + (weigh h 1 q n (w + 6) + weigh h 1 q n (w + 7)))))))
  unfolding word_at
  word-hits =
      rw (
        hits-byte g 56 0 _ (get_or s w 0) (byte w (omega arith)),
        hits-byte g 48 8 _ (get_or s (w + 1) 0) (byte (w + 1) (omega arith)),
        hits-byte g 40 16 _ (get_or s (w + 2) 0) (byte (w + 2) (omega arith)),
        hits-byte g 32 24 _ (get_or s (w + 3) 0) (byte (w + 3) (omega arith)),
        hits-byte g 24 32 _ (get_or s (w + 4) 0) (byte (w + 4) (omega arith)),
        hits-byte g 16 40 _ (get_or s (w + 5) 0) (byte (w + 5) (omega arith)),
        hits-byte g 8 48 _ (get_or s (w + 6) 0) (byte (w + 6) (omega arith)),
        lane-hits 0 0 w (omega arith) refl (omega arith),
        lane-hits 1 8 (w + 1) (omega arith) refl refl,
        lane-hits 2 16 (w + 2) (omega arith) refl refl,
        lane-hits 3 24 (w + 3) (omega arith) refl refl,
        lane-hits 4 32 (w + 4) (omega arith) refl refl,
        lane-hits 5 40 (w + 5) (omega arith) refl refl,
        lane-hits 6 48 (w + 6) (omega arith) refl refl,
        lane-hits 7 56 (w + 7) (omega arith) refl refl,
      )

-- eight terms more
pub sum-eight : (f : ℕ → ℕ) (w : ℕ) → sum_to f (w + 8) ≡ sum_to f w + (f w + (f (w + 1) + (f (w + 2) + (f (w + 3) + (f (w + 4) + (f (w + 5) + (f (w + 6) + f (w + 7))))))))
sum-eight f w =
    omega (
      arith,
      sum-next f w (w + 1) refl,
      sum-next f (w + 1) (w + 2) (omega arith),
      sum-next f (w + 2) (w + 3) (omega arith),
      sum-next f (w + 3) (w + 4) (omega arith),
      sum-next f (w + 4) (w + 5) (omega arith),
      sum-next f (w + 5) (w + 6) (omega arith),
      sum-next f (w + 6) (w + 7) (omega arith),
      sum-next f (w + 7) (w + 8) (omega arith),
    )

pub word_lanes : (f g h : ℕ → Bool) (q n w : ℕ) (s : List ℕ) → n ≤ 7 → w + 8 ≤ 32 → IsLanes f 2 q n s
    → ((j b : ℕ) → j < 8 → b < n → (f (q + 32 * b + (w + j)) && g (8 * j + b)) ≡ h (q + 32 * b + (w + j)))
    → sum_to (weigh h 1 q n) (w + 8) ≡ sum_to (weigh h 1 q n) w + hits g 64 0 (word_at s w)
word_lanes f g h q n w s k m e a = rw (word-hits f g h q n w s k m e a) (sum-eight (weigh h 1 q n) w)

-- no place passes the test
pub word_none : (f g : ℕ → Bool) (q n w : ℕ) (s : List ℕ) → n ≤ 7 → w + 8 ≤ 32 → IsLanes f 2 q n s
    → ((j b : ℕ) → j < 8 → b < n → (f (q + 32 * b + (w + j)) && g (8 * j + b)) ≡ false) → hits g 64 0 (word_at s w) ≡ 0
word_none f g q n w s k m e a =
    rw (word-hits f g (λ p. false) q n w s k m e a, weigh-none q n w, weigh-none q n (w + 1), weigh-none q n (w + 2), weigh-none q n (w + 3), weigh-none q n (w + 4), weigh-none q n (w + 5), weigh-none q n (w + 6), weigh-none q n (w + 7))

-- ---- the sum of its bytes

pub word_small : (s : List ℕ) (w : ℕ) → w + 8 ≤ 32 → ((i : ℕ) → i < 32 → get_or s i 0 ≤ 7) → word_at s w ≤ 506381209866536711
unfolding word_at
word_small s w k h =
    omega (
      arith,
      h w (omega arith),
      h (w + 1) (omega arith),
      h (w + 2) (omega arith),
      h (w + 3) (omega arith),
      h (w + 4) (omega arith),
      h (w + 5) (omega arith),
      h (w + 6) (omega arith),
      h (w + 7) (omega arith),
    )

-- 256 is one more than 255
pub word_sum : (s : List ℕ) (w : ℕ) → (m : ℕ) × (word_at s w + sum_to (λ l. get_or s l 0) w ≡ 255 * m + sum_to (λ l. get_or s l 0) (w + 8))
unfolding word_at
word_sum s w = (
  get_or s (w + 1) 0 + 257 * get_or s (w + 2) 0 + 65793 * get_or s (w + 3) 0 + 16843009 * get_or s (w + 4) 0 + 4311810305 * get_or s (w + 5) 0
      + 1103823438081 * get_or s (w + 6) 0 + 282578800148737 * get_or s (w + 7) 0,
  omega (arith, sum-eight (λ l. get_or s l 0) w),
)

-- ---- the place of a bit

-- bit 8 j + b is at place j of block b
unfoldable pub place : ℕ → ℕ
place z = z % 8 * 32 + z / 8

pub place-at : (j b : ℕ) → b < 8 → place (8 * j + b) ≡ 32 * b + j
unfolding place
place-at j b h =
    let e : 8 * j + b ≡ j * 8 + b = omega arith in
    rw (e, digits_mod j {m = 8} {r = b} h, digits_div j {m = 8} {r = b} h) (omega arith)

turned : ℕ → Bool
turned z = eqb (bit_or (z * 32 % 256) (z / 8)) (place z)

-- a turn of the byte by five bits
pub turn : (z : ℕ) → z < 64 → bit_or (z * 32 % 256) (z / 8) ≡ place z
unfolding place turned
turn z h = eqb→eq _ _ (holds_at turned 64 tt z h)
