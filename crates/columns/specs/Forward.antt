-- A number written from its first digits to its last: by its size it is a few digits, or a number and its last four or eight digits.
use Rattle.std.specs.Prelude.{ℕ, zero, suc, ◌+◌, ◌-◌, ◌*◌, ◌/◌, ◌%◌, ◌^◌, ◌≤◌, ◌<◌, ◌≡◌, refl, List, [], ◌∷◌, ◌++◌, length, get_or, set}
use Rattle.std.proofs.Common.{drop-drop, sym, ap, ◌∙◌, arith, mod-eq_of_lt, mul_comm, zero-add, suc-add, lit<}
use Rattle.std.proofs.Math.Nat.{pow-succ', one-le-pow, div-div-eq-div-mul}
use Rattle.std.specs.Int.{to_le_bytes, w16, w32}
use Rattle.std.proofs.lemmas.Nat.{le_bytes_2, le_bytes_4}
use borrow.Rule.Slice.PartMut.{put_mid}
use Rattle.columns.specs.Bytes.{overlaid, overlaid-one, overlaid-more, overlaid-length}
use Rattle.columns.specs.Decimal.{digits, decimal_of, NumberPut}
use Rattle.columns.specs.Digits.{ten-times, all-digits, digits-length, one-digit, digit-more}

-- ---- a number in two parts

-- divisions by ten, some and then more
ten-parts : (n w k : ℕ) → n / 10 ^ k / 10 ^ w ≡ n / 10 ^ (w + k)
ten-parts n zero k = rw (zero-add k) (omega arith)
ten-parts n (suc w) k = sym (ten-times (n / 10 ^ k) w) ∙ (ap (λ (x : ℕ). x / 10) (ten-parts n w k) ∙ (ten-times n (w + k) ∙ rw (suc-add w k)))

digits-split : (w k n : ℕ) → digits (w + k) n ≡ digits w (n / 10 ^ k) ++ digits k n
unfolding digits
digits-split zero k n = rw (zero-add k)
digits-split (suc w) k n = rw (suc-add w k, ten-parts n w k, digits-split w k n)

-- k digits more than what is left without the last k
pub more-digits : (k n : ℕ) → 10 ^ k ≤ n → length (decimal_of n) ≡ k + length (decimal_of (n / 10 ^ k))
more-digits zero n h = let e : n / 10 ^ 0 ≡ n = omega arith in rw (e, zero-add (length (decimal_of n)))
more-digits (suc k) n h =
    let p : 10 * 10 ^ k ≤ n = rw (pow-succ' 10 k) at h in
    let one : 1 ≤ 10 ^ k = one-le-pow k 10 (lit< tt) in
    let r : n / 10 / 10 ^ k ≡ n / 10 ^ suc k = div-div-eq-div-mul n 10 (10 ^ k) ∙ rw (pow-succ' 10 k) in
    omega (arith, digit-more n (omega arith), more-digits k (n / 10) (omega arith), ap (λ (x : ℕ). length (decimal_of x)) r)

decimal-split : (k n : ℕ) → 10 ^ k ≤ n → decimal_of n ≡ decimal_of (n / 10 ^ k) ++ digits k n
decimal-split k n h =
    let w : ℕ = length (decimal_of (n / 10 ^ k)) in
    let e : w + k ≡ length (decimal_of n) = omega (arith, more-digits k n h) in
    sym (all-digits n (w + k) e) ∙ (digits-split w k n ∙ ap (λ (l : List ℕ). l ++ digits k n) (all-digits (n / 10 ^ k) w refl))

-- ---- the last digits are those of the remainder

last-two : (n : ℕ) → digits 2 (n % 100) ≡ digits 2 n
unfolding digits
last-two n =
    let a : n % 100 / 10 ^ 1 % 10 ≡ n / 10 ^ 1 % 10 = omega arith in
    let b : n % 100 / 10 ^ 0 % 10 ≡ n / 10 ^ 0 % 10 = omega arith in
    rw (a, b)

pub last-four : (n : ℕ) → digits 4 (n % 10000) ≡ digits 4 n
unfolding digits
last-four n =
    let a : n % 10000 / 10 ^ 3 % 10 ≡ n / 10 ^ 3 % 10 = omega arith in
    let b : n % 10000 / 10 ^ 2 % 10 ≡ n / 10 ^ 2 % 10 = omega arith in
    let c : n % 10000 / 10 ^ 1 % 10 ≡ n / 10 ^ 1 % 10 = omega arith in
    let d : n % 10000 / 10 ^ 0 % 10 ≡ n / 10 ^ 0 % 10 = omega arith in
    rw (a, b, c, d)

eight : (n : ℕ) → digits 8 n ≡ digits 4 (n / 10000) ++ digits 4 n
eight n = digits-split 4 4 n

pub last-eight : (n : ℕ) → digits 8 (n % 100000000) ≡ digits 8 n
last-eight n =
    let a : n % 100000000 / 10000 ≡ n / 10000 % 10000 = omega arith in
    let b : n % 100000000 % 10000 ≡ n % 10000 = omega arith in
    let c : digits 4 (n % 100000000) ≡ digits 4 n = sym (last-four (n % 100000000)) ∙ (ap (digits 4) b ∙ last-four n) in
    rw (eight (n % 100000000), eight n, a, c, last-four (n / 10000))

-- ---- four digits as a word: two halves side by side, and the tenths of both

halves_are : (h l two : ℕ) → h < 100 → two ≡ h + 65536 * l → (two / 65536 ≡ l) × (two % 65536 ≡ h)
halves_are h l two b e = let q : two / 65536 ≡ l = omega arith in (q, omega arith)

pub halves_small : (n two : ℕ) → n < 10000 → two ≡ n / 100 + 65536 * (n % 100) → (two % 65536 < 100) × (two / 65536 < 100)
halves_small n two b e = let x = halves_are (n / 100) (n % 100) two (omega arith) e in rw (x.0, x.1) (omega arith, omega arith)

-- the product has the tenth of the first half, and above its bit 16 that of the second
product : (h l : ℕ) → h < 100 → l < 100 → 103 * (h + 65536 * l) / 1024 ≡ h / 10 + 6592 * l
product h l b c = omega arith

first-tenth : (t l x : ℕ) → t < 10 → x ≡ t + 6592 * l → x % 16 ≡ t
first-tenth t l x b e = let q : x / 16 ≡ 412 * l = omega arith in omega arith

second-tenth : (t l x : ℕ) → t < 10 → l < 100 → x ≡ t + 6592 * l → x / 65536 ≡ l / 10
second-tenth t l x b c e = omega arith

pub both-tenths : (two : ℕ) → two % 65536 < 100 → two / 65536 < 100
    → 103 * two / 1024 % 16 + 103 * two / 1024 / 65536 * 65536 ≡ two % 65536 / 10 + 65536 * (two / 65536 / 10)
both-tenths two b c =
    let h : ℕ = two % 65536 in
    let l : ℕ = two / 65536 in
    let e : two ≡ h + 65536 * l = omega arith in
    let x : 103 * two / 1024 ≡ h / 10 + 6592 * l = ap (λ (k : ℕ). 103 * k / 1024) e ∙ product h l b c in
    let t : h / 10 < 10 = omega arith in
    rw (first-tenth (h / 10) l (103 * two / 1024) t x, second-tenth (h / 10) l (103 * two / 1024) t c x) (ap (λ (k : ℕ). h / 10 + k) (mul_comm (l / 10) 65536))

word_of : (h l : ℕ) → h < 100 → l < 100
    → (2559 * (h / 10 + 65536 * (l / 10)) ≤ 256 * (h + 65536 * l))
    × (256 * (h + 65536 * l) - 2559 * (h / 10 + 65536 * (l / 10)) + 808464432 ≡ 48 + h / 10 + 256 * (48 + h % 10) + 65536 * (48 + l / 10) + 16777216 * (48 + l % 10))
word_of h l b c = (omega arith, omega arith)

pub four-word : (n two r : ℕ) → n < 10000 → two ≡ n / 100 + 65536 * (n % 100) → r ≡ two % 65536 / 10 + 65536 * (two / 65536 / 10)
    → (2559 * r ≤ 256 * two)
    × (256 * two - 2559 * r + 808464432 ≡ 48 + n / 1000 + 256 * (48 + n / 100 % 10) + 65536 * (48 + n / 10 % 10) + 16777216 * (48 + n % 10))
four-word n two r b e t =
    let x = halves_are (n / 100) (n % 100) two (front n b) e in
    let w = word_of (n / 100) (n % 100) (front n b) (back n) in
    let y : r ≡ n / 100 / 10 + 65536 * (n % 100 / 10) = t ∙ rw (x.0, x.1) in
    rw (y, e, ← thousandth n, ← tens-digit n, ← ones-digit n) w
  where
    front : (n : ℕ) → n < 10000 → n / 100 < 100
    front n h = omega arith

    back : (n : ℕ) → n % 100 < 100
    back n = omega arith

    thousandth : (n : ℕ) → n / 100 / 10 ≡ n / 1000
    thousandth n = omega arith

    tens-digit : (n : ℕ) → n % 100 / 10 ≡ n / 10 % 10
    tens-digit n = omega arith

    ones-digit : (n : ℕ) → n % 100 % 10 ≡ n % 10
    ones-digit n = omega arith

-- ---- digits laid over the output

-- bytes copied into a part of the output
pub part-laid : (out : List ℕ) (at k : ℕ) (s : List ℕ) → length s ≡ k → put_mid at (at + k - at) out s ≡ overlaid out at s
unfolding overlaid
part-laid out at k s e = let x : at + k - at ≡ length s = omega (arith, e) in rw (x, drop-drop (length s) at out)

thousands : (n : ℕ) → n < 10000 → n / 10 ^ 3 % 10 ≡ n / 1000
thousands n h = mod-eq_of_lt (omega arith)

ones : (n : ℕ) → n / 10 ^ 0 % 10 ≡ n % 10
ones n = omega arith

small : (n : ℕ) → 48 + n % 10 < 256
small n = omega arith

-- the bytes of a word are the digits
pub two-bytes : (n w : ℕ) → n < 100 → w ≡ 48 + n / 10 + 256 * (48 + n % 10) → to_le_bytes w16 w ≡ digits 2 n
unfolding digits
two-bytes n w h e = le_bytes_2 ((48 + n / 10 ^ 1 % 10) ∷ (48 + n / 10 ^ 0 % 10) ∷ []) w refl bytes (omega (arith, e))
  where
    bytes : (i : ℕ) → get_or ((48 + n / 10 ^ 1 % 10) ∷ (48 + n / 10 ^ 0 % 10) ∷ []) i 0 < 256
    bytes zero = small (n / 10 ^ 1)
    bytes (suc zero) = small (n / 10 ^ 0)
    bytes (suc (suc i)) = omega arith

pub four-bytes : (n w : ℕ) → n < 10000 → w ≡ 48 + n / 1000 + 256 * (48 + n / 100 % 10) + 65536 * (48 + n / 10 % 10) + 16777216 * (48 + n % 10) → to_le_bytes w32 w ≡ digits 4 n
unfolding digits
four-bytes n w h e =
    le_bytes_4 ((48 + n / 10 ^ 3 % 10) ∷ (48 + n / 10 ^ 2 % 10) ∷ (48 + n / 10 ^ 1 % 10) ∷ (48 + n / 10 ^ 0 % 10) ∷ []) w refl bytes (omega (arith, e, thousands n h, ones n))
  where
    bytes : (i : ℕ) → get_or ((48 + n / 10 ^ 3 % 10) ∷ (48 + n / 10 ^ 2 % 10) ∷ (48 + n / 10 ^ 1 % 10) ∷ (48 + n / 10 ^ 0 % 10) ∷ []) i 0 < 256
    bytes zero = small (n / 10 ^ 3)
    bytes (suc zero) = small (n / 10 ^ 2)
    bytes (suc (suc zero)) = small (n / 10 ^ 1)
    bytes (suc (suc (suc zero))) = small (n / 10 ^ 0)
    bytes (suc (suc (suc (suc i)))) = omega arith

pub eight-put : (out : List ℕ) (at n : ℕ) → at + 8 ≤ length out
    → overlaid (overlaid out at (digits 4 (n / 10000))) (at + 4) (digits 4 (n % 10000)) ≡ overlaid out at (digits 8 n)
eight-put out at n h =
    rw (last-four n, eight n) (overlaid-more out at (at + 4) (digits 4 (n / 10000)) (digits 4 n) (omega arith) (rw (digits-length 4 (n / 10000))))

-- ---- a number, from a place on

one-is : (n : ℕ) → n < 10 → decimal_of n ≡ (48 + n) ∷ []
unfolding digits
one-is n b =
    let z : 48 + n / 10 ^ 0 % 10 ≡ 48 + n = omega arith in
    sym (all-digits n 1 (sym (one-digit n b))) ∙ rw z

-- the output keeps its length
pub put-kept : (n : ℕ) (out : List ℕ) (end first : ℕ) (after : List ℕ) → NumberPut n out end first after → end ≤ length out → length after ≡ length out
put-kept n out end first after p h = ap length p.holds ∙ overlaid-length out first (decimal_of n) (omega (arith, p.place))

module _ (n : ℕ) (out : List ℕ) (at : ℕ) where
  pub put_1 : n < 10 → at < length out → NumberPut n out (at + 1) at (set out at (48 + n))
  put_1 b h = record { place = omega (arith, one-digit n b); holds = rw (one-is n b) (overlaid-one out at (48 + n) h) }

  pub width-2 : 10 ≤ n → n < 100 → length (decimal_of n) ≡ 2
  width-2 a b = omega (arith, digit-more n a, one-digit (n / 10) (omega arith))

  pub put_2 : 10 ≤ n → n < 100 → NumberPut n out (at + 2) at (overlaid out at (digits 2 n))
  put_2 a b = record { place = omega (arith, width-2 a b); holds = rw (all-digits n 2 (sym (width-2 a b))) }

  pub width-3 : 100 ≤ n → n < 1000 → length (decimal_of n) ≡ 3
  width-3 a b = omega (arith, more-digits 2 n (omega arith), one-digit (n / 100) (omega arith))

  pub put_3 : 100 ≤ n → n < 1000 → at + 3 ≤ length out → NumberPut n out (at + 3) at (overlaid (set out at (48 + n / 100)) (at + 1) (digits 2 (n - 100 * (n / 100))))
  put_3 a b h =
      let e : n - 100 * (n / 100) ≡ n % 100 = omega arith in
      let d : decimal_of n ≡ (48 + n / 100) ∷ digits 2 n = decimal-split 2 n (omega arith) ∙ rw (one-is (n / 100) (omega arith)) in
      record {
        place = omega (arith, width-3 a b);
        holds = rw (e, last-two n, d, overlaid-one out at (48 + n / 100) (omega arith)) (overlaid-more out at (at + 1) ((48 + n / 100) ∷ []) (digits 2 n) (omega arith) (omega arith));
      }

  pub width-4 : 1000 ≤ n → n < 10000 → length (decimal_of n) ≡ 4
  width-4 a b = omega (arith, more-digits 3 n (omega arith), one-digit (n / 1000) (omega arith))

  pub put_4 : 1000 ≤ n → n < 10000 → NumberPut n out (at + 4) at (overlaid out at (digits 4 n))
  put_4 a b = record { place = omega (arith, width-4 a b); holds = rw (all-digits n 4 (sym (width-4 a b))) }

  -- what is left without the last k digits, and then they
  pub put-part : (k middle end : ℕ) (front after : List ℕ) → 10 ^ k ≤ n → NumberPut (n / 10 ^ k) out middle at front → after ≡ overlaid front middle (digits k n) → at ≤ length out
      → end ≡ middle + k → NumberPut n out end at after
  put-part k middle end front after h p e l q =
      record {
        place = omega (arith, more-digits k n h, p.place);
        holds = rw (e, p.holds, decimal-split k n h) (overlaid-more out at middle (decimal_of (n / 10 ^ k)) (digits k n) l (sym p.place));
      }
