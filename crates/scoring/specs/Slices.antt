-- Eight letters at once: their sets of bases by operations on planes, and what they say of edition 2.
use Rattle.std.specs.Prelude.{ℕ, zero, suc, ◌+◌, ◌*◌, ◌^◌, ◌≤◌, ◌<◌, ◌≡◌, refl, Bool, true, false, not, ◌&&◌, ◌||◌, List, T, eqb, get_or}
use Rattle.std.proofs.Common.{sym, ap, ap₂, ◌∙◌, true≢false, add-zero, arith, eqb→eq, lit<}
use Rattle.std.proofs.Math.Bool.{xor}
use Rattle.std.specs.Int.Bits.{bit_and, bit_or, bit_xor}
use Rattle.std.proofs.lemmas.Nat.{and_le_l, or_lt, xor_lt, ones-le}
use Rattle.std.specs.Int.Count.{ones}
use Rattle.letters.specs.Letters.{set_of}
use Rattle.letters.specs.Sets.{bit, inside}
use Rattle.scoring.specs.Rules.{coded, lies}
use Rattle.scoring.specs.RuleLaws.{holds_at}
use Rattle.scoring.specs.Theorems.{beq, beq_same}
use Rattle.scoring.specs.Places.{count_below}
use Rattle.scoring.specs.Counting.{Counted, agrees, count_same, count-rise}
use Rattle.scoring.specs.Lanes.{sum_to, sum-zero, row as places-in}
use Rattle.scoring.specs.Planes.{bit_at, bit-and, bit-or, bit-xor, ones-bits}
use Rattle.scoring.specs.Turning.{row, Turned, each}

-- ---- the operations, on the bits 0 to 4 of a letter

unfoldable pub gate_c : Bool → Bool → Bool → Bool → Bool → Bool
gate_c b0 b1 b2 b3 b4 = xor b3 (b1 && xor (xor b2 (b4 && xor b0 true)) true)

unfoldable pub gate_a : Bool → Bool → Bool → Bool → Bool → Bool
gate_a b0 b1 b2 b3 b4 = xor b4 (b1 && xor (gate_c b0 b1 b2 b3 b4 && xor b2 b4) true)

unfoldable pub gate_g : Bool → Bool → Bool → Bool → Bool → Bool
gate_g b0 b1 b2 b3 b4 = xor (xor b3 (xor b2 b4)) (gate_c b0 b1 b2 b3 b4 && xor b0 true)

unfoldable pub gate_h : Bool → Bool → Bool → Bool → Bool → Bool
gate_h b0 b1 b2 b3 b4 = gate_c b0 b1 b2 b3 b4 && xor b0 true || b0 && gate_g b0 b1 b2 b3 b4

unfoldable pub gate_t : Bool → Bool → Bool → Bool → Bool → Bool
gate_t b0 b1 b2 b3 b4 = xor (xor b2 (gate_c b0 b1 b2 b3 b4 && xor b2 b4)) (gate_h b0 b1 b2 b3 b4)

-- it has a code, if bit 6 is set and bit 7 is not
unfoldable pub gate_v : Bool → Bool → Bool → Bool → Bool → Bool
gate_v b0 b1 b2 b3 b4 =
    xor (b1 && (xor (xor b2 b4) (gate_c b0 b1 b2 b3 b4 && xor b0 true) || b3 && gate_t b0 b1 b2 b3 b4))
    ((b0 || gate_t b0 b1 b2 b3 b4) && xor (gate_g b0 b1 b2 b3 b4 && gate_h b0 b1 b2 b3 b4) true)

-- a gate at a letter's own bits
abbrev pub at_bits : (Bool → Bool → Bool → Bool → Bool → Bool) → ℕ → Bool
at_bits f b = f (bit_at 0 b) (bit_at 1 b) (bit_at 2 b) (bit_at 3 b) (bit_at 4 b)

unfoldable pub has_code : ℕ → Bool
has_code b = at_bits gate_v b && bit_at 6 b && xor (bit_at 7 b) true

-- ---- of eight letters

-- by planes, whatever they are
unfoldable pub Gated : ℕ → ℕ → ℕ → ℕ → ℕ → ℕ → ℕ → ℕ → ℕ → ℕ → ℕ → ℕ → Type 0
Gated p0 p1 p2 p3 p4 p6 p7 a c g t v =
    (j : ℕ) → j < 8
    → (bit_at j a ≡ gate_a (bit_at j p0) (bit_at j p1) (bit_at j p2) (bit_at j p3) (bit_at j p4))
    × (bit_at j c ≡ gate_c (bit_at j p0) (bit_at j p1) (bit_at j p2) (bit_at j p3) (bit_at j p4))
    × (bit_at j g ≡ gate_g (bit_at j p0) (bit_at j p1) (bit_at j p2) (bit_at j p3) (bit_at j p4))
    × (bit_at j t ≡ gate_t (bit_at j p0) (bit_at j p1) (bit_at j p2) (bit_at j p3) (bit_at j p4))
    × (bit_at j v ≡ (gate_v (bit_at j p0) (bit_at j p1) (bit_at j p2) (bit_at j p3) (bit_at j p4) && bit_at j p6 && xor (bit_at j p7) true))

-- by the letters
unfoldable pub IsSets : (ℕ → ℕ) → ℕ → ℕ → ℕ → ℕ → ℕ → Type 0
IsSets x a c g t v =
    (j : ℕ) → j < 8
    → (bit_at j a ≡ at_bits gate_a (x j))
    × (bit_at j c ≡ at_bits gate_c (x j))
    × (bit_at j g ≡ at_bits gate_g (x j))
    × (bit_at j t ≡ at_bits gate_t (x j))
    × (bit_at j v ≡ has_code (x j))

-- 255 has eight bits
pub bit-full : (j : ℕ) → j < 8 → bit_at j 255 ≡ true
unfolding bit_at beq
bit-full j h = beq_same (bit_at j 255) true (holds_at (λ i. beq (bit_at i 255) true) 8 tt j h)

pub sets-turned : (x y : ℕ → ℕ) (a c g t v : ℕ) → Turned x y → Gated (y 0) (y 1) (y 2) (y 3) (y 4) (y 6) (y 7) a c g t v → IsSets x a c g t v
unfolding Turned Gated IsSets has_code
sets-turned x y a c g t v e s j h =
    rw (← e 0 j (lit< tt) h, ← e 1 j (lit< tt) h, ← e 2 j (lit< tt) h, ← e 3 j (lit< tt) h, ← e 4 j (lit< tt) h, ← e 6 j (lit< tt) h, ← e 7 j (lit< tt) h) (s j h)

-- the typed letter stands for no base that the key's does not
unfoldable pub within : ℕ → ℕ → Bool
within k t =
    xor (at_bits gate_a k && xor (at_bits gate_a t) true || at_bits gate_c t && xor (at_bits gate_c k) true
    || (at_bits gate_g t && xor (at_bits gate_g k) true || at_bits gate_t t && xor (at_bits gate_t k) true)) true

-- ---- what edition 2 takes there

-- a set by its bases
unfoldable pub set_from : Bool → Bool → Bool → Bool → ℕ
set_from a c g t = bit (not a) + (bit c * 2 + (bit g * 4 + bit t * 8))

code-bits : ℕ → Bool
code-bits b = beq (has_code b) (coded b)

code-test : (b : ℕ) → b < 256 → has_code b ≡ coded b
unfolding bit_at has_code gate_a gate_c gate_g gate_h gate_t gate_v xor coded set_of beq code-bits
code-test b h = beq_same (has_code b) (coded b) (holds_at code-bits 256 tt b h)

set-bits : ℕ → Bool
set-bits b = not (coded b) || eqb (set_of b) (set_from (at_bits gate_a b) (at_bits gate_c b) (at_bits gate_g b) (at_bits gate_t b))

set-test : (b : ℕ) → b < 256 → coded b ≡ true → set_of b ≡ set_from (at_bits gate_a b) (at_bits gate_c b) (at_bits gate_g b) (at_bits gate_t b)
unfolding bit_at has_code gate_a gate_c gate_g gate_h gate_t gate_v xor coded set_of set_from set-bits
set-test b h e = eqb→eq _ _ (rw e at (holds_at set-bits 256 tt b h))

-- a test of all bits, computed
abbrev always : (Bool → Bool) → Bool
always f = f true && f false

always-at : (f : Bool → Bool) → T (always f) → (b : Bool) → T (f b)
always-at f t true = go (f true) t
  where
    go : (x : Bool) → T (x && f false) → T x
    go true u = tt
    go false u = absurd u
always-at f t false = go (f true) t
  where
    go : (x : Bool) → T (x && f false) → T (f false)
    go true u = u
    go false u = absurd u

inside-bits : Bool → Bool → Bool → Bool → Bool → Bool → Bool → Bool → Bool
inside-bits a c g t a' c' g' t' =
    eqb (set_from a' c' g' t') 0
    || beq (inside (set_from a' c' g' t') (set_from a c g t)) (xor (a && xor a' true || c' && xor c true || (g' && xor g true || t' && xor t true)) true)

inside-test : (a c g t a' c' g' t' : Bool) → T (inside-bits a c g t a' c' g' t')
unfolding inside-bits set_from xor inside beq
inside-test a c g t a' c' g' t' =
    always-at (λ t'. inside-bits a c g t a' c' g' t')
    (always-at (λ g'. always (λ t'. inside-bits a c g t a' c' g' t'))
    (always-at (λ c'. always (λ g'. always (λ t'. inside-bits a c g t a' c' g' t')))
    (always-at (λ a'. always (λ c'. always (λ g'. always (λ t'. inside-bits a c g t a' c' g' t'))))
    (always-at (λ t. always (λ a'. always (λ c'. always (λ g'. always (λ t'. inside-bits a c g t a' c' g' t')))))
    (always-at (λ g. always (λ t. always (λ a'. always (λ c'. always (λ g'. always (λ t'. inside-bits a c g t a' c' g' t'))))))
    (always-at (λ c. always (λ g. always (λ t. always (λ a'. always (λ c'. always (λ g'. always (λ t'. inside-bits a c g t a' c' g' t')))))))
    (always-at (λ a. always (λ c. always (λ g. always (λ t. always (λ a'. always (λ c'. always (λ g'. always (λ t'. inside-bits a c g t a' c' g' t')))))))) tt a) c) g) t) a') c') g') t'

both : (a b : Bool) → (a && b) ≡ true → (a ≡ true) × (b ≡ true)
both true b e = (refl, e)
both false b e = absurd (true≢false (sym e))

or-none : (a b : Bool) → a ≡ false → T (a || b) → T b
or-none true b e w = absurd (true≢false e)
or-none false b e w = w

not_none : (a : Bool) → not a ≡ true → a ≡ false
not_none true e = absurd (true≢false (sym e))
not_none false e = refl

within-lies : (k t : ℕ) → coded k ≡ true → coded t ≡ true → k < 256 → t < 256 → within k t ≡ lies k t
unfolding within lies coded inside-bits
within-lies k t e f h i =
    let u = set-test k h e in
    let v = set-test t i f in
    let z : eqb (set_from (at_bits gate_a t) (at_bits gate_c t) (at_bits gate_g t) (at_bits gate_t t)) 0 ≡ false = rw v at (not_none (eqb (set_of t) 0) f) in
    rw (e, f, u, v)
    (sym (beq_same _ _ (or-none _ _ z (inside-test (at_bits gate_a k) (at_bits gate_c k) (at_bits gate_g k) (at_bits gate_t k) (at_bits gate_a t) (at_bits gate_c t) (at_bits gate_g t) (at_bits gate_t t)))))

-- of eight places: where the second number is 255 all letters have a code, and so many are right
unfoldable pub IsLane : (ℕ → ℕ) → (ℕ → ℕ) → ℕ → ℕ → Type 0
IsLane k t r v = (r ≤ 8) × (v ≡ 255 → r ≡ count_below (λ j. lies (k j) (t j)) 8)

-- the bits of the places that are right, by the gates, as a byte
abbrev pub right_byte : ℕ → ℕ → ℕ → ℕ → ℕ → ℕ → ℕ → ℕ → ℕ
right_byte ka kc kg kt ta tc tg t' =
    bit_xor (bit_or (bit_or (bit_and ka (bit_xor ta 255)) (bit_and tc (bit_xor kc 255))) (bit_or (bit_and tg (bit_xor kg 255)) (bit_and t' (bit_xor kt 255)))) 255

pub right-small : (ka kc kg kt ta tc tg t' : ℕ) → ka < 256 → tc < 256 → tg < 256 → t' < 256 → right_byte ka kc kg kt ta tc tg t' < 256
right-small ka kc kg kt ta tc tg t' p q r s =
    let a : bit_and ka (bit_xor ta 255) < 2 ^ 8 = omega (arith, and_le_l ka (bit_xor ta 255)) in
    let c : bit_and tc (bit_xor kc 255) < 2 ^ 8 = omega (arith, and_le_l tc (bit_xor kc 255)) in
    let g : bit_and tg (bit_xor kg 255) < 2 ^ 8 = omega (arith, and_le_l tg (bit_xor kg 255)) in
    let t : bit_and t' (bit_xor kt 255) < 2 ^ 8 = omega (arith, and_le_l t' (bit_xor kt 255)) in
    xor_lt 8 _ 255 (or_lt 8 _ _ (or_lt 8 _ _ a c) (or_lt 8 _ _ g t)) (lit< tt)

pub lane-is : (k t : ℕ → ℕ) (ka kc kg kt kv ta tc tg t' tv w : ℕ) → IsSets k ka kc kg kt kv → IsSets t ta tc tg t' tv
    → ((j : ℕ) → j < 8 → (k j < 256) × (t j < 256))
    → w ≡ right_byte ka kc kg kt ta tc tg t' → w < 256 → IsLane k t (ones w) (bit_and kv tv)
unfolding IsLane IsSets within
lane-is k t ka kc kg kt kv ta tc tg t' tv w ks ts small e h =
    (ones-le 8 w h, λ f. ones-bits 8 w h ∙ count_same (λ j. bit_at j w) (λ j. lies (k j) (t j)) 8 (λ j p. one j p ∙ right f j p))
  where
    one : (j : ℕ) → j < 8 → bit_at j w ≡ within (k j) (t j)
    one j p = rw e (simp (bit-xor, bit-or, bit-and, bit-full j p, (ks j p).0, (ks j p).1, (ks j p).2, (ks j p).3, (ts j p).0, (ts j p).1, (ts j p).2, (ts j p).3))

    right : bit_and kv tv ≡ 255 → (j : ℕ) → j < 8 → within (k j) (t j) ≡ lies (k j) (t j)
    right f j p =
        let s = small j p in
        let w = both (has_code (k j)) (has_code (t j)) (sym (bit-and j kv tv ∙ ap₂ ◌&&◌ (ks j p).4 (ts j p).4) ∙ (ap (bit_at j) f ∙ bit-full j p)) in
        within-lies (k j) (t j) (sym (code-test (k j) s.0) ∙ w.0) (sym (code-test (t j) s.1) ∙ w.1) s.0 s.1

-- ---- 16 lanes of eight are 128 places

sum_of : (f g : ℕ → ℕ) (m : ℕ) → sum_to (λ l. f l + g l) m ≡ sum_to f m + sum_to g m
unfolding sum_to
sum_of f g zero = refl
sum_of f g (suc m) = omega (arith, sum_of f g m)

columns : (f : ℕ → Bool) (q n : ℕ) → count_below f q + sum_to (λ l. count_below (λ j. f (q + 16 * j + l)) n) 16 ≡ count_below f (q + 16 * n)
unfolding count_below
columns f q zero = let e : q + 16 * 0 ≡ q = omega arith in rw e (omega (arith, sum-zero (λ l. 0) (λ l. refl) 16))
columns f q (suc n) =
    let e : q + 16 * suc n ≡ q + 16 * n + 16 = omega arith in
    rw e (omega (arith, sum_of (λ l. count_below (λ j. f (q + 16 * j + l)) n) (λ l. bit (f (q + 16 * n + l))) 16, places-in f (q + 16 * n) 16, columns f q n))

pub counted-cut : (f : ℕ → Bool) (at r : ℕ) → r ≡ sum_to (λ l. count_below (λ j. f (at + 16 * j + l)) 8) 16 → Counted f at 128 r
counted-cut f at r e = record { counts = omega (arith, columns f at 8); most = omega (arith, columns f at 8, count-rise f at 128) }

-- the letters of a lane
pub letters-at : (s : List ℕ) (q j : ℕ) → j < 8
    → row (get_or s q 0) (get_or s (q + 16) 0) (get_or s (q + 32) 0) (get_or s (q + 48) 0) (get_or s (q + 64) 0) (get_or s (q + 80) 0) (get_or s (q + 96) 0) (get_or s (q + 112) 0) j ≡ get_or s (q + 16 * j) 0
unfolding row
letters-at s q =
    each (λ j. row (get_or s q 0) (get_or s (q + 16) 0) (get_or s (q + 32) 0) (get_or s (q + 48) 0) (get_or s (q + 64) 0) (get_or s (q + 80) 0) (get_or s (q + 96) 0) (get_or s (q + 112) 0) j ≡ get_or s (q + 16 * j) 0)
    (ap (λ (v : ℕ). get_or s v 0) (sym (add-zero q))) refl refl refl refl refl refl refl

-- a byte each
pub letters-small : (a b c d e f g h : ℕ) → a < 256 → b < 256 → c < 256 → d < 256 → e < 256 → f < 256 → g < 256 → h < 256 → (j : ℕ) → j < 8 → row a b c d e f g h j < 256
unfolding row
letters-small a b c d e f g h p0 p1 p2 p3 p4 p5 p6 p7 = each (λ j. row a b c d e f g h j < 256) p0 p1 p2 p3 p4 p5 p6 p7

-- the places of a lane
pub lane-places : (key typed : List ℕ) (at l : ℕ) (k t : ℕ → ℕ) → ((j : ℕ) → j < 8 → k j ≡ get_or key (at + l + 16 * j) 0) → ((j : ℕ) → j < 8 → t j ≡ get_or typed (at + l + 16 * j) 0)
    → count_below (λ j. lies (k j) (t j)) 8 ≡ count_below (λ j. agrees lies key typed (at + 16 * j + l)) 8
unfolding agrees
lane-places key typed at l k t e f = count_same (λ j. lies (k j) (t j)) (λ j. lies (get_or key (at + 16 * j + l) 0) (get_or typed (at + 16 * j + l) 0)) 8 (λ j p. one j p)
  where
    one : (j : ℕ) → j < 8 → lies (k j) (t j) ≡ lies (get_or key (at + 16 * j + l) 0) (get_or typed (at + 16 * j + l) 0)
    one j p = let q : at + l + 16 * j ≡ at + 16 * j + l = omega arith in rw (e j p, f j p, q)
