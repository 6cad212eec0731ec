-- Numbers as bytes, high byte first.
use Rattle.std.specs.Prelude.{ℕ, zero, suc, ◌+◌, ◌*◌, ◌/◌, ◌%◌, ◌^◌, ◌<◌, ◌≡◌, refl, List, [], ◌∷◌, ◌++◌, length, get_or}
use Rattle.std.proofs.Common.{◌∙◌, arith, pow-suc, div-lt_iff_lt-mul, lit<, length-append}
use Rattle.std.specs.Int.{w64, to_be_bytes}

-- a number, and bytes behind it
unfoldable pub big_from : ℕ → List ℕ → ℕ
big_from a [] = a
big_from a (b ∷ s) = big_from (a * 256 + b) s

-- the k low bytes of a number
unfoldable pub big_bytes : ℕ → ℕ → List ℕ
big_bytes zero v = []
big_bytes (suc k) v = big_bytes k (v / 256) ++ (v % 256 ∷ [])

pub length-big_bytes : (k v : ℕ) → length (big_bytes k v) ≡ k
unfolding big_bytes
length-big_bytes zero v = refl
length-big_bytes (suc k) v = length-append (big_bytes k (v / 256)) (v % 256 ∷ []) ∙ omega (arith, length-big_bytes k (v / 256))

big-snoc : (a : ℕ) (s : List ℕ) (b : ℕ) → big_from a (s ++ (b ∷ [])) ≡ big_from a s * 256 + b
unfolding big_from
big-snoc a [] b = refl
big-snoc a (x ∷ s) b = big-snoc (a * 256 + x) s b

-- as many bytes as a number needs are the number
pub big-back : (k v : ℕ) → v < 256 ^ k → big_from 0 (big_bytes k v) ≡ v
unfolding big_bytes big_from
big-back zero v h = omega arith
big-back (suc k) v h =
    let q : v / 256 < 256 ^ k = (div-lt_iff_lt-mul {k = 256} {x = v} {y = 256 ^ k} (lit< tt)).1 (rw pow-suc at h) in
    big-snoc 0 (big_bytes k (v / 256)) (v % 256) ∙ rw (big-back k (v / 256) q) (omega arith)

-- the eight low bytes, each by the worth of its place
pub bytes-eight : (v : ℕ) → to_be_bytes w64 v ≡ big_bytes 8 v
unfolding big_bytes
bytes-eight v =
    let a : v / 65536 ≡ v / 256 / 256 = omega arith in
    let b : v / 16777216 ≡ v / 256 / 256 / 256 = omega arith in
    let c : v / 4294967296 ≡ v / 256 / 256 / 256 / 256 = omega arith in
    let d : v / 1099511627776 ≡ v / 256 / 256 / 256 / 256 / 256 = omega arith in
    let e : v / 281474976710656 ≡ v / 256 / 256 / 256 / 256 / 256 / 256 = omega arith in
    let f : v / 72057594037927936 ≡ v / 256 / 256 / 256 / 256 / 256 / 256 / 256 = omega arith in
    rw (a, b, c, d, e, f)

-- a list of eight numbers, one by one
pub eight : (l : List ℕ) → length l ≡ 8 → get_or l 0 0 ∷ get_or l 1 0 ∷ get_or l 2 0 ∷ get_or l 3 0 ∷ get_or l 4 0 ∷ get_or l 5 0 ∷ get_or l 6 0 ∷ get_or l 7 0 ∷ [] ≡ l
eight (a ∷ b ∷ c ∷ d ∷ e ∷ f ∷ g ∷ h ∷ []) q = refl
eight (a ∷ b ∷ c ∷ d ∷ e ∷ f ∷ g ∷ h ∷ i ∷ l) q = absurd (omega arith)
eight [] q = absurd (omega arith)
eight (a ∷ []) q = absurd (omega arith)
eight (a ∷ b ∷ []) q = absurd (omega arith)
eight (a ∷ b ∷ c ∷ []) q = absurd (omega arith)
eight (a ∷ b ∷ c ∷ d ∷ []) q = absurd (omega arith)
eight (a ∷ b ∷ c ∷ d ∷ e ∷ []) q = absurd (omega arith)
eight (a ∷ b ∷ c ∷ d ∷ e ∷ f ∷ []) q = absurd (omega arith)
eight (a ∷ b ∷ c ∷ d ∷ e ∷ f ∷ g ∷ []) q = absurd (omega arith)
