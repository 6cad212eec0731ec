-- Tests as the bits of a number, and the laws of the shift-and step.
use Rattle.std.specs.Prelude.{ℕ, zero, suc, ◌+◌, ◌*◌, ◌^◌, ◌≤◌, ◌<◌, ◌≡◌, refl, Bool, true, false, ◌&&◌}
use Rattle.std.proofs.Common.{ap₂, ◌∙◌, pow-suc, le_of_suc-le-suc, not-suc-le-zero, arith}
use Rattle.std.specs.Int.Bits.{bit_and, and_zero_r}
use Rattle.std.proofs.lemmas.Nat.{and_block}
use Rattle.letters.specs.Sets.{bit, bit-lt}

-- the tests of the numbers below m, as the bits of a number: the test of 0 is the lowest
unfoldable pub number : (ℕ → Bool) → ℕ → ℕ
number f zero = 0
number f (suc m) = number (λ j. f (suc j)) m * 2 + bit (f zero)

-- the tests one place higher, with true at 0
abbrev pub shifted : (ℕ → Bool) → ℕ → Bool
shifted f zero = true
shifted f (suc j) = f j

bit-and : (a b : Bool) → bit_and (bit a) (bit b) ≡ bit (a && b)
bit-and true true = refl
bit-and true false = refl
bit-and false b = refl

pub number_lt : (f : ℕ → Bool) (m : ℕ) → number f m < 2 ^ m
unfolding number
number_lt f zero = omega arith
number_lt f (suc m) = rw (pow-suc 2 m) (omega (arith, number_lt (λ j. f (suc j)) m, bit-lt (f zero)))

and-number : (f g : ℕ → Bool) (m n : ℕ) → m ≤ n → bit_and (number f n) (number g m) ≡ number (λ j. f j && g j) m
unfolding number
and-number f g zero n h = and_zero_r (number f n)
and-number f g (suc m) zero h = absurd (not-suc-le-zero h)
and-number f g (suc m) (suc n) h =
    and_block 1 (number (λ j. f (suc j)) n) (number (λ j. g (suc j)) m) (bit (f zero)) (bit (g zero)) (bit-lt (f zero)) (bit-lt (g zero))
    ∙ ap₂ (λ (x y : ℕ). x * 2 + y) (and-number (λ j. f (suc j)) (λ j. g (suc j)) m n (le_of_suc-le-suc h)) (bit-and (f zero) (g zero))

-- the step: twice the number and one more, under a mask
pub step-number : (f g : ℕ → Bool) (m : ℕ) → bit_and (number f m * 2 + 1) (number g m) ≡ number (λ j. shifted f j && g j) m
unfolding number
step-number f g m = and-number (shifted f) g m (suc m) (omega arith)

-- the highest bit is set exactly if the last test holds
pub top_set : (f : ℕ → Bool) (k : ℕ) → f k ≡ true → 2 ^ k ≤ number f (suc k)
unfolding number
top_set f zero e = rw e (omega arith)
top_set f (suc k) e = rw (pow-suc 2 k) (omega (arith, top_set (λ j. f (suc j)) k e))

pub top-clear : (f : ℕ → Bool) (k : ℕ) → f k ≡ false → number f (suc k) < 2 ^ k
unfolding number
top-clear f zero e = rw e (omega arith)
top-clear f (suc k) e = rw (pow-suc 2 k) (omega (arith, top-clear (λ j. f (suc j)) k e, bit-lt (f zero)))
