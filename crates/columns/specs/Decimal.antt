-- Decimal numbers (docs/RULES.md, R26).
use Rattle.std.specs.Prelude.{ℕ, zero, suc, ◌+◌, ◌-◌, ◌*◌, ◌/◌, ◌%◌, ◌^◌, ◌≡◌, List, [], ◌∷◌, Bool, true, cond, not, ◌&&◌, ◌||◌, length, ltb, leb, eqb, Option, Some, None}
use Rattle.columns.specs.Bytes.{overlaid}

-- ---- reading

-- a digit, 0 to 9
abbrev pub is_digit : ℕ → Bool
is_digit b = leb 48 b && leb b 57

unfoldable pub all_digits : List ℕ → Bool
all_digits [] = true
all_digits (b ∷ r) = is_digit b && all_digits r

-- the value of some digits, with those of a before them
unfoldable pub value_from : ℕ → List ℕ → ℕ
value_from a [] = a
value_from a (b ∷ r) = value_from (a * 10 + (b - 48)) r

-- digits, with those of a before them, are a number if it is at most 18,446,744,073,709,551,615
unfoldable pub number_from : ℕ → List ℕ → Option ℕ
number_from a l = cond (all_digits l) (cond (ltb (value_from a l) (2 ^ 64)) (Some (value_from a l)) None) None

-- one or more digits; leading zeros are read
unfoldable pub digits_of : List ℕ → Option ℕ
digits_of [] = None
digits_of (b ∷ r) = number_from 0 (b ∷ r)

-- a number is one or more digits, which may have one plus before them
unfoldable pub number_of : List ℕ → Option ℕ
number_of [] = None
number_of (b ∷ r) = cond (eqb b 43) (digits_of r) (digits_of (b ∷ r))

-- has a number no needless leading zero and no plus
unfoldable pub plain_number : List ℕ → Bool
plain_number [] = true
plain_number (b ∷ []) = true
plain_number (b ∷ x ∷ r) = not (eqb b 43 || eqb b 48)

-- ---- writing

-- the k last digits of n
unfoldable pub digits : ℕ → ℕ → List ℕ
digits zero n = []
digits (suc k) n = (48 + n / 10 ^ k % 10) ∷ digits k n

-- how many digits n has: the first of k, k + 1, .. that are enough, after at most f steps
unfoldable pub width_from : ℕ → ℕ → ℕ → ℕ
width_from zero k n = k
width_from (suc f) k n = cond (ltb n (10 ^ k)) k (width_from f (suc k) n)

-- how many digits n has, at least one
unfoldable pub width : ℕ → ℕ
width n = width_from n 1 n

-- n as it is written, without leading zeros
unfoldable pub decimal_of : ℕ → List ℕ
decimal_of n = digits (width n) n

-- what writing a number tells and leaves: its digits, from the place of the first up to the place behind the last
pub record NumberPut (n : ℕ) (out : List ℕ) (end first : ℕ) (after : List ℕ) : Type 0 where
  pub place : first + length (decimal_of n) ≡ end
  pub holds : after ≡ overlaid out first (decimal_of n)
