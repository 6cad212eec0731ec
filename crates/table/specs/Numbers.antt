-- A table of numbers as bytes: eight to a number, low byte first.
use Rattle.std.specs.Prelude.{ℕ, zero, suc, ◌+◌, ◌*◌, ◌/◌, ◌%◌, List, [], ◌∷◌, ◌++◌, length, take, drop}

-- ---- one number

-- the number of some bytes: byte k counts 256 ^ k
unfoldable pub from_bytes : List ℕ → ℕ
from_bytes [] = 0
from_bytes (b ∷ bs) = b + 256 * from_bytes bs

-- the k low bytes of a number
unfoldable pub to_bytes : ℕ → ℕ → List ℕ
to_bytes zero v = []
to_bytes (suc k) v = v % 256 ∷ to_bytes k (v / 256)

-- ---- a table

-- the first n numbers of some bytes
unfoldable pub first_numbers : ℕ → List ℕ → List ℕ
first_numbers zero t = []
first_numbers (suc n) t = from_bytes (take 8 t) ∷ first_numbers n (drop 8 t)

-- the numbers of a table; a rest of less than eight bytes is none
unfoldable pub numbers_in : List ℕ → List ℕ
numbers_in t = first_numbers (length t / 8) t

-- the rest
unfoldable pub rest_of : List ℕ → List ℕ
rest_of t = drop (length t / 8 * 8) t

-- the bytes of some numbers
unfoldable pub bytes_of : List ℕ → List ℕ
bytes_of [] = []
bytes_of (v ∷ vs) = to_bytes 8 v ++ bytes_of vs

-- a table with other numbers in the place of its own; the rest is as it was
unfoldable pub with_numbers : List ℕ → List ℕ → List ℕ
with_numbers t vs = bytes_of vs ++ rest_of t
