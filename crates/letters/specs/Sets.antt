-- Sets of bases: one inside another, and the set of the complements.
use Rattle.std.specs.Prelude.{ℕ, ◌+◌, ◌<◌, Bool, true, false, cond, not, ◌&&◌, eqb}
use Prim.Native.Char.{code}
use Prim.Native.String.{String, [] as empty, ◌∷◌ as ◌◂◌}
use Rattle.std.proofs.Common.{arith}
use Rattle.std.specs.Int.Bits.{bit_and}
use Rattle.letters.specs.Letters.{partner, set_of}

-- a test as a number
abbrev pub bit : Bool → ℕ
bit true = 1
bit false = 0

pub bit-lt : (b : Bool) → bit b < 2
bit-lt true = omega arith
bit-lt false = omega arith

-- a set lies inside another, and is not empty
unfoldable pub inside : ℕ → ℕ → Bool
inside t p = not (eqb t 0) && eqb (bit_and t p) t

-- the sum of the sets of the complements of those bases of a text that lie in a set
abbrev pub complements_among : String → ℕ → ℕ
complements_among empty t = 0
complements_among (x ◂ s) t = cond (inside (set_of (code x)) t) (set_of (partner (code x))) 0 + complements_among s t

-- the set of the complements of a set's bases
unfoldable pub complements : ℕ → ℕ
complements t = complements_among "ACGT" t
