-- The bits in which the letters of a pair differ, and that a base with those of its pair flipped is its partner.
use Rattle.std.specs.Prelude.{ℕ, List, ◌+◌, ◌≤◌, ◌≡◌, true, false, cond, ◌||◌, eqb}
use Prim.Native.Char.{code}
use Rattle.std.specs.Int.Bits.{bit_or, bit_xor}
use Rattle.std.proofs.Common.{eqb→eq, arith}
use Rattle.letters.specs.Letters.{partner}
use Rattle.letters.specs.Laws.{of-each}
use Rattle.letters.specs.Table.{IsTable}
use Rattle.std.proofs.Props.{props}
use Rattle.complement.specs.Kinds.{is_of}
use Rattle.complement.specs.KindLaws.{kind-good}

-- that a list is the table of the partners is a fact
pub is_table-prop : (t : List ℕ) → IsProp (IsTable partner t)
unfolding IsTable
is_table-prop t = hlevel props

-- the bits in which a byte and its partner differ
unfoldable pub flip : ℕ → ℕ
flip b = bit_xor (partner b) b

-- those of each pair
pub record AreFlips (at cg km ry dh bv : ℕ) : Type 0 where
  pub of_at : at ≡ flip (code "a")
  pub of-cg : cg ≡ flip (code "c")
  pub of-km : km ≡ flip (code "k")
  pub of-ry : ry ≡ flip (code "r")
  pub of-dh : dh ≡ flip (code "d")
  pub of-bv : bv ≡ flip (code "b")

-- the bits of a byte's pair: each test finds one pair, and 0 is added for every other
abbrev pub bits_of : ℕ → ℕ → ℕ → ℕ → ℕ → ℕ → ℕ → ℕ
bits_of at cg km ry dh bv low =
    cond (eqb low 97 || eqb low 116) at 0
    + cond (eqb (bit_or low 4) 103) cg 0
    + cond (eqb (bit_or low 6) 111) km 0
    + cond (eqb low 114 || eqb low 121) ry 0
    + cond (eqb (bit_or low 12) 108) dh 0
    + cond ((eqb low 98 || eqb low 118) || eqb low 117) bv 0

abbrev flipped_of : ℕ → ℕ
flipped_of b = bit_xor b (bits_of (flip 97) (flip 99) (flip 107) (flip 114) (flip 100) (flip 98) (bit_or b 32))

flipped-partner : (b : ℕ) → is_of false b ≡ true → flipped_of b ≡ partner b
unfolding partner flip
flipped-partner b h = eqb→eq _ _ (of-each (λ x y. eqb (flipped_of x) y) tt b (kind-good false b h))

module _ {at cg km ry dh bv : ℕ} (f : AreFlips at cg km ry dh bv) where
  -- a base that has a complement, with the bits of its pair flipped, is its partner
  pub flips-give : (b : ℕ) → is_of false b ≡ true → bit_xor b (bits_of at cg km ry dh bv (bit_or b 32)) ≡ partner b
  flips-give b h = rw (f.of_at, f.of-cg, f.of-km, f.of-ry, f.of-dh, f.of-bv) (flipped-partner b h)

  -- all of them together fit a byte
  pub flips-fit : at + cg + km + ry + dh + bv ≤ 255
  unfolding partner flip
  flips-fit = rw (f.of_at, f.of-cg, f.of-km, f.of-ry, f.of-dh, f.of-bv) (omega arith)
