-- The letters that bases are written with (docs/RULES.md, R39 and R51): each has a partner in the complement, and stands for a set of the
-- bases A, C, G, T, as in the IUPAC nucleotide codes. U counts as T. Lower case likewise.
use Rattle.std.specs.Prelude.{ℕ, ◌+◌, cond, List, [], ◌∷◌, ◌++◌, map, eqb}
use Prim.Native.Char.{Char, code}
use Prim.Native.String.{String, [] as empty, ◌∷◌ as ◌◂◌}

-- a set of bases as a number: A is 1, C is 2, G is 4, T is 8, and a set is their sum
abbrev pub bit_of : ℕ → ℕ
bit_of b = cond (eqb b (code "A")) 1 (cond (eqb b (code "C")) 2 (cond (eqb b (code "G")) 4 (cond (eqb b (code "T")) 8 0)))

abbrev pub set_in : String → ℕ
set_in empty = 0
set_in (x ◂ s) = bit_of (code x) + set_in s

pub record Letter : Type 0 where
  pub byte : ℕ
  pub gives : ℕ
  pub set : ℕ

abbrev letter : Char → Char → String → Letter
letter x y s = record { byte = code x; gives = code y; set = set_in s }

-- a letter, its partner, and the bases that it stands for
abbrev pub upper : List Letter
upper =
    letter "A" "T" "A"
    ∷ letter "C" "G" "C"
    ∷ letter "G" "C" "G"
    ∷ letter "T" "A" "T"
    ∷ letter "U" "A" "T"
    ∷ letter "M" "K" "AC"
    ∷ letter "R" "Y" "AG"
    ∷ letter "W" "W" "AT"
    ∷ letter "S" "S" "CG"
    ∷ letter "Y" "R" "CT"
    ∷ letter "K" "M" "GT"
    ∷ letter "V" "B" "ACG"
    ∷ letter "H" "D" "ACT"
    ∷ letter "D" "H" "AGT"
    ∷ letter "B" "V" "CGT"
    ∷ letter "N" "N" "ACGT"
    ∷ []

-- in lower case both letters are 32 higher, and the set is the same
abbrev pub lower : Letter → Letter
lower l = record { byte = l.byte + 32; gives = l.gives + 32; set = l.set }

abbrev pub letters : List Letter
letters = upper ++ map lower upper

-- what some letters have for a byte; 0 if it is none of them
abbrev pub looked : (Letter → ℕ) → List Letter → ℕ → ℕ
looked f [] b = 0
looked f (l ∷ ls) b = cond (eqb b l.byte) (f l) (looked f ls b)

-- the complement of a byte; 0 if it has none
unfoldable pub partner : ℕ → ℕ
partner b = looked (λ (l : Letter). l.gives) letters b

-- the set of a byte; 0 if it has no code
unfoldable pub set_of : ℕ → ℕ
set_of b = looked (λ (l : Letter). l.set) letters b
