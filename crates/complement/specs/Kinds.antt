-- The two kinds by which bytes are judged: plain bases, which are all that most sequences have, and all letters that have a complement.
use Rattle.std.specs.Prelude.{ℕ, Bool, true, false, cond, not, List, [], ◌∷◌, reverse, eqb, Result}
use Rattle.refusal.specs.declared.Refusal.{Refusal}
use Prim.Native.Char.{code}
use Prim.Native.String.{String, [] as empty, ◌∷◌ as ◌◂◌}
use Rattle.letters.specs.Letters.{partner}
use Rattle.complement.specs.Complement.{Judged, complement_of, reverse_complement_of, poured}

-- is a byte a letter of a text
abbrev pub among : String → ℕ → Bool
among empty b = false
among (x ◂ s) b = cond (eqb b (code x)) true (among s b)

-- is a byte of a kind: plain, so one of the four and N in either case, or else any that has a complement
unfoldable pub is_of : Bool → ℕ → Bool
is_of plain b = cond plain (among "ACGTNacgtn" b) (not (eqb (partner b) 0))

-- are all of some bytes of it
unfoldable pub all_of : Bool → List ℕ → Bool
all_of plain [] = true
all_of plain (b ∷ s) = cond (is_of plain b) (all_of plain s) false

-- some bytes as they stand, or from the last if it is reversed
abbrev pub in_order : Bool → List ℕ → List ℕ
in_order true s = reverse s
in_order false s = s

-- how the bytes are judged, from the back if it is reversed
unfoldable pub judged_of : Bool → List ℕ → Judged
judged_of reversed s = cond reversed (reverse_complement_of s) (complement_of s)

-- the answer, and the output afterwards, of a judgement
abbrev pub answer_of : Judged → Result ℕ Refusal
answer_of j = (poured j []).answer

abbrev pub output_of : Judged → List ℕ → List ℕ
output_of j out = (poured j out).output
