-- The complement of a sequence into a lent output: what a call answers, and what the output holds afterwards.
use Rattle.std.specs.Prelude.{ℕ, suc, Bool, true, false, cond, List, [], ◌∷◌, ◌++◌, map, reverse, eqb, ltb, length, Result}
use Rattle.refusal.specs.Numbers.{over_limit}
use Rattle.refusal.specs.declared.Refusal.{Refusal}
use Rattle.refusal.specs.declared.Refusal.TheVariants.{TooLong, NoRoom, NoComplement}
use Rattle.letters.specs.Letters.{partner}
use Rattle.output.specs.Outcome.{Outcome, refuses, gives}

-- how the bytes are judged before anything is written: the complements to write, or a refusal
pub data Judged : Type 0 where
  given : List ℕ → Judged
  refused : Refusal → Judged

-- the first of some refusals; the bytes, if there is none
unfoldable pub first_or : List Refusal → List ℕ → Judged
first_or [] l = given l
first_or (r ∷ rs) l = refused r

-- a refusal, if a test holds
abbrev pub when : Bool → Refusal → List Refusal
when true r = r ∷ []
when false r = []

-- the refusals of the bytes from a place on: one for each byte that has no complement
unfoldable pub faults : ℕ → List ℕ → List Refusal
faults at [] = []
faults at (b ∷ s) = when (eqb (partner b) 0) (NoComplement at b) ++ faults (suc at) s

-- the complement of each base in turn, or the first bad byte
unfoldable pub complement_of : List ℕ → Judged
complement_of s = first_or (faults 0 s) (map partner s)

-- the same from the back, so the last bad byte
unfoldable pub reverse_complement_of : List ℕ → Judged
reverse_complement_of s = first_or (reverse (faults 0 s)) (reverse (map partner s))

-- how a call on the bytes s, which are judged as j, is judged: 1 before 14, and both before the bytes
unfoldable pub sized : List ℕ → ℕ → Judged → Judged
sized s room j = cond (over_limit (length s)) (refused TooLong) (cond (ltb room (length s)) (refused (NoRoom (length s))) j)

-- the complements at the front of the output, or the refusal
unfoldable pub poured : Judged → List ℕ → Outcome (Result ℕ Refusal)
poured (given l) out = gives l out
poured (refused f) out = refuses f out

-- the call
unfoldable pub complement_written : List ℕ → Judged → List ℕ → Outcome (Result ℕ Refusal)
complement_written s j out = poured (sized s (length out) j) out
