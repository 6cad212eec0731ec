-- What mending a base is: a base of a file by its record, its number and its offset, and the byte that takes its place.
use Rattle.std.specs.Prelude.{ℕ, ◌<◌, ◌≡◌, refl, List, [], ◌∷◌, length, get_or}
use Rattle.std.proofs.Common.{arith}
use Rattle.lines.specs.Lines.{lines, chop, sum_bases, up_from, bases_at}
use Rattle.lines.specs.Groups.{Group, groups}
use Rattle.lines.specs.Mending.{set_in}
use Rattle.checker.specs.Accepts.{bytes_of, record_at, sequence_at}

-- offset o of a file is that of base j + 1 of record k, by the line rule
pub record BaseAt (f : List ℕ) (k j o : ℕ) : Type 0 where
  pub record' : k < length (groups (lines f))
  pub base : j < sum_bases (record_at (groups (lines f)) k).seq
  pub place : get_or (bases_at (sequence_at (groups (lines f)) k) (record_at (groups (lines f)) k).seq) j 0 ≡ o

-- a byte other than LF, CR and '>'
pub record Plain (b : ℕ) : Type 0 where
  pub no-lf : b ≡ 10 → ⊥
  pub no-cr : b ≡ 13 → ⊥
  pub no_start : b ≡ 62 → ⊥

-- a record with byte number c of its sequence lines replaced
abbrev pub mended_at : Group → ℕ → ℕ → Group
mended_at g c b = record { def = g.def; seq = set_in g.seq c b }

-- there are such bases: the C of >s AC
base-example : BaseAt (62 ∷ 115 ∷ 10 ∷ 65 ∷ 67 ∷ 10 ∷ []) 0 1 4
unfolding lines chop groups bytes_of sum_bases up_from bases_at
base-example = record { record' = omega arith; base = omega arith; place = refl }
