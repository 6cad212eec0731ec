-- The complete rule for one record. By the line rule its bases lie at some offsets. Its position is the first of them, its line bases are
-- how many lie side by side from there, and its line width is how far the first base behind those is from the first of all; where no
-- base is behind them, the width of their line. If these numbers lead to every base, they are the row. Else no numbers do (Leads.antt).
use Rattle.std.specs.Prelude.{ℕ, suc, ◌+◌, ◌-◌, List, [], ◌∷◌, cond, length, drop, eqb, Option, Some, None}
use Rattle.record.specs.declared.Offset.{Offset}
use Rattle.record.specs.declared.Position.{Position}
use Rattle.refusal.specs.declared.Refusal.TheVariants.{NoIndexFits}
use Rattle.definition.specs.declared.Definition.{Definition}
use Rattle.lines.specs.Lines.{bases_of, first_line, sum_bases, bases_at}
use Rattle.record.specs.Place.{place_of}
use Rattle.record.specs.declared.Record.{Record}
use Rattle.indexer.specs.Rule.{Verdict, good, bad, SequenceRule, row_for}
use Rattle.walking.specs.Places.{first_elsewhere}
use Rattle.fitting.specs.declared.Numbers.{Numbers}

-- ---- the numbers

-- how many of some offsets lie side by side behind an offset
unfoldable pub besides : ℕ → List ℕ → ℕ
besides o [] = 0
besides o (x ∷ os) = cond (eqb x (suc o)) (suc (besides x os)) 0

-- how far the first of some offsets is from p; where there is none, the width of a line
unfoldable pub distance : ℕ → ℕ → List ℕ → ℕ
distance line p [] = line
distance line p (o ∷ os) = o - p

-- the numbers of bases at some offsets, the first of which lies in a line of some width; where there is no base: the start, 1 and 2
unfoldable pub numbers_for : ℕ → ℕ → List ℕ → Numbers
numbers_for start line [] = record { position = start; bases = 1; width = 2 }
numbers_for start line (p ∷ os) = record { position = p; bases = suc (besides p os); width = distance line p (drop (besides p os) os) }

-- the lines from the first that has a base on
unfoldable pub from_bases : List (List ℕ) → List (List ℕ)
from_bases [] = []
from_bases (l ∷ ls) = cond (eqb (length (bases_of l)) 0) (from_bases ls) (l ∷ ls)

-- the numbers of sequence lines, which begin at an offset
unfoldable pub numbers_at : ℕ → List (List ℕ) → Numbers
numbers_at start ls = numbers_for start (first_line (from_bases ls)).width (bases_at start ls)

-- ---- do they lead to every base

-- where numbers say that base number i + 1 lies
abbrev pub place_by : Numbers → ℕ → ℕ
place_by n i = place_of n.position n.bases n.width i

-- 42: every base is there, or the first that is not, with its offset and its position
abbrev pub places_say : Option (Position × Offset) → Verdict
places_say None = good
places_say (Some (p, o)) = bad (NoIndexFits o.0 p.0)

-- the verdict on sequence lines, which begin at an offset
unfoldable pub fit : ℕ → List (List ℕ) → Verdict
fit start ls = places_say (first_elsewhere (place_by (numbers_at start ls)) 0 (bases_at start ls))

-- ---- a record

-- the row of a record, by where its definition begins, the bytes of that line, what it says, and the sequence lines
abbrev pub complete_row : ℕ → ℕ → Definition → List (List ℕ) → Record
complete_row at n d ls = row_for at d (sum_bases ls) (numbers_at (at + n) ls).position (numbers_at (at + n) ls).bases (numbers_at (at + n) ls).width

-- the rule
abbrev pub complete : SequenceRule
complete = record { judge = fit; row = complete_row }
