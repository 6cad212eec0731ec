-- Where bases are, against where an index line says: over a list of their offsets, and over the lines of a sequence.
use Rattle.std.specs.Prelude.{ℕ, suc, ◌+◌, List, [], ◌∷◌, cond, eqb, Option, Some, None}
use Rattle.record.specs.declared.Offset.{Offset}
use Rattle.record.specs.declared.Position.{Position}
use Rattle.lines.specs.Lines.{sum_bases, sum_widths, bases_at}
use Rattle.walking.specs.declared.Walked.{Walked}

-- of bases at some offsets, the first of which is number i + 1, the first that is not at its place, and its offset
unfoldable pub first_elsewhere : (ℕ → ℕ) → ℕ → List ℕ → Option (Position × Offset)
first_elsewhere place i [] = None
first_elsewhere place i (o ∷ os) = cond (eqb o (place i)) (first_elsewhere place (suc i) os) (Some ((record { 0 = suc i }), (record { 0 = o })))

-- some lines, which begin at an offset: how many bases they have, the first that is not at its place, and the offset behind them
unfoldable pub walked_as : (ℕ → ℕ) → ℕ → List (List ℕ) → Walked
walked_as place at ls = record { bases = sum_bases ls; placed = first_elsewhere place 0 (bases_at at ls); next = at + sum_widths ls }
