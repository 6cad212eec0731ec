-- `sheet::read_from` meets its contract: at every turn the state is on the way to what the sheet leaves.
use Rattle.std.proofs.Common.{◌≡◌, length}
use Rattle.sheet.specs.Turns.{stage, Stands}
use Rattle.sheet.proofs.read_from.Given as goal

abbrev pub invariant-loop-g : goal.invariant-loop-g
invariant-loop-g g l =
    (length l.out ≡ length l.initial.out) × (length l.starts ≡ length l.initial.starts) × Stands l.file (g.S.Source.table l.source) (g.S.Source.in_use l.source) (g.S.Source.regions l.source) l.initial.out l.initial.starts (stage l.g l.out l.starts)

abbrev pub decreases-loop-g : goal.decreases-loop-g
decreases-loop-g g l = l.g.left
