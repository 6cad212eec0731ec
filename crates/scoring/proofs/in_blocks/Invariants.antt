-- `scoring::in_blocks` meets its contract: block by block, and the rest.
use Rattle.std.proofs.Common.{◌*◌}
use Rattle.scoring.specs.Counting.{Counted, agrees}
use Rattle.scoring.proofs.in_blocks.Given as goal

abbrev pub invariant-loop-b : goal.invariant-loop-b
invariant-loop-b g l = Counted (agrees g.B.Rule.says l.places.key.now l.places.typed.now) l.at (l.b * g.B.Blocks.SIZE) l.right
