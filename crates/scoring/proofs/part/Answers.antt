-- `scoring::part` meets its contract: by slices where all letters have a code, else by `run`.
use Rattle.std.proofs.Common.{arith}
use Rattle.scoring.proofs.part.Goals as goal

pub returns-then-cut : goal.returns-then-cut
returns-then-cut c = rw c.from.ensures (c.cut_at-cut.ensures (omega arith))
