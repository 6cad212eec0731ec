-- `feeder::growing::ends_line` meets its contract: case by case.
use Rattle.std.proofs.Common.{arith}
use Rattle.feeder.specs.CodeLaws.{ends-none, ends_last}
use Rattle.feeder.proofs.growing.ends_line.Goals as goal

pub returns-then-n-eq0 : goal.returns-then-n-eq0
returns-then-n-eq0 c = ends-none _ c.if-n-eq0.true

pub returns : goal.returns
returns c = ends_last _ _ (omega arith)
