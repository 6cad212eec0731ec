-- `walking::is_next` meets its contract: an offset before the stride is not in it, and one behind its start is compared by its distance.
use Rattle.std.proofs.Common.{arith}
use Rattle.walking.specs.Walk.{next-before, next_here}
use Rattle.walking.proofs.is_next.Goals as goal

pub returns-then-at-stride : goal.returns-then-at-stride
returns-then-at-stride c = next-before _ _ c.if-at-stride.true

pub returns : goal.returns
returns c =
    let a = c.args in
    next_here a.stride a.at (omega arith)
