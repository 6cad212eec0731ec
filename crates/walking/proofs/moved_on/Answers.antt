-- `walking::moved_on` meets its contract: the bases end before the stride does, or with it.
use Rattle.std.proofs.Common.{arith}
use Rattle.walking.specs.Walk.{moved-within, moved-next}
use Rattle.walking.proofs.moved_on.Goals as goal

pub returns-then-bases-layout : goal.returns-then-bases-layout
returns-then-bases-layout c = moved-within _ _ _ _ c.requires c.if-bases-layout.true

pub returns : goal.returns
returns c = moved-next _ _ _ _ c.requires _ (omega arith) (omega arith)
