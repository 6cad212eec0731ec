-- `feeder::sound::ends_before` meets its contract: case by case.
use Rattle.std.proofs.Common.{lt-ltb, le-ltb}
use Rattle.feeder.proofs.sound.ends_before.Goals as goal

pub returns-then-n-at : goal.returns-then-n-at
returns-then-n-at c = rw (lt-ltb _ _ c.if-n-at.true)

pub returns : goal.returns
returns c = rw (le-ltb _ _ c.if-n-at.false)
