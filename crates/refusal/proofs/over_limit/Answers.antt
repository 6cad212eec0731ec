-- `refusal::over_limit` meets its contract: the test is the definition's own.
use Rattle.std.proofs.Common.{refl}
use Rattle.refusal.specs.Numbers.{over_limit}
use Rattle.refusal.proofs.over_limit.Goals as goal

pub returns : goal.returns
unfolding over_limit
returns c = refl
