-- `feeder::records::may_end` meets its contract: it makes the same tests.
use Rattle.std.proofs.Common.{refl}
use Rattle.feeder.specs.Records.{may_end}
use Rattle.feeder.proofs.records.may_end.Goals as goal

pub returns : goal.returns
unfolding may_end
returns c = refl
