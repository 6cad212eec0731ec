-- `scoring::lanes::place` meets its contract: a turn by five bits, computed.
use Rattle.scoring.specs.Bits.{turn}
use Rattle.scoring.proofs.lanes.place.Goals as goal

pub returns : goal.returns
returns c = turn _ c.requires
