-- `scoring::lanes::open_bit` meets its contract.
use Rattle.std.proofs.Common.{not}
use Rattle.scoring.specs.Plain.{byte-bit}
use Rattle.scoring.specs.Open.{is_single}
use Rattle.scoring.proofs.lanes.open_bit.Goals as goal

pub returns : goal.returns
returns c = rw c.is_single.ensures (byte-bit (not (is_single c.args.x)))
