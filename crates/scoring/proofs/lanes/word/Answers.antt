-- `scoring::lanes::word` meets its contract: each byte has the worth of its place.
use Rattle.std.proofs.Common.{arith}
use Rattle.scoring.specs.Bits.{word_at}
use Rattle.scoring.proofs.lanes.word.Goals as goal

pub returns : goal.returns
unfolding word_at
returns c = omega (arith, c.from_le_bytes.ensures)
