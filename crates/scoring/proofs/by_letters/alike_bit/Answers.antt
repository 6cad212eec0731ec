-- `scoring::by_letters::alike_bit` meets its contract.
use Rattle.std.proofs.Common.{eqb, bit_or}
use Rattle.scoring.specs.Plain.{alike, byte-bit}
use Rattle.scoring.proofs.by_letters.alike_bit.Goals as goal

pub returns : goal.returns
unfolding alike
returns c = byte-bit (eqb (bit_or c.args.k 32) (bit_or c.args.t 32))
