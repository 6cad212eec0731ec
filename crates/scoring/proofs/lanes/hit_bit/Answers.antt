-- `scoring::lanes::hit_bit` meets its contract: the test is the definition.
use Rattle.std.proofs.Common.{◌&&◌, eqb, leb, bit_or, bit_xor}
use Rattle.letters.specs.Sets.{bit}
use Rattle.scoring.specs.Plain.{byte-bit}
use Rattle.scoring.specs.Open.{is_single, near}
use Rattle.scoring.proofs.lanes.hit_bit.Goals as goal

pub returns : goal.returns
unfolding near
returns c =
    let a = c.args in
    rw (c.is_single.ensures, byte-bit (eqb a.x 116)) (byte-bit (is_single a.x && leb (bit_xor a.x (bit_or a.t 32)) (bit (eqb a.x 116))))
