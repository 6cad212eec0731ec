-- `scoring::by_letters::fits_bit` meets its contract: the test is the definition.
use Rattle.std.proofs.Common.{leb, bit_or, bit_xor}
use Rattle.letters.specs.Sets.{bit}
use Rattle.scoring.specs.Plain.{byte-bit}
use Rattle.scoring.specs.Meant.{is_thymine, meant, fits}
use Rattle.scoring.proofs.by_letters.fits_bit.Goals as goal

pub returns : goal.returns
unfolding fits
returns c =
    let a = c.args in
    rw (c.is_thymine.ensures, c.meant-x.ensures, byte-bit (is_thymine (meant a.k a.t)))
    (byte-bit (leb (bit_xor (meant a.k a.t) (bit_or a.t 32)) (bit (is_thymine (meant a.k a.t)))))
