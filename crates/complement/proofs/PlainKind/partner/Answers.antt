-- `complement::PlainKind::partner` meets its contract: at each plain base the bits that it flips give the complement.
use Rattle.complement.specs.KindLaws.{plain-flips}
use Rattle.complement.proofs.PlainKind.partner.Goals as goal

pub returns : goal.returns
returns c = plain-flips _ c.requires
