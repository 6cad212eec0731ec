-- `complement::PairedKind::has` meets its contract: its test and the definition's agree at each byte.
use Rattle.std.proofs.Common.{rules}
use Rattle.complement.specs.KindLaws.{paired-test}
use Rattle.complement.proofs.PairedKind.has.Goals as goal

pub returns : goal.returns
returns c = paired-test _ (search rules)
