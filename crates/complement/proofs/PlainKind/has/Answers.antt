-- `complement::PlainKind::has` meets its contract: its test and the definition's agree at each byte.
use Rattle.std.proofs.Common.{rules}
use Rattle.complement.specs.KindLaws.{plain-test}
use Rattle.complement.proofs.PlainKind.has.Goals as goal

pub returns : goal.returns
returns c = plain-test _ (search rules)
