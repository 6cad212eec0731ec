-- `columns::decimal::tenths` meets its contract: the product has the tenth of the first half in its low bits, and that of the second from bit 16 on.
use Rattle.columns.specs.Forward.{both-tenths}
use Rattle.columns.proofs.decimal.tenths.Goals as goal

pub returns : goal.returns
returns c = both-tenths _ c.requires.0 c.requires.1
