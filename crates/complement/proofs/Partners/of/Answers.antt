-- `complement::Partners::of` meets its contract: the entry of each byte is its partner.
use Rattle.std.proofs.Common.{rules}
use Rattle.letters.specs.Letters.{partner}
use Rattle.letters.specs.Table.{entry}
use Rattle.complement.proofs.Partners.of.Goals as goal

pub returns : goal.returns
returns c = entry partner _ c.args.self.now.is_table c.args.b (search rules)
