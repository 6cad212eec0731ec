-- `primer::set_of` meets its contract: a look into the table.
use Rattle.std.proofs.Common.{rules}
use Rattle.letters.specs.Table.{entry}
use Rattle.primer.proofs.set_of.Goals as goal

pub returns : goal.returns
returns c = entry _ _ c.requires c.args.letter (search rules)
