-- `columns::fields::name_split` meets its contract: where the blocks have neither there is none, else the search tells.
use Rattle.std.proofs.Common.{sym}
use Rattle.columns.proofs.fields.name_split.Goals as goal

pub returns-then-whole_name : goal.returns-then-whole_name
returns-then-whole_name c = sym (c.whole_name.ensures c.if-whole_name.true)
