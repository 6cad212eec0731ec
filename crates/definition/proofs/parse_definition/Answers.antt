-- `definition::parse_definition` meets its contract: its mark is '>'.
use Rattle.std.proofs.Common.{◌∙◌}
use Rattle.definition.specs.Laws.{marked-prefix}
use Rattle.definition.proofs.parse_definition.Goals as goal

pub returns : goal.returns
returns c = c.parse_content.ensures ∙ marked-prefix _
