-- `definition::parse_line` meets its contract: its mark is '>'.
use Rattle.std.proofs.Common.{◌∙◌}
use Rattle.definition.specs.Definition.{definition_says}
use Rattle.definition.specs.Laws.{marked-prefix}
use Rattle.definition.proofs.parse_line.Goals as goal

pub returns : goal.returns
unfolding definition_says
returns c = c.parse_marked.ensures ∙ marked-prefix _
