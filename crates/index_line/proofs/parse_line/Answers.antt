-- `index_line::parse_line` meets its contract: that of a line of any numbers.
use Rattle.index_line.specs.IndexLine.{fields_of, content_says, index_line_says}
use Rattle.index_line.proofs.parse_line.Goals as goal

pub returns : goal.returns
unfolding fields_of content_says index_line_says
returns c = c.parse_line.ensures
