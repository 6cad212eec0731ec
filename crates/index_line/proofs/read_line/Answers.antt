-- `index_line::read_line` meets its contract: that of a line of any numbers.
use Rattle.index_line.specs.IndexLine.{fields_of, content_says, index_line_says, read_line}
use Rattle.index_line.proofs.read_line.Goals as goal

pub returns : goal.returns
unfolding fields_of content_says index_line_says read_line
returns c = c.read_line.ensures
