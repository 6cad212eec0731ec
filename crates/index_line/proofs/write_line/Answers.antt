-- `index_line::write_line` meets its contract: the line is written by its numbers.
use Rattle.index_line.specs.IndexLine.{line_written}
use Rattle.index_line.proofs.write_line.Goals as goal

pub returns : goal.returns
unfolding line_written
returns c = c.write_line.ensures
