-- `fastq_line::write_line` meets its contract: the line is written by its numbers.
use Rattle.fastq_line.specs.SixColumns.{line_written}
use Rattle.fastq_line.proofs.write_line.Goals as goal

pub returns : goal.returns
unfolding line_written
returns c = c.write_line.ensures
