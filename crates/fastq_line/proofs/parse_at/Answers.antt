-- `fastq_line::parse_at` meets its contract: that of a line of any numbers.
use Rattle.fastq_line.specs.SixColumns.{fields_of, content_says, six_line_says}
use Rattle.fastq_line.proofs.parse_at.Goals as goal

pub returns : goal.returns
unfolding fields_of content_says six_line_says
returns c = c.parse_at.ensures
