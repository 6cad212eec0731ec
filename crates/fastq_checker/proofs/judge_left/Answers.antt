-- `fastq_checker::judge_left` meets its contract: a byte that is left is in a line.
use Rattle.fastq_checker.specs.WalkLaws.{left-some, left-none}
use Rattle.fastq_checker.proofs.judge_left.Goals as goal

pub returns-then-at-index : goal.returns-then-at-index
returns-then-at-index c = left-some _ _ _ c.if-at-index.true

pub returns : goal.returns
returns c = left-none _ _ _ c.if-at-index.false
