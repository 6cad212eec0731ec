-- `fastq_checker::judge_file` meets its contract: what the indexer refuses from `i` on is what it refuses from `at` on.
use Rattle.std.proofs.Common.{◌-◌, ◌≡◌, length}
use Rattle.fastq_index.specs.File.{rows_at}
use Rattle.fastq_checker.proofs.judge_file.Given as goal

abbrev pub invariant-loop-i : goal.invariant-loop-i
invariant-loop-i l = (rows_at l.fastq l.i).stop ≡ (rows_at l.fastq l.at).stop

abbrev pub decreases-loop-i : goal.decreases-loop-i
decreases-loop-i l = length l.fastq - l.i
