-- `fastq_checker::check_records` meets its contract: what the file and the lines from a place on lead to stays what they lead to as a whole.
use Rattle.std.proofs.Common.{◌-◌, ◌≤◌, ◌≡◌, length}
use Rattle.lines.specs.Lines.{lines}
use Rattle.fastq_index.specs.File.{rows_at}
use Rattle.fastq_checker.specs.Check.{file_says}
use Rattle.fastq_checker.specs.Steps.{check_at}
use Rattle.fastq_checker.proofs.check_records.Given as goal

abbrev pub invariant-loop-next : goal.invariant-loop-next
invariant-loop-next l = (l.w.records ≤ l.w.fastq) × (l.w.index ≤ length l.index) × (check_at l.fastq l.index l.w ≡ file_says l.fastq (lines l.index) (rows_at l.fastq 0).rows (rows_at l.fastq 0).stop)

abbrev pub decreases-loop-next : goal.decreases-loop-next
decreases-loop-next l = length l.fastq - l.w.fastq
