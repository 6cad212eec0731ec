-- `fastq_checker::walk` meets its contract: a record that is accepted moves the place on, and from there the walk stops where it would have.
use Rattle.std.proofs.Common.{◌-◌, ◌≤◌, ◌≡◌, length}
use Rattle.fastq_checker.specs.Part.{walked}
use Rattle.fastq_checker.proofs.walk.Given as goal

abbrev pub invariant-loop-w : goal.invariant-loop-w
invariant-loop-w l = (l.w.records ≤ l.w.fastq) × (l.w.index ≤ length l.index) × (walked l.fastq l.index l.to l.w ≡ walked l.fastq l.index l.to l.initial.w)

abbrev pub decreases-loop-w : goal.decreases-loop-w
decreases-loop-w l = length l.fastq - l.w.fastq
