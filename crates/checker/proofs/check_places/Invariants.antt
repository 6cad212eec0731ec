-- `checker::check_places` meets its contract: what the file and the index from the place on lead to stays what they lead to from the start.
use Rattle.std.proofs.Common.{◌-◌, ◌≤◌, ◌≡◌, length}
use Rattle.checker.specs.Check.{from_says}
use Rattle.checker.specs.Steps.{check_at}
use Rattle.checker.proofs.check_places.Given as goal

abbrev pub invariant-loop-w : goal.invariant-loop-w
invariant-loop-w l = (l.w.records ≤ l.w.fasta) × (l.w.index ≤ length l.index) × (check_at l.fasta l.index l.w ≡ from_says l.fasta l.at l.index l.line)

abbrev pub decreases-loop-w : goal.decreases-loop-w
decreases-loop-w l = length l.fasta - l.w.fasta
