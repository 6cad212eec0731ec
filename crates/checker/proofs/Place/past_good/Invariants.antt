-- `checker::Place::past_good` meets its contract: each record that is passed leads to what the place before it leads to.
use Rattle.std.proofs.Common.{◌-◌, length}
use Rattle.checker.specs.Quick.{PastGood}
use Rattle.checker.proofs.Place.past_good.Given as goal

abbrev pub invariant-loop-passed : goal.invariant-loop-passed
invariant-loop-passed l = PastGood l.fasta l.index l.initial.w l.w

abbrev pub decreases-loop-passed : goal.decreases-loop-passed
decreases-loop-passed l = length l.fasta - l.w.fasta
