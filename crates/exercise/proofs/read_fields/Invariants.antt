-- `exercise::read_fields` meets its contract: what is read from here on is what is read from the front.
use Rattle.std.proofs.Common.{◌-◌, ◌≤◌, ◌≡◌, length}
use Rattle.exercise.specs.Reading.{walk, says_from}
use Rattle.exercise.proofs.read_fields.Given as goal

abbrev pub invariant-loop-rest : goal.invariant-loop-rest
invariant-loop-rest l = (length l.rest ≤ length l.s) × (walk 2 l.kept (length l.s - length l.rest) 0 l.rest ≡ says_from 2 l.s)

abbrev pub decreases-loop-rest : goal.decreases-loop-rest
decreases-loop-rest l = length l.rest
