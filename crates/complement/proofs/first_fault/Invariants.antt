-- `complement::first_fault` meets its contract: no byte that it passed is bad.
use Rattle.complement.specs.Laws.{Passed}
use Rattle.complement.proofs.first_fault.Given as goal

abbrev pub invariant-loop-i : goal.invariant-loop-i
invariant-loop-i g l = Passed g.O.Order.reversed l.bases l.i
