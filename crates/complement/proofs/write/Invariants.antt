-- `complement::write` meets its contract: before each turn of either loop the complements of the first `i` bases are written.
use Rattle.std.proofs.Common.{◌≡◌, take, map}
use Rattle.letters.specs.Letters.{partner}
use Rattle.complement.specs.Complement.{given}
use Rattle.complement.specs.Kinds.{in_order, output_of}
use Rattle.complement.proofs.write.Given as goal

abbrev pub invariant-loop-i : goal.invariant-loop-i
invariant-loop-i g l = l.out ≡ output_of (given (take l.i (in_order g.O.Order.reversed (map partner l.bases)))) l.fn.out

abbrev pub invariant-loop-i-2 : goal.invariant-loop-i-2
invariant-loop-i-2 g l = l.out ≡ output_of (given (take l.i (in_order g.O.Order.reversed (map partner l.bases)))) l.fn.out
