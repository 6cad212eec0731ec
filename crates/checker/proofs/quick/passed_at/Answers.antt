-- `checker::quick::passed_at` meets its contract: the line is as it is written, the definition line has its name, and the sequence its numbers.
use Rattle.std.proofs.Common.{refl, arith}
use Rattle.checker.specs.Quick.{passed-told}
use Rattle.checker.proofs.quick.passed_at.Goals as goal

pub defined_so-requires : goal.defined_so-requires
defined_so-requires c = c.in_ok-found.ensures.inside

pub returns : goal.returns
returns c =
    passed-told _ _ _ _ _ _ (c.defined_so.ensures c.if-not-defined_so.false) _ _ _ (omega arith) c.in_ok-found.ensures refl (c.even_end-end.ensures (omega arith))
