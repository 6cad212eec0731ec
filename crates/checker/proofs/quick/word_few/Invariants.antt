-- `checker::quick::word_few` meets its contract: the bytes passed are the same, and above a space.
use Rattle.checker.specs.Quick.{WordAt}
use Rattle.checker.proofs.quick.word_few.Given as goal

abbrev pub invariant-loop-k : goal.invariant-loop-k
invariant-loop-k l = WordAt l.a 0 l.b 0 l.k
