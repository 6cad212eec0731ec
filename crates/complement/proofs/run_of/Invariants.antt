-- `complement::run_of` meets its contract: before each turn the bytes that are left decide, and a block that has another byte ends it.
use Rattle.std.proofs.Common.{◌≡◌}
use Rattle.std.specs.Slice.Iter.{chunks_rest}
use Rattle.complement.specs.Kinds.{all_of}
use Rattle.complement.proofs.run_of.Given as goal

abbrev pub invariant-loop-block : goal.invariant-loop-block
invariant-loop-block g l = all_of g.K.Kind.plain (chunks_rest l.block-iterator) ≡ all_of g.K.Kind.plain l.bases
