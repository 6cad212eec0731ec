-- `complement::block_of` meets its contract: before each turn the mark is 0 exactly if the bytes so far are of the kind.
use Rattle.std.proofs.Common.{◌≡◌, not, take}
use mir.Val.{bool_byte}
use Rattle.complement.specs.Kinds.{all_of}
use Rattle.complement.proofs.block_of.Given as goal

abbrev pub invariant-loop-b : goal.invariant-loop-b
invariant-loop-b g l = l.other ≡ bool_byte (not (all_of g.K.Kind.plain (take l.b-index l.bases)))
