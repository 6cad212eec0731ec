-- `walking::walk_sequence` meets its contract: strides with no byte between them, or of no bases, have the places of one stride.
use Rattle.std.proofs.Common.{◌∙◌, arith}
use Rattle.walking.specs.Walk.{one-stride, no-stride}
use Rattle.walking.proofs.walk_sequence.Goals as goal
use Rattle.walking.proofs.walk_sequence.Goals.{then-x-eq0-via-then-x-eq0, then-x-eq0-via-else-x-eq0+then-x}

pub returns-then-x-eq0 : goal.returns-then-x-eq0
returns-then-x-eq0 c =
    c.walk_strides.ensures
    ∙ elim c.then-x-eq0.branch [
      | then-x-eq0-via-then-x-eq0 w ↦ no-stride _ _ _ _ _ (omega arith) w.if-x-eq0.true
      | then-x-eq0-via-else-x-eq0+then-x w ↦ one-stride _ _ _ _ _ (omega arith) w.if-x.true
    ]
