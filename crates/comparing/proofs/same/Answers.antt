-- `comparing::same` meets its contract: bytes of another length are not the same, and as many are compared by one way or the other.
use Rattle.std.proofs.Common.{◌∙◌}
use Rattle.comparing.specs.Laws.{other_length, same-pointwise}
use Rattle.comparing.proofs.same.Goals as goal

pub returns-then-a-b : goal.returns-then-a-b
returns-then-a-b c = other_length _ _ c.if-a-b.true

pub returns-then-a-lt8 : goal.returns-then-a-lt8
returns-then-a-lt8 c = c.eq.ensures ∙ same-pointwise c.args.a.now c.args.b.now
