-- `columns::fields::digits_at`: before each turn the bytes passed are digits, the value is theirs, and the first is no 0.
use Rattle.std.proofs.Common.{arith}
use Rattle.columns.specs.Quick.{at_first, at_more}
use Rattle.columns.proofs.fields.digits_at.Goals as goal
use Rattle.columns.proofs.fields.digits_at.Goals.{At-loop-i}

pub loop-i-init : goal.loop-i-init
loop-i-init c =
    let w = c.from-first.ensures in
    (omega arith, rw w (at_first _ _ c.requires (omega (arith, w)) (omega (arith, w))))

pub loop-i-preserved : goal.loop-i-preserved
loop-i-preserved c =
    let w = c.from-b.ensures in
    (omega (arith, c.loop-i.invariant.0), rw w (at_more _ _ _ _ (omega (arith, c.loop-i.invariant.0)) c.loop-i.invariant.1 (omega arith) (omega (arith, w)) (omega (arith, w)) (omega arith)))
