-- `lines::chopped` meets its contract: only the last byte decides what is left.
use Rattle.std.proofs.Common.{arith, sym, ◌∙◌, ap, ◌-◌, length, length-take-le}
use Rattle.lines.specs.Laws.{chop-last, chop-keep, chop-none}
use Rattle.lines.proofs.chopped.Goals as goal

pub returns-then-l-last : goal.returns-then-l-last
returns-then-l-last c =
    let a = c.args in
    sym (ap length (chop-last a.b a.l.now (length a.l.now - 1) (omega arith) c.if-l-last.true) ∙ length-take-le (length a.l.now - 1) a.l.now (omega arith))

pub returns-else-l-last : goal.returns-else-l-last
returns-else-l-last c =
    let a = c.args in
    sym (ap length (chop-keep a.b a.l.now (length a.l.now - 1) (omega arith) c.if-l-last.false))

pub returns-else-n-gt0 : goal.returns-else-n-gt0
returns-else-n-gt0 c = sym (ap length (chop-none _ _ (omega arith)))
