-- `lines::ends::line_end_rest` meets its contract: what is passed leaves the end where it is, and a block with an LF tells it.
use Rattle.std.proofs.Common.{◌≤◌, sym, ◌∙◌, arith, drop}
use Rattle.lines.specs.Laws.{line_len-end}
use Rattle.lines.specs.FirstLf.{left_le, left-clear, end-past, end-here}
use Rattle.lines.proofs.ends.line_end_rest.Goals as goal
use Rattle.lines.proofs.ends.line_end_rest.Goals.{After-left_at_lf-left}

pub returns-then-s-at : goal.returns-then-s-at
returns-then-s-at c =
    let a = c.args in
    omega (arith, line_len-end a.s.now a.at (omega arith))

pub loop-i-init : goal.loop-i-init
loop-i-init c = (c.past_stretches-i.ensures.0, c.past_stretches-i.ensures.1 ∙ c.past_stretches-far.ensures.1)

-- no more bytes are left than a block has
small : (c : After-left_at_lf-left) → c.left_at_lf-left.result ≤ 64
small c =
    rw c.left_at_lf-left.ensures (left_le 64 (drop c.loop-i.i c.args.s.now))

pub overflow_sub-result : goal.overflow_sub-result
overflow_sub-result c = omega (arith, small (goal.at.overflow_sub-result c).After-left_at_lf-left)

pub overflow_add-result : goal.overflow_add-result
overflow_add-result c = omega (arith, small (goal.at.overflow_add-result c).After-left_at_lf-left)

pub returns-then-left-ne0 : goal.returns-then-left-ne0
returns-then-left-ne0 c =
    let e = c.left_at_lf-left.ensures in
    rw e (end-here c.args.s.now c.loop-i.i 64 (omega (arith, e))) ∙ c.loop-i.invariant.1

pub loop-i-preserved : goal.loop-i-preserved
loop-i-preserved c =
    let s = c.args.s.now in
    (omega arith, end-past s c.loop-i.i 64 (omega arith) (left-clear 64 (drop c.loop-i.i s) (sym c.left_at_lf-left.ensures ∙ c.if-left-ne0.false)) ∙ c.loop-i.invariant.1)

pub returns : goal.returns
returns c = c.line_end_near.ensures ∙ c.loop-i.invariant.1
