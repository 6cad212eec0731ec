-- `lines::ends::line_end` meets its contract: the first block tells the end, or has no LF and leaves it where it is.
use Rattle.std.proofs.Common.{sym, ◌∙◌, arith, drop}
use Rattle.lines.specs.FirstLf.{left_le, left-clear, end-past, end-here}
use Rattle.lines.proofs.ends.line_end.Goals as goal

pub returns-then-left-eq0 : goal.returns-then-left-eq0
returns-then-left-eq0 c =
    let a = c.args in
    c.line_end_far.ensures ∙ end-past a.s.now a.at 64 (omega arith) (left-clear 64 (drop a.at a.s.now) (sym c.left_at_lf-left.ensures ∙ c.if-left-eq0.true))

pub overflow_sub-result : goal.overflow_sub-result
overflow_sub-result c =
    let a = c.args in
    omega (arith, c.left_at_lf-left.ensures, left_le 64 (drop a.at a.s.now))

pub returns : goal.returns
returns c =
    let a = c.args in
    let e = c.left_at_lf-left.ensures in
    rw e (end-here a.s.now a.at 64 (omega (arith, e)))
