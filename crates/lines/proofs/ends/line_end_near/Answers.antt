-- `lines::ends::line_end_near` meets its contract: the end of the line at `i` stays the end of the line at `at`.
use Rattle.std.proofs.Common.{arith, add-one}
use Rattle.lines.specs.Laws.{line_len-hit, line_len-miss, line_len-end}
use Rattle.lines.proofs.ends.line_end_near.Goals as goal

pub returns-then-s-i-eq10 : goal.returns-then-s-i-eq10
returns-then-s-i-eq10 c =
    omega (arith, line_len-hit c.args.s.now c.loop-i.i c.loop-i-test.true c.if-s-i-eq10.true)

pub loop-i-preserved : goal.loop-i-preserved
loop-i-preserved c =
    rw add-one (omega (arith, line_len-miss c.args.s.now c.loop-i.i c.loop-i-test.true c.if-s-i-eq10.false))

pub returns : goal.returns
returns c = grind (arith, line_len-end c.args.s.now c.loop-i.i, line_len-end c.args.s.now c.args.at)
