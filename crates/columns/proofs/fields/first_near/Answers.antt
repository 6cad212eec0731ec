-- `columns::fields::first_near` meets its contract. The loop's invariant: the first tab or LF from here is the first from the start.
use Rattle.std.proofs.Common.{arith}
use Rattle.columns.specs.Bytes.{first-hit, first-miss, first-end}
use Rattle.columns.specs.Fields.{splits}
use Rattle.columns.proofs.fields.first_near.Goals as goal

pub returns-then-l-i : goal.returns-then-l-i
returns-then-l-i c = first-hit splits _ _ _ c.loop-i.invariant c.loop-i-test.true c.if-l-i.true

pub loop-i-preserved : goal.loop-i-preserved
loop-i-preserved c = first-miss splits _ _ _ c.loop-i.invariant c.loop-i-test.true c.if-l-i.false

pub returns : goal.returns
returns c = omega (arith, first-end splits _ _ _ c.loop-i.invariant c.loop-i-test.false)
