-- `lines::ends::left_if_lf` meets its contract: its test is the one that the contract names.
use Rattle.std.proofs.Common.{eq-eqb, ne_eqb}
use Rattle.lines.proofs.ends.left_if_lf.Goals as goal

pub returns-then-b-eq10 : goal.returns-then-b-eq10
returns-then-b-eq10 c = rw (eq-eqb _ _ c.if-b-eq10.true)

pub returns-else-b-eq10 : goal.returns-else-b-eq10
returns-else-b-eq10 c = rw (ne_eqb _ _ c.if-b-eq10.false)
