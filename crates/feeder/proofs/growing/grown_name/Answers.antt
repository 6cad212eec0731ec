-- `feeder::growing::grown_name` meets its contract: case by case.
use Rattle.std.proofs.Common.{false, suc, eq-eqb, ne_eqb, arith}
use Rattle.definition.specs.Laws.{run-within}
use Rattle.definition.specs.Definition.{spaced}
use Rattle.indexer.specs.LineSums.{grow}
use Rattle.feeder.proofs.growing.grown_name.Goals as goal

pub returns-then-t-eq0 : goal.returns-then-t-eq0
unfolding grow
returns-then-t-eq0 c = rw (eq-eqb _ _ c.if-t-eq0.true) (omega (arith, c.run_end.ensures))

pub overflow_add-result : goal.overflow_add-result
overflow_add-result c = omega (arith, c.requires, c.run_end-then-t.ensures, run-within (spaced false) c.args.l.now 0 (omega arith))

pub returns-then-t : goal.returns-then-t
unfolding grow
returns-then-t c = rw (ne_eqb _ _ c.if-t-eq0.false, eq-eqb (suc c.args.t.name) c.args.t.width (omega (arith, c.if-t.true))) (omega (arith, c.run_end-then-t.ensures))

pub returns : goal.returns
unfolding grow
returns c = rw (ne_eqb _ _ c.if-t-eq0.false, ne_eqb (suc c.args.t.name) c.args.t.width (λ e. c.if-t.false (omega (arith, e))))
