-- `feeder::growing::grown_text` meets its contract: case by case.
use Rattle.std.proofs.Common.{suc, true, eq-eqb, ne_eqb, arith}
use Rattle.feeder.specs.CodeLaws.{text-first, text-more, skip-space}
use Rattle.feeder.specs.SmallLaws.{skip-le}
use Rattle.definition.specs.Laws.{run-within}
use Rattle.definition.specs.Definition.{spaced}
use Rattle.indexer.specs.LineSums.{grow}
use Rattle.feeder.proofs.growing.grown_text.Goals as goal

pub returns-then-t-eq0 : goal.returns-then-t-eq0
unfolding grow
returns-then-t-eq0 c = rw (eq-eqb _ _ c.if-t-eq0.true) (text-first _ _ _ c.run_end.ensures c.run_end-then-t-eq0.ensures)

pub overflow_add-result : goal.overflow_add-result
overflow_add-result c = omega (arith, c.requires, text-more _ _ _ c.run_end-then-t.ensures c.run_end-then-t-2.ensures, skip-le true c.args.l.now)

pub returns-then-t : goal.returns-then-t
unfolding grow
returns-then-t c = rw (ne_eqb _ _ c.if-t-eq0.false, eq-eqb (suc c.args.t.name) c.args.t.width (omega (arith, c.if-t.true)), text-more _ _ _ c.run_end-then-t.ensures c.run_end-then-t-2.ensures)

pub overflow_add-result-then-t-2 : goal.overflow_add-result-then-t-2
overflow_add-result-then-t-2 c = omega (arith, c.requires, c.run_end-then-t-2-2.ensures, run-within (spaced true) c.args.l.now 0 (omega arith))

pub returns-then-t-2 : goal.returns-then-t-2
unfolding grow
returns-then-t-2 c = rw (ne_eqb _ _ c.if-t-eq0.false, ne_eqb (suc c.args.t.name) c.args.t.width (λ e. c.if-t.false (omega (arith, e))), eq-eqb _ _ c.if-t-2.true) (omega (arith, c.run_end-then-t-2-2.ensures, skip-space c.args.l.now))

pub returns : goal.returns
unfolding grow
returns c = rw (ne_eqb _ _ c.if-t-eq0.false, ne_eqb (suc c.args.t.name) c.args.t.width (λ e. c.if-t.false (omega (arith, e))), ne_eqb _ _ c.if-t-2.false)
