-- `definition::run_end_near` meets its contract: the run from `i` ends where the run from `at` does.
use Rattle.std.proofs.Common.{arith, add-one}
use Rattle.definition.specs.Definition.{spaced}
use Rattle.definition.specs.Laws.{run_more, run-stop, run_end, spaced-yes, spaced-not}
use Rattle.definition.proofs.run_end_near.Goals as goal

pub loop-i-preserved : goal.loop-i-preserved
loop-i-preserved c =
    let a = c.args in
    rw add-one (omega (arith, run_more (spaced a.space) a.l.now c.loop-i.i (omega arith) (spaced-yes _ _ _ c.is_space.ensures c.if-is_space-space.false)))

pub returns-then-is_space-space : goal.returns-then-is_space-space
returns-then-is_space-space c =
    let a = c.args in
    omega (arith, run-stop (spaced a.space) a.l.now c.loop-i.i (omega arith) (spaced-not _ _ _ c.is_space.ensures c.if-is_space-space.true))

pub returns : goal.returns
returns c =
    let a = c.args in
    grind (arith, run_end (spaced a.space) a.l.now c.loop-i.i (omega arith), run_end (spaced a.space) a.l.now a.at)
