-- `definition::kept_end` meets its contract: taking whitespace off the end does not change what is kept.
use Rattle.std.proofs.Common.{rules, ◌-◌, sym, ◌∙◌, arith}
use Rattle.definition.specs.Definition.{is_space}
use Rattle.definition.specs.Laws.{keep-more, keep-stop, keep-end, keep_all}
use Rattle.definition.proofs.kept_end.Goals as goal

pub loop-i-init : goal.loop-i-init
loop-i-init c = (search rules, keep_all is_space c.args.l.now c.args.at)

pub loop-i-preserved : goal.loop-i-preserved
loop-i-preserved c =
    let a = c.args in
    let h = keep-more is_space a.l.now a.at c.loop-i.i (c.loop-i.i - 1) (omega arith) (omega arith) (omega arith) (sym c.is_space.ensures ∙ c.if-not-is_space.false) in
    (omega arith, sym h ∙ c.loop-i.invariant.1)

pub returns-then-not-is_space : goal.returns-then-not-is_space
returns-then-not-is_space c =
    let a = c.args in
    omega (
      arith,
      keep-stop is_space a.l.now a.at c.loop-i.i (c.loop-i.i - 1) (omega arith) (omega arith) (omega arith) (sym c.is_space.ensures ∙ c.if-not-is_space.true),
    )

pub returns : goal.returns
returns c =
    let a = c.args in
    omega (arith, keep-end is_space a.l.now a.at c.loop-i.i (omega arith))
