-- `complement::run_of` meets its contract: before each turn the bytes that are left decide, and a block that has another byte ends it.
use Rattle.std.proofs.Common.{sym, ◌∙◌}
use Rattle.complement.specs.KindLaws.{block-good, block-bad, all-none}
use Rattle.complement.proofs.run_of.Goals as goal

pub returns-then-not-block_of : goal.returns-then-not-block_of
returns-then-not-block_of g c = sym (block-bad _ _ _ _ c.in-Some.ensures.steps.1.0 (sym c.block_of.ensures ∙ c.if-not-block_of.true)) ∙ c.loop-block.invariant

pub loop-block-preserved : goal.loop-block-preserved
loop-block-preserved g c =
    sym (block-good _ _ _ _ c.in-Some.ensures.steps.1.0 (sym c.block_of.ensures ∙ c.if-not-block_of.false)) ∙ c.loop-block.invariant

pub returns : goal.returns
returns g c = sym (all-none _ _ c.in-None.ensures.steps.1.0) ∙ c.loop-block.invariant
