-- `sequence::skip_ends` meets its contract: from `i` the CR and LF are skipped to the same place as from `at`.
use Rattle.std.proofs.Common.{sym, ◌∙◌}
use Rattle.sequence.specs.Laws.{skip-hit, skip-miss, skip-end}
use Rattle.sequence.proofs.skip_ends.Goals as goal

pub returns-then-not-ends_line : goal.returns-then-not-ends_line
returns-then-not-ends_line c =
    sym (skip-miss c.args.s.now c.loop-i.i c.loop-i-test.true (sym c.ends_line.ensures ∙ c.if-not-ends_line.true)) ∙ c.loop-i.invariant

pub loop-i-preserved : goal.loop-i-preserved
loop-i-preserved c =
    sym (skip-hit c.args.s.now c.loop-i.i c.loop-i-test.true (sym c.ends_line.ensures ∙ c.if-not-ends_line.false)) ∙ c.loop-i.invariant

pub returns : goal.returns
returns c = sym (skip-end _ _ c.loop-i-test.false) ∙ c.loop-i.invariant
