-- `fastq::judge_line` meets its contract: a test for each case, in the order of the rule.
use Rattle.std.proofs.Common.{sym, ◌∙◌}
use Rattle.fastq.specs.Laws.{says-blank, says-fits, says-bases, says-width, says-like}
use Rattle.fastq.proofs.judge_line.Goals as goal

pub returns-then-l-eq0 : goal.returns-then-l-eq0
returns-then-l-eq0 c = says-blank _ _ _ c.if-l-eq0.true

pub returns-then-fits : goal.returns-then-fits
returns-then-fits c = says-fits _ _ _ c.if-l-eq0.false (sym c.fits.ensures ∙ c.if-fits.true)

pub returns-then-l-first : goal.returns-then-l-first
returns-then-l-first c = says-bases _ _ _ c.if-l-eq0.false (sym c.fits.ensures ∙ c.if-fits.false) c.if-l-first.true

pub returns-then-l-first-2 : goal.returns-then-l-first-2
returns-then-l-first-2 c = says-width _ _ _ c.if-l-eq0.false (sym c.fits.ensures ∙ c.if-fits.false) c.if-l-first.false c.if-l-first-2.true

pub returns : goal.returns
returns c = says-like _ _ _ c.if-l-eq0.false c.if-l-first.false c.if-l-first-2.false
