-- `checker::judge_entry` meets its contract: the names decide first, then the sequence.
use Rattle.std.proofs.Common.{◌∙◌}
use Rattle.index_line.specs.IndexLine.{name_in}
use Rattle.checker.specs.Steps.{judged-name, judged-same}
use Rattle.checker.proofs.judge_entry.Goals as goal

pub returns-then-same_spans : goal.returns-then-same_spans
unfolding name_in
returns-then-same_spans c = c.judge_sequence.ensures ∙ judged-same _ _ _ _ _ _ _ _ c.same_spans.ensures c.if-same_spans.true

pub returns : goal.returns
unfolding name_in
returns c = judged-name _ _ _ _ _ _ _ _ c.same_spans.ensures c.if-same_spans.false
