-- `fastq_checker::judge_entry` meets its contract: the names decide first, then the lengths, then the places.
use Rattle.std.proofs.Common.{◌∙◌}
use Rattle.index_line.specs.IndexLine.{name_in}
use Rattle.fastq_checker.specs.JudgeLaws.{entry-name, entry_length, entry-parts}
use Rattle.fastq_checker.proofs.judge_entry.Goals as goal

pub returns-then-not-same_spans : goal.returns-then-not-same_spans
unfolding name_in
returns-then-not-same_spans c = entry-name _ _ _ _ _ _ c.same_spans.ensures c.if-not-same_spans.true

pub returns-then-a-b : goal.returns-then-a-b
unfolding name_in
returns-then-a-b c = entry_length _ _ _ _ _ _ c.same_spans.ensures c.if-not-same_spans.false c.if-a-b.true

pub returns : goal.returns
unfolding name_in
returns c = c.judge_parts.ensures ∙ entry-parts _ _ _ _ _ _ c.same_spans.ensures c.if-not-same_spans.false c.if-a-b.false c.requires.0
