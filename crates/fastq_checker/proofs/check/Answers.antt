-- `fastq_checker::check` meets its contract: the size limit, then what the file and the lines say.
use Rattle.std.proofs.Common.{sym, ◌∙◌}
use Rattle.fastq_checker.specs.WalkLaws.{check-long, check-long-index, check-within}
use Rattle.fastq_checker.proofs.check.Goals as goal

pub returns-then-over_limit : goal.returns-then-over_limit
returns-then-over_limit c = check-long _ _ (sym c.over_limit.ensures ∙ c.if-over_limit.true)

pub returns-then-over_limit-2 : goal.returns-then-over_limit-2
returns-then-over_limit-2 c = check-long-index _ _ (sym c.over_limit.ensures ∙ c.if-over_limit.false) (sym c.over_limit-2.ensures ∙ c.if-over_limit-2.true)

pub returns : goal.returns
returns c =
    c.check_records.ensures
    ∙ check-within _ _ (sym c.over_limit.ensures ∙ c.if-over_limit.false) (sym c.over_limit-2.ensures ∙ c.if-over_limit-2.false)
