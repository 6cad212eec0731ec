-- `fastq_checker::check_part` meets its contract: the walk from the part's place on, if both are within the limit; behind the index no record is accepted.
use Rattle.std.proofs.Common.{sym, ◌∙◌, arith}
use Rattle.fastq_checker.specs.PartLaws.{walk-lineless, part-long, part-long-index, part-within}
use Rattle.fastq_checker.proofs.check_part.Goals as goal

pub returns-then-over_limit : goal.returns-then-over_limit
returns-then-over_limit c = part-long _ _ _ _ _ (sym c.over_limit.ensures ∙ c.if-over_limit.true)

pub returns-then-over_limit-2 : goal.returns-then-over_limit-2
returns-then-over_limit-2 c = part-long-index _ _ _ _ _ (sym c.over_limit.ensures ∙ c.if-over_limit.false) (sym c.over_limit-2.ensures ∙ c.if-over_limit-2.true)

pub returns-then-index-first : goal.returns-then-index-first
returns-then-index-first c =
    part-within _ _ _ _ _ (sym c.over_limit.ensures ∙ c.if-over_limit.false) (sym c.over_limit-2.ensures ∙ c.if-over_limit-2.false) _
    (walk-lineless _ _ _ _ (omega arith))

pub walk-w-requires : goal.walk-w-requires
walk-w-requires c = (omega arith, omega arith)

pub returns : goal.returns
returns c =
    part-within _ _ _ _ _ (sym c.over_limit.ensures ∙ c.if-over_limit.false) (sym c.over_limit-2.ensures ∙ c.if-over_limit-2.false) _
    c.walk-w.ensures
