-- `fastq_checker::judge_parts` meets its contract: what the bases say comes first.
use Rattle.std.proofs.Common.{sym, ◌∙◌, ◌≡◌, Err, rules}
use Rattle.fastq_checker.specs.JudgeLaws.{parts-refused, parts-on}
use Rattle.fastq_checker.proofs.judge_parts.Goals as goal

pub returns-in_err-judge_part : goal.returns-in_err-judge_part
returns-in_err-judge_part c =
    let e : c.from_residual.result ≡ Err c.in_err-judge_part.field-0.0 = search rules in
    rw e (parts-refused _ _ _ _ (sym c.judge_part.ensures ∙ c.in_err-judge_part.was))

pub returns : goal.returns
returns c = c.judge_part-2.ensures ∙ parts-on _ _ _ (sym c.judge_part.ensures ∙ c.in_ok-judge_part.was)
