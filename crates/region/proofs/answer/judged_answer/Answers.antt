-- `region::answer::judged_answer` meets its contract: by the judgement's two cases.
use Rattle.std.proofs.Common.{sym, ◌∙◌, ◌≡◌, Err, rules}
use Rattle.region.specs.Answer.{answer_of}
use Rattle.region.proofs.answer.judged_answer.Goals as goal

pub returns-in_err-bases : goal.returns-in_err-bases
unfolding answer_of
returns-in_err-bases c =
    let e : c.from_residual.result ≡ Err c.in_err-bases.field-0.0 = search rules in
    rw e (rw (sym c.judge_region.ensures ∙ c.in_err-bases.was))

pub returns : goal.returns
unfolding answer_of
returns c = rw (sym c.judge_region.ensures ∙ c.in_ok-bases.was)
