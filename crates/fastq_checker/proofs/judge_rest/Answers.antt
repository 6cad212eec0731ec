-- `fastq_checker::judge_rest` meets its contract: the fault of the index stands where the indexer takes the rest of the file.
use Rattle.std.proofs.Common.{sym, ◌∙◌, ◌≡◌, Err, rules}
use Rattle.fastq_checker.specs.WalkLaws.{rest-refused, rest-taken}
use Rattle.fastq_checker.proofs.judge_rest.Goals as goal

pub returns-in_err-judge_file : goal.returns-in_err-judge_file
returns-in_err-judge_file c =
    let e : c.from_residual.result ≡ Err c.in_err-judge_file.field-0.0 = search rules in
    rw e (rest-refused _ _ _ (sym c.judge_file.ensures ∙ c.in_err-judge_file.was))

pub returns : goal.returns
returns c = rest-taken _ _ (sym c.judge_file.ensures ∙ c.in_ok-judge_file.was)
