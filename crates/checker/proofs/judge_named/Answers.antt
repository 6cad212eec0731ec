-- `checker::judge_named` meets its contract: a line that reads has its name inside, and line bases that are not 0.
use Rattle.std.proofs.Common.{sym, ◌∙◌, arith, ◌≡◌, Err, rules}
use borrow.Author.Tests.{eqb-true, eqb-false}
use Rattle.index_line.specs.Laws.{line-sound}
use Rattle.checker.specs.Steps.{judged-absent, judged-line, judged-row}
use Rattle.checker.proofs.judge_named.Goals as goal

pub returns-then-is_empty : goal.returns-then-is_empty
returns-then-is_empty c = judged-absent _ _ _ _ _ _ (eqb-true _ _ (sym c.is_empty.ensures ∙ c.if-is_empty.true))

pub judge_entry-requires : goal.judge_entry-requires
judge_entry-requires c =
    let k = line-sound _ _ _ (sym c.parse_line.ensures ∙ c.in_ok-e.was) in
    (c.requires, omega (arith, k.start, k.inside), k.lined.some-bases)

pub returns-in_err-e : goal.returns-in_err-e
returns-in_err-e c =
    let e : c.from_residual.result ≡ Err c.in_err-e.field-0.0 = search rules in
    rw e (judged-line _ _ _ _ _ _ (eqb-false _ _ (sym c.is_empty.ensures ∙ c.if-is_empty.false)) _ (sym c.parse_line.ensures ∙ c.in_err-e.was))

pub returns : goal.returns
returns c = c.judge_entry.ensures ∙ judged-row _ _ _ _ _ _ (eqb-false _ _ (sym c.is_empty.ensures ∙ c.if-is_empty.false)) _ (sym c.parse_line.ensures ∙ c.in_ok-e.was)
