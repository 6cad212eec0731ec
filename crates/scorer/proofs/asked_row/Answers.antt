-- `scorer::asked_row` meets its contract: an exercise that is read is looked up.
use Rattle.std.proofs.Common.{◌≡◌, sym, ◌∙◌, Err, rules}
use Rattle.scorer.specs.Laws.{name-within, asked-unread, asked-unfound, asked-found}
use Rattle.scorer.proofs.asked_row.Goals as goal

pub find_row-requires : goal.find_row-requires
find_row-requires c = name-within _ _ (sym c.read_exercise.ensures ∙ c.in_ok-x.was)

pub returns-in_err-x : goal.returns-in_err-x
returns-in_err-x c =
    let e : c.from_residual.result ≡ Err c.in_err-x.field-0.0 = search rules in
    rw e (asked-unread _ _ _ _ _ (sym c.read_exercise.ensures ∙ c.in_err-x.was))

pub returns-in_err-row : goal.returns-in_err-row
returns-in_err-row c =
    let e : c.from_residual-in_err-row.result ≡ Err c.in_err-row.field-0.0 = search rules in
    rw e (asked-unfound _ _ _ _ _ (sym c.read_exercise.ensures ∙ c.in_ok-x.was) _ (sym c.find_row.ensures ∙ c.in_err-row.was))

pub returns : goal.returns
returns c =
    asked-found _ _ _ _ _ (sym c.read_exercise.ensures ∙ c.in_ok-x.was) _ (sym c.find_row.ensures ∙ c.in_ok-row.was)
