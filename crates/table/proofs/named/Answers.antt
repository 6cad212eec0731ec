-- `table::named` meets its contract: a refused row stays refused, and of any other the numbers and then the name are judged.
use Rattle.std.proofs.Common.{◌≡◌, ◌∙◌, Err, rules}
use Rattle.table.specs.Rows.{named_of}
use Rattle.table.specs.RowLaws.{named-bad, named-good}
use Rattle.table.proofs.named.Goals as goal

pub returns-in_err-number : goal.returns-in_err-number
unfolding named_of
returns-in_err-number c = rw c.in_err-number.was (search rules)

pub returns-in_err-y : goal.returns-in_err-y
returns-in_err-y c =
    let e : c.from_residual-in_err-y.result ≡ Err c.in_err-y.field-0.0 = search rules in
    e ∙ named-bad _ _ _ _ c.in_ok-number.was _ c.sound.ensures _ c.in_err-y.was

pub returns : goal.returns
returns c =
    c.named_in.ensures ∙ named-good _ _ _ _ c.in_ok-number.was _ c.sound.ensures _ c.in_ok-y.was
