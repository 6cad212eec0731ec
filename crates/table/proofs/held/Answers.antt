-- `table::held` meets its contract: a refused row stays refused, and of any other the numbers are judged.
use Rattle.std.proofs.Common.{◌∙◌, rules}
use Rattle.table.specs.Rows.{held_of}
use Rattle.table.proofs.held.Goals as goal

pub returns-in_err-number : goal.returns-in_err-number
unfolding held_of
returns-in_err-number c = rw c.in_err-number.was (search rules)

pub returns : goal.returns
unfolding held_of
returns c = c.sound.ensures ∙ rw c.in_ok-number.was
