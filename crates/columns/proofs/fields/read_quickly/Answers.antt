-- `columns::fields::read_quickly` meets its contract: numbers as they are written, up to the end, are what the fields say.
use Rattle.std.proofs.Common.{eqb-true}
use Rattle.columns.specs.Standing.{numbers-all}
use Rattle.columns.proofs.fields.read_quickly.Goals as goal

pub returns-in-Some : goal.returns-in-Some
returns-in-Some c = λ e. numbers-all _ _ _ _ c.in-Some.ensures (eqb-true _ _ e)
