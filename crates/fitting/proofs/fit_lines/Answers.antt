-- `fitting::fit_lines` meets its contract: the walk from the numbers' position on says whether they lead to every base.
use Rattle.std.proofs.Common.{arith}
use Rattle.fitting.specs.Laws.{fit-there, fit-elsewhere}
use Rattle.fitting.proofs.fit_lines.Goals as goal

pub returns-in-Some : goal.returns-in-Some
returns-in-Some c =
    fit-elsewhere _ _ _ _ (omega (arith, c.requires.begins)) _ c.numbers_at-n.ensures _ (rw c.unnamed-x.ensures at c.walk_sequence-found.ensures) _ _ c.in-Some.is

pub returns : goal.returns
returns c =
    rw (c.row_for-row.ensures (omega (arith, c.requires.begins, c.requires.ends, c.requires.name, c.requires.description)))
    (fit-there _ _ _ _ (omega (arith, c.requires.begins)) _ c.numbers_at-n.ensures _ (rw c.unnamed-x.ensures at c.walk_sequence-found.ensures) c.in_default.is)
