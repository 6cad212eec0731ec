-- `columns::fields::write_short` meets its contract: a name that splits, no room, or the text put at the front, by a law each.
use Rattle.std.proofs.Common.{arith}
use Rattle.columns.specs.Writing.{text-split, text-no-room, text-put}
use Rattle.columns.proofs.fields.write_short.Goals as goal

pub returns-then-place-name : goal.returns-then-place-name
returns-then-place-name c = rw c.name_split-place.ensures (text-split _ _ _ (omega arith))

pub returns-in-Some : goal.returns-in-Some
returns-in-Some c =
    let x = c.in-Some.ensures in
    rw x.1 (text-no-room _ _ _ (omega arith) (omega (arith, x)))

pub returns : goal.returns
returns c =
    rw (c.put_text-written.ensures.1, c.put_text-written.ensures.0) (text-put _ _ _ (omega arith) c.in_default.ensures)
