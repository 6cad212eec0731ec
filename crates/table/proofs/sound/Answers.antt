-- `table::sound` meets its contract: each test is one of the definition's, in its order.
use Rattle.std.proofs.Common.{◌∙◌, ap, Err}
use Rattle.table.specs.RowLaws.{sound-no-bases, sound-no-width, sound-row}
use Rattle.table.proofs.sound.Goals as goal

pub returns-then-x-eq0 : goal.returns-then-x-eq0
returns-then-x-eq0 c = ap Err c.bad.ensures ∙ sound-no-bases _ _ c.if-x-eq0.true

pub returns-then-x-eq0-2 : goal.returns-then-x-eq0-2
returns-then-x-eq0-2 c = ap Err c.bad-then-x-eq0-2.ensures ∙ sound-no-width _ _ c.if-x-eq0.false c.if-x-eq0-2.true

pub returns : goal.returns
returns c = sound-row _ _ c.if-x-eq0.false c.if-x-eq0-2.false
