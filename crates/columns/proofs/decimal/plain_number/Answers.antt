-- `columns::plain_number` meets its contract: a number of one byte is plain, and of a longer one the first byte tells.
use Rattle.columns.specs.Digits.{plain-short, plain-plus, plain-first}
use Rattle.columns.proofs.decimal.plain_number.Goals as goal

pub returns-then-s-lt2 : goal.returns-then-s-lt2
returns-then-s-lt2 c = plain-short _ c.if-s-lt2.true

pub returns-then-s-eq43 : goal.returns-then-s-eq43
returns-then-s-eq43 c = plain-plus _ c.if-s-lt2.false c.if-s-eq43.true

pub returns : goal.returns
returns c = plain-first _ c.if-s-lt2.false c.if-s-eq43.false
