-- `columns::read_number` meets its contract: behind one plus, and where there is none, the digits tell.
use Rattle.std.proofs.Common.{◌∙◌, arith}
use Rattle.columns.specs.Bytes.{take_rest}
use Rattle.columns.specs.Digits.{number-none, number-plus, number_digits}
use Rattle.columns.proofs.decimal.read_number.Goals as goal

pub returns-then-s-eq0 : goal.returns-then-s-eq0
returns-then-s-eq0 c = number-none _ c.if-s-eq0.true

pub returns-then-s-eq43 : goal.returns-then-s-eq43
returns-then-s-eq43 c =
    let s = c.args.s.now in
    c.read_digits.ensures ∙ rw (take_rest 1 s) (number-plus s (omega arith) c.if-s-eq43.true)

pub returns : goal.returns
returns c = c.read_digits-2.ensures ∙ number_digits _ c.if-s-eq43.false
