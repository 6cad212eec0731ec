-- `columns::fields::read_numbers`: the quick way and the slow way say the same.
use Rattle.std.proofs.Common.{◌≡◌, arith, length}
use Rattle.columns.specs.Standing.{ReadAll}
use Rattle.columns.proofs.fields.read_numbers.Goals as goal

pub returns-then-read_quickly : goal.returns-then-read_quickly
unfolding ReadAll
returns-then-read_quickly c =
    let e : length c.read_quickly.new.numbers ≡ length c.args.numbers.now = omega arith in
    rw e at (c.read_quickly.ensures c.if-read_quickly.true c.args.line)

pub returns : goal.returns
returns c =
    let e : length c.read_quickly.new.numbers ≡ length c.args.numbers.now = omega arith in
    rw e at c.read_each.ensures
