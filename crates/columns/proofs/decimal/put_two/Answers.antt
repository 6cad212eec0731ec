-- `columns::decimal::put_two` meets its contract: the bytes of the word are the digits.
use Rattle.std.proofs.Common.{◌∙◌}
use Rattle.columns.specs.Decimal.{digits}
use Rattle.columns.specs.Digits.{digits-length}
use Rattle.columns.specs.Forward.{part-laid, two-bytes}
use Rattle.columns.proofs.decimal.put_two.Goals as goal

pub returns : goal.returns
returns c =
    let e = c.copy_from_slice.ensures.after ∙ c.to_le_bytes.ensures ∙ two-bytes c.args.n _ c.requires.0 c.two_digits-w.ensures in
    rw e (part-laid c.args.out.now c.args.at 2 (digits 2 c.args.n) (digits-length 2 c.args.n))
