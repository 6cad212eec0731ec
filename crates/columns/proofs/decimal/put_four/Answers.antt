-- `columns::decimal::put_four` meets its contract: the bytes of the word are the digits.
use Rattle.std.proofs.Common.{◌∙◌}
use Rattle.columns.specs.Decimal.{digits}
use Rattle.columns.specs.Digits.{digits-length}
use Rattle.columns.specs.Forward.{part-laid, four-bytes}
use Rattle.columns.proofs.decimal.put_four.Goals as goal

pub returns : goal.returns
returns c =
    let e = c.copy_from_slice.ensures.after ∙ c.to_le_bytes.ensures ∙ four-bytes c.args.n _ c.requires.0 c.four_digits-w.ensures in
    rw e (part-laid c.args.out.now c.args.at 4 (digits 4 c.args.n) (digits-length 4 c.args.n))
