-- `columns::fields::put_front` meets its contract: a copy of all bytes, which have room, to the front.
use Rattle.std.proofs.Common.{◌∙◌, length, arith}
use Rattle.copying.specs.Laws.{copy-whole}
use Rattle.columns.specs.Bytes.{overlaid-paste}
use Rattle.columns.proofs.fields.put_front.Goals as goal

pub returns : goal.returns
returns c =
    let a = c.args in
    c.copy_run.ensures ∙ copy-whole a.out.now 0 a.s.now 0 (length a.s.now) (omega arith) (omega arith) ∙ overlaid-paste a.out.now 0 a.s.now
