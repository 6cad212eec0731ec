-- `writer::put_bytes` meets its contract: a copy of all bytes, which have room.
use Rattle.std.proofs.Common.{◌∙◌, arith, length}
use Rattle.copying.specs.Laws.{copy-whole}
use Rattle.columns.specs.Bytes.{overlaid-paste}
use Rattle.writer.proofs.put_bytes.Goals as goal

pub returns : goal.returns
returns c =
    let a = c.args in
    c.copy_run.ensures ∙ copy-whole a.out.now a.at a.s.now 0 (length a.s.now) (omega arith) (omega arith) ∙ overlaid-paste a.out.now a.at a.s.now
