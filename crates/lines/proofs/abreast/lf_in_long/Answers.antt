-- `lines::abreast::lf_in_long` meets its contract: the four blocks are all of the bytes.
use Rattle.std.proofs.Common.{◌∙◌, arith}
use Rattle.lines.specs.Abreast.{long-clear}
use Rattle.lines.proofs.abreast.lf_in_long.Goals as goal

pub returns : goal.returns
returns c =
    let a = c.args in
    c.lf_in_four.ensures ∙ long-clear a.s.now a.at a.n (omega arith) (omega arith)
