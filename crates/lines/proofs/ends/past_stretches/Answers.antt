-- `lines::ends::past_stretches` meets its contract: a stretch without an LF leaves the end of the line where it is.
use Rattle.std.proofs.Common.{◌*◌, sym, ◌∙◌, arith}
use Rattle.lines.specs.FirstLf.{end-past}
use Rattle.lines.proofs.ends.past_stretches.Goals as goal

pub loop-i-preserved : goal.loop-i-preserved
loop-i-preserved c =
    let a = c.args in
    (omega arith, end-past a.s.now c.loop-i.i (256 * a.rows) (omega arith) (sym c.lf_in_stretch.ensures ∙ c.if-lf_in_stretch.false) ∙ c.loop-i.invariant.1)
