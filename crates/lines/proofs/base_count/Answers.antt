-- `lines::base_count` meets its contract: what is left without the LF is the line's front, and a final CR comes off that.
use Rattle.std.proofs.Common.{arith, sym, ◌∙◌, ap, length, length-take-le}
use Rattle.lines.specs.Lines.{chop}
use Rattle.lines.specs.Laws.{chop-front, chop-le}
use Rattle.lines.proofs.base_count.Goals as goal

pub slice_bounds-chopped-end : goal.slice_bounds-chopped-end
slice_bounds-chopped-end c =
    let l = c.args.l.now in
    sym (length-take-le c.chopped-t.result l (omega (arith, chop-le 10 l)))

pub returns : goal.returns
returns c = c.chopped.ensures ∙ ap length (ap (chop 13) (rw c.chopped-t.ensures (chop-front 10 _)))
