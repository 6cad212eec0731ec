-- `lines::content_length` meets its contract: without a final LF the whole line is its content; with one, a CR before it comes off too.
use Rattle.std.proofs.Common.{arith, sym, ◌∙◌, ap, length, length-take-le}
use Rattle.lines.specs.Lines.{chop}
use Rattle.lines.specs.Laws.{chop-front, chop-le, content-whole, content-cut}
use Rattle.lines.proofs.content_length.Goals as goal

pub returns-then-e-n : goal.returns-then-e-n
returns-then-e-n c = sym (ap length (content-whole _ (sym c.chopped-e.ensures ∙ c.if-e-n.true)))

pub slice_bounds-chopped-end : goal.slice_bounds-chopped-end
slice_bounds-chopped-end c =
    let l = c.args.l.now in
    sym (length-take-le c.chopped-e.result l (omega (arith, chop-le 10 l)))

pub returns : goal.returns
returns c =
    let e = c.chopped-e.ensures in
    c.chopped.ensures
    ∙ ap length (ap (chop 13) (rw e (chop-front 10 _)) ∙ sym (content-cut _ (λ h. c.if-e-n.false (e ∙ h))))
