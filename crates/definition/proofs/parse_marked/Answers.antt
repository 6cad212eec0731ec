-- `definition::parse_marked` meets its contract: the content is the line's front.
use Rattle.std.proofs.Common.{sym, ◌∙◌, ap, arith, length-take-le}
use Rattle.lines.specs.Laws.{content-le, content-front}
use Rattle.definition.specs.Definition.{marked_says}
use Rattle.definition.proofs.parse_marked.Goals as goal

pub slice_bounds-parse_content-end : goal.slice_bounds-parse_content-end
slice_bounds-parse_content-end c =
    let l = c.args.l.now in
    sym (length-take-le c.content_length-e.result l (omega (arith, content-le l)))

pub returns : goal.returns
returns c = c.parse_content.ensures ∙ ap (marked_says _) (rw c.content_length-e.ensures (content-front _))
