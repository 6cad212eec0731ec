-- `columns::fields::line_at` meets its contract: the name goes up to the first tab or LF, numbers as they are written follow, and then an LF.
use Rattle.columns.specs.Standing.{line_made}
use Rattle.columns.proofs.fields.line_at.Goals as goal

pub returns : goal.returns
returns c = line_made c.args.text.now c.args.at _ _ _ c.first_split-place.ensures c.in_ok-end.ensures c.if-text-end.false c.if-text-end-ne-LF.false
