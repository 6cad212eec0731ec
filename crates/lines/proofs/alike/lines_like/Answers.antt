-- `lines::alike::lines_like` meets its contract: a sequence is the lines up to a '>', and has no more lines than the file has bytes.
use Rattle.std.proofs.Common.{◌∙◌, ap}
use Rattle.lines.specs.Alike.{alike}
use Rattle.lines.specs.UpTo.{up-to-all, up-to-sequence}
use Rattle.lines.proofs.alike.lines_like.Goals as goal

pub returns-then-may_be_many : goal.returns-then-may_be_many
returns-then-may_be_many c =
    let a = c.args in
    c.lines_at_once.ensures ∙ ap (alike a.like) (up-to-all a.s.now 62 a.at ∙ up-to-sequence a.s.now a.at)

pub returns : goal.returns
returns c =
    let a = c.args in
    c.lines_one_by_one.ensures ∙ ap (alike a.like) (up-to-all a.s.now 62 a.at ∙ up-to-sequence a.s.now a.at)
