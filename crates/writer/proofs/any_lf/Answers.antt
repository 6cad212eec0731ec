-- `writer::any_lf` meets its contract: the library's search is the definition's.
use Rattle.std.proofs.Common.{◌∙◌}
use Rattle.columns.specs.Bytes.{is}
use Rattle.writer.specs.Laws.{any-list}
use Rattle.writer.proofs.any_lf.Goals as goal

pub returns : goal.returns
returns c = c.contains.ensures.value ∙ any-list (is 10) c.args.s.now
