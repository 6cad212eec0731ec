-- `fastq::lines_like_first` meets its contract: where there is no sequence line, none is like the first.
use Rattle.std.proofs.Common.{sym, ◌∙◌, length}
use Rattle.fastq.specs.Passing.{none_alike}
use Rattle.fastq.proofs.lines_like_first.Goals as goal

pub returns-then-body_ends : goal.returns-then-body_ends
returns-then-body_ends c =
    let a = c.args in
    none_alike a.s.now a.first (length a.s.now) a.at (sym c.body_ends.ensures ∙ c.if-body_ends.true)
