-- `sequence::next_piece` meets its contract: the smaller of the two lengths is taken.
use Rattle.std.proofs.Common.{ap}
use Rattle.lines.specs.declared.Span.{Span}
use Rattle.sequence.specs.Laws.{piece_at, capped-min}
use Rattle.sequence.proofs.next_piece.Goals as goal

pub returns : goal.returns
unfolding piece_at
returns c =
    let run = c.next_run-run in
    rw (← run.ensures) (ap {B = Span} (λ n. record { start = run.result.start; length = n }) (capped-min c.args.limit run.result.length c.min.result c.min.ensures))
