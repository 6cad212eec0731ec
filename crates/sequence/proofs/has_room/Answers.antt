-- `sequence::has_room` meets its contract: a scan never gives more than it is asked for.
use Rattle.std.proofs.Common.{sym, ◌∙◌, le-leb, arith, length}
use Rattle.sequence.specs.Scan.{scan_at}
use Rattle.sequence.specs.Laws.{scan-most}
use Rattle.sequence.proofs.has_room.Goals as goal

pub returns-then-limit-room : goal.returns-then-limit-room
returns-then-limit-room c =
    let a = c.args in
    le-leb _ _ c.if-limit-room.true ∙ sym (le-leb (length (scan_at a.s.now a.limit a.at).bases) a.room (omega (arith, scan-most a.s.now a.limit a.at)))
