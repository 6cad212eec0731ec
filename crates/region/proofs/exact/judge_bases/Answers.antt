-- `region::exact::judge_bases` meets its contract: room is judged first.
use Rattle.std.proofs.Common.{◌∙◌}
use Rattle.region.specs.Judge.{room-short, room-enough}
use Rattle.region.proofs.exact.judge_bases.Goals as goal

pub returns-then-room-needed : goal.returns-then-room-needed
returns-then-room-needed c = room-short _ _ _ _ _ c.if-room-needed.true

pub returns-then-run-n : goal.returns-then-run-n
returns-then-run-n c = c.judge_lines.ensures ∙ room-enough _ _ _ _ _ c.if-room-needed.false

pub returns : goal.returns
returns c = c.judge_line.ensures ∙ room-enough _ _ _ _ _ c.if-room-needed.false
