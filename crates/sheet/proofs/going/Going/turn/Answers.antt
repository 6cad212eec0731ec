-- `sheet::going::Going::turn` meets its contract: by the pass.
use Rattle.std.proofs.Common.{◌∙◌}
use Rattle.sheet.specs.Turns.{ready-writes, turns_stopped, turns-judging, turns-writing}
use Rattle.sheet.proofs.going.Going.turn.Goals as goal

pub write-requires : goal.write-requires
write-requires c = ready-writes _ _ _ _ c.requires c.in-Writing.is

pub returns-in-Refused : goal.returns-in-Refused
returns-in-Refused c = turns_stopped _ _ _ _ _ _ _ c.in-Refused.is _ c.refused.ensures

pub returns-in-Judging : goal.returns-in-Judging
returns-in-Judging c = turns-judging _ _ _ _ _ _ _ c.in-Judging.is _ c.judge.ensures

pub returns-in-Writing : goal.returns-in-Writing
returns-in-Writing c =
    c.write.ensures ∙ turns-writing _ _ _ _ _ _ _ c.in-Writing.is
