-- `walking::walk_line` meets its contract: a base elsewhere stays the first; otherwise the line is judged beside its stride.
use Rattle.walking.specs.Walk.{walked-elsewhere, walked-there}
use Rattle.walking.proofs.walk_line.Goals as goal

pub returns-in-Some : goal.returns-in-Some
returns-in-Some c = walked-elsewhere _ _ _ _ _ _ _ c.in-Some.is

pub returns-in-None : goal.returns-in-None
returns-in-None c =
    walked-there _ _ _ _ _ _ _ c.in-None.is c.requires.1 c.requires.2 c.args.layout.apart c.judge_line-here.ensures c.moved_on-next.ensures
