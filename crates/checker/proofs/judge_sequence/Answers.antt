-- `checker::judge_sequence` meets its contract: the length decides first, then the places that the walk found.
use Rattle.checker.specs.Steps.{judged-length, judged-there, judged-elsewhere}
use Rattle.checker.proofs.judge_sequence.Goals as goal

pub returns-then-found-x : goal.returns-then-found-x
returns-then-found-x c = judged-length _ _ _ _ _ c.walk_sequence-found.ensures c.if-found-x.true

pub returns-in-None : goal.returns-in-None
returns-in-None c = judged-there _ _ _ _ _ c.walk_sequence-found.ensures c.if-found-x.false c.in-None.is

pub returns-in-Some : goal.returns-in-Some
returns-in-Some c = judged-elsewhere _ _ _ _ _ c.walk_sequence-found.ensures c.if-found-x.false _ _ c.in-Some.is
