-- `walking::judge_line` meets its contract: by the law of each of its four cases.
use Rattle.walking.specs.Walk.{judged-none, judged-there, judged-crosses, judged-elsewhere}
use Rattle.walking.proofs.judge_line.Goals as goal

pub returns-then-bases-eq0 : goal.returns-then-bases-eq0
returns-then-bases-eq0 c = judged-none _ _ _ _ _ c.requires.0 c.if-bases-eq0.true

pub returns-then-bases-left : goal.returns-then-bases-left
returns-then-bases-left c =
    judged-there _ _ _ _ _ c.requires.2 c.if-bases-eq0.false c.requires.0 _ c.is_next.ensures c.if-is_next.true c.if-bases-left.true

pub returns-then-is_next : goal.returns-then-is_next
returns-then-is_next c =
    judged-crosses _ _ _ _ _ c.requires.2 c.if-bases-eq0.false c.requires.0 _ c.is_next.ensures c.if-is_next.true c.if-bases-left.false

pub returns : goal.returns
returns c =
    judged-elsewhere _ _ _ _ _ c.requires.2 c.if-bases-eq0.false c.requires.0 _ c.is_next.ensures c.if-is_next.false
