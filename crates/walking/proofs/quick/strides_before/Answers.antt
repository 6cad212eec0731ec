-- `walking::quick::strides_before` meets its contract: whatever the count that is asked for, the lines that are told are strides.
use Rattle.std.proofs.Common.{◌-◌, ◌/◌, arith}
use Rattle.walking.specs.Even.{none_passed, some-passed}
use Rattle.walking.proofs.quick.strides_before.Goals as goal

pub returns-then-all-bases : goal.returns-then-all-bases
returns-then-all-bases c =
    let p = c.requires in
    none_passed _ _ _ _ p.1 p.2 (omega arith) p.0

pub returns : goal.returns
returns c =
    rw c.lines_like_up_to.ensures (some-passed _ _ _ _ c.requires.1 c.requires.2 (omega arith) c.requires.0 ((c.args.all - 1) / c.args.bases))
