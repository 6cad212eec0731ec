-- `walking::pass_strides` meets its contract: the strides end in the file, and the walk behind them goes on at the next line.
use Rattle.std.proofs.Common.{◌+◌, ◌*◌, ◌^◌, ◌<◌, arith}
use Rattle.walking.specs.Walk.{Onward}
use Rattle.walking.specs.Strides.{behind_strides, strides-fit, onward-strides}
use Rattle.walking.proofs.pass_strides.Goals as goal
use Rattle.walking.proofs.pass_strides.Goals.{After-strides_here-strides}

-- offsets behind the strides fit
fit : (c : After-strides_here-strides)
    → (c.args.at + c.strides_here-strides.result * c.args.layout.width < 2 ^ 64)
    × (c.args.layout.start.0 + c.strides_here-strides.result * c.args.layout.width < 2 ^ 64)
fit c = rw c.strides_here-strides.ensures (strides-fit _ _ _ _ _ (omega arith) (omega arith) (omega arith))

-- the walk goes on behind them
onward : (c : After-strides_here-strides)
    → Onward c.args.s.now c.args.at c.args.layout.start.0 c.args.layout.bases c.args.layout.width
    (c.args.at + c.strides_here-strides.result * c.args.layout.width)
    (behind_strides c.args.layout.bases c.strides_here-strides.result (c.args.layout.start.0 + c.strides_here-strides.result * c.args.layout.width))
onward c = rw c.strides_here-strides.ensures (onward-strides _ _ _ _ _ (omega arith) (omega arith) c.args.layout.some)

pub overflow_mul-bases : goal.overflow_mul-bases
overflow_mul-bases c = omega (arith, fit (goal.at.overflow_mul-bases c).After-strides_here-strides, (onward (goal.at.overflow_mul-bases c).After-strides_here-strides).fewer)

pub overflow_mul-bytes : goal.overflow_mul-bytes
overflow_mul-bytes c = omega (arith, fit (goal.at.overflow_mul-bytes c).After-strides_here-strides)

pub overflow_add-result : goal.overflow_add-result
overflow_add-result c = omega (arith, fit (goal.at.overflow_add-result c).After-strides_here-strides)

pub overflow_add-result-2 : goal.overflow_add-result-2
overflow_add-result-2 c = omega (arith, fit (goal.at.overflow_add-result-2 c).After-strides_here-strides)

pub returns : goal.returns
returns c = onward (goal.at.returns c).After-strides_here-strides
