-- `definition::are_high` meets its contract: at each place `low` says whether one of the bytes so far is low.
use Rattle.std.proofs.Common.{◌+◌, ◌-◌, ◌≡◌, arith, drop, take}
use Rattle.definition.specs.Low.{low-none, low-more, none-low}
use Rattle.definition.proofs.are_high.Goals as goal

pub loop-b-init : goal.loop-b-init
loop-b-init g c = low-none c.args.l.now

pub loop-b-preserved : goal.loop-b-preserved
loop-b-preserved g c =
    let a = c.args in
    low-more (take (a.at + g.row.N - a.at) (drop a.at a.l.now)) c.loop-b.b-index c.loop-b.low (omega arith) c.loop-b.invariant

pub returns-clause-high : goal.returns-clause-high
returns-clause-high g c =
    let a = c.args in
    let n : a.at + g.row.N - a.at ≡ g.row.N = omega arith in
    rw (← n) (none-low (drop a.at a.l.now) (a.at + g.row.N - a.at) c.loop-b.b-index c.loop-b.low c.loop-b-test.false c.loop-b.invariant)
