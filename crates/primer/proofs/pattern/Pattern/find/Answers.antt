-- `primer::pattern::Pattern::find`: before each block the state is that of the bytes passed, and the primer has not ended among them.
use Rattle.std.proofs.Common.{◌+◌, ◌*◌, ◌≡◌, arith}
use Rattle.primer.specs.Live.{begins}
use Rattle.primer.proofs.pattern.Pattern.find.Goals as goal

pub loop-b-init : goal.loop-b-init
loop-b-init c = begins _ _ _ c.args.self.now.some c.args.self.now.fewer c.args.self.now.fits

pub run16-next-requires : goal.run16-next-requires
run16-next-requires c = (c.loop-b.invariant.0, c.loop-b.invariant.1, omega arith)

pub find_from-requires : goal.find_from-requires
find_from-requires c = c.loop-b.invariant

pub loop-b-preserved : goal.loop-b-preserved
loop-b-preserved c =
    let e = c.run16-next.ensures in
    let q : 16 * (c.loop-b.b + 1) ≡ 16 * c.loop-b.b + 16 = omega arith in
    rw q
    (record { letters = c.loop-b.invariant.0.letters; fewer = c.loop-b.invariant.0.fewer; within = omega arith; masks = c.loop-b.invariant.0.masks; state = e.0 }, e.1 (omega arith))
