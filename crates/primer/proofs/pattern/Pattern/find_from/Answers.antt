-- `primer::pattern::Pattern::find_from`: as in `find`, byte by byte; the highest bit says that the primer ends here.
use Rattle.std.proofs.Common.{◌≤◌, ◌<◌, ◌+◌, ◌-◌, ◌^◌, ◌≡◌, arith, length, get_or, Some}
use Rattle.primer.specs.Search.{first_of}
use Rattle.primer.specs.Live.{small, reading, onward, found, passed-all}
use Rattle.primer.proofs.pattern.Pattern.find_from.Goals as goal
use Rattle.primer.proofs.pattern.Pattern.find_from.Goals.{After-shared_slice_known-1, In-loop-i, Then-self-state}

pub loop-i-init : goal.loop-i-init
loop-i-init c = (c.requires.0, c.requires.1)

tiny : (c : In-loop-i) → c.loop-i.state < 2 ^ 31
tiny c = small _ _ _ _ _ c.loop-i.invariant.0

byte : (c : After-shared_slice_known-1) → get_or c.args.text.now c.loop-i.i 0 < 256
byte c = omega (arith, c.shared_slice_known-1.given c.loop-i.i)

hit : (c : Then-self-state) → (length c.args.self.now.primer.now ≤ c.loop-i.i + 1)
    × (Some (c.loop-i.i + 1 - length c.args.self.now.primer.now) ≡ first_of c.args.self.now.primer.now c.args.text.now)
hit c =
    found _ _ _ _ _ c.loop-i.invariant.0 c.loop-i-test.true (let byte : get_or c.args.text.now c.loop-i.i 0 < 256 = omega (arith, c.shared_slice_known-1.given c.loop-i.i) in byte) c.loop-i.invariant.1 (omega (arith, c.if-self-state.true))

pub overflow_mul-state : goal.overflow_mul-state
overflow_mul-state c = omega (arith, tiny (goal.at.overflow_mul-state c).In-loop-i)

pub overflow_add-state : goal.overflow_add-state
overflow_add-state c = omega (arith, tiny (goal.at.overflow_add-state c).In-loop-i)

pub overflow_cast-state : goal.overflow_cast-state
overflow_cast-state c = omega (arith, byte (goal.at.overflow_cast-state c).After-shared_slice_known-1)

pub offset_bounds-self-text : goal.offset_bounds-self-text
offset_bounds-self-text c = omega (arith, byte (goal.at.offset_bounds-self-text c).After-shared_slice_known-1)

pub bounds-self-text : goal.bounds-self-text
bounds-self-text c = byte (goal.at.bounds-self-text c).After-shared_slice_known-1

pub overflow_sub-result : goal.overflow_sub-result
overflow_sub-result c = (hit (goal.at.overflow_sub-result c).Then-self-state).0

pub returns-then-self-state : goal.returns-then-self-state
returns-then-self-state c = (hit (goal.at.returns-then-self-state c).Then-self-state).1

pub loop-i-preserved : goal.loop-i-preserved
loop-i-preserved c =
    let b = byte (goal.at.loop-i-preserved c).After-shared_slice_known-1 in
    (reading _ _ _ _ _ c.loop-i.invariant.0 c.loop-i-test.true b, onward _ _ _ _ _ c.loop-i.invariant.0 c.loop-i-test.true b c.loop-i.invariant.1 (omega (arith, c.if-self-state.false)))

pub returns : goal.returns
returns c =
    let a = c.args in
    let q : c.loop-i.i ≡ length a.text.now = omega (arith, c.loop-i.invariant.0.within) in
    passed-all _ _ c.loop-i.invariant.0.letters (rw q at c.loop-i.invariant.1)
