-- `primer::pattern::Pattern::run16`: it keeps the bits of all states on the way, so that one test shows whether any had the highest.
use Rattle.std.proofs.Common.{◌<◌, ◌+◌, ◌*◌, ◌≡◌, add-zero, arith, bit_and, length, get_or}
use Rattle.primer.specs.Live.{small, reading, onward, or_left, or_right}
use Rattle.primer.proofs.pattern.Pattern.run16.Goals as goal
use Rattle.primer.proofs.pattern.Pattern.run16.Goals.{After-shared_slice_known-1}

pub loop-k-init : goal.loop-k-init
loop-k-init c = (rw (add-zero c.args.at) c.requires.0, λ s. rw (add-zero c.args.at) c.requires.1)

byte : (c : After-shared_slice_known-1) → get_or c.args.text.now (c.args.at + c.loop-k.k) 0 < 256
byte c = omega (arith, c.shared_slice_known-1.given (c.args.at + c.loop-k.k))

pub overflow_mul-state : goal.overflow_mul-state
overflow_mul-state c = omega (arith, small _ _ _ _ _ c.loop-k.invariant.0)

pub overflow_add-state : goal.overflow_add-state
overflow_add-state c = omega (arith, small _ _ _ _ _ c.loop-k.invariant.0)

pub overflow_cast-state : goal.overflow_cast-state
overflow_cast-state c = omega (arith, byte (goal.at.overflow_cast-state c).After-shared_slice_known-1)

pub offset_bounds-self-text : goal.offset_bounds-self-text
offset_bounds-self-text c = omega (arith, byte (goal.at.offset_bounds-self-text c).After-shared_slice_known-1)

pub bounds-self-text : goal.bounds-self-text
bounds-self-text c = byte (goal.at.bounds-self-text c).After-shared_slice_known-1

pub loop-k-preserved : goal.loop-k-preserved
loop-k-preserved c =
    let at = c.args.at in
    let q : at + (c.loop-k.k + 1) ≡ at + c.loop-k.k + 1 = omega arith in
    let r : at + c.loop-k.k < length c.args.text.now = omega arith in
    let b = byte (goal.at.loop-k-preserved c).After-shared_slice_known-1 in
    let next = bit_and (c.loop-k.state * 2 + 1) (get_or c.args.self.now.masks (get_or c.args.text.now (at + c.loop-k.k) 0) 0) in
    (rw q (reading _ _ _ _ _ c.loop-k.invariant.0 r b), λ s. rw q (onward _ _ _ _ _ c.loop-k.invariant.0 r b (c.loop-k.invariant.1 (omega (arith, s, or_left c.loop-k.seen next))) (omega (arith, s, or_right c.loop-k.seen next))))

pub returns : goal.returns
returns c =
    let q : c.loop-k.k ≡ 16 = omega arith in
    ((rw q at c.loop-k.invariant.0).state, λ s. rw q at (c.loop-k.invariant.1 s))
