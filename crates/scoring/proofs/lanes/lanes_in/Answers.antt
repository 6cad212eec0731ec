-- `scoring::lanes::lanes_in` meets its contract: each turn puts a block before the others, lane by lane.
use Rattle.std.proofs.Common.{◌+◌, ◌-◌, ◌*◌, ◌≤◌, ◌<◌, ◌≡◌, refl, ap, ◌∙◌, not, ◌&&◌, bit_or, arith, rules, get_or}
use Rattle.letters.specs.Sets.{bit, bit-lt}
use Rattle.scoring.specs.Counting.{agrees}
use Rattle.scoring.specs.Open.{is_single, near, hit, is_open, hit-byte, open-byte}
use Rattle.scoring.specs.Lanes.{weigh-most, weigh-small, lanes-none, step_start, step-more, step_end}
use Rattle.scoring.proofs.lanes.lanes_in.Goals as goal
use Rattle.scoring.proofs.lanes.lanes_in.Goals.{In-loop-l}

-- what a lane has before the block
lane-right : (c : In-loop-l) → get_or c.loop-l.right c.loop-l.l 0 ≤ 7
lane-right c =
    let s = c.args in
    omega (arith, c.loop-l.invariant.0.left c.loop-l.l (omega arith) (omega arith), weigh-most (agrees hit s.places.now.key.now s.places.now.typed.now) (s.at + 32 * (c.loop-b.b - 1) + 32) (s.blocks - (c.loop-b.b - 1 + 1)) c.loop-l.l)

lane-opens : (c : In-loop-l) → get_or c.loop-l.opens c.loop-l.l 0 < 128
lane-opens c =
    let s = c.args in
    omega (arith, c.loop-l.invariant.1.left c.loop-l.l (omega arith) (omega arith), weigh-small (agrees is_open s.places.now.key.now s.places.now.typed.now) (s.at + 32 * (c.loop-b.b - 1) + 32) (s.blocks - (c.loop-b.b - 1 + 1)) c.loop-l.l (omega arith))

pub loop-b-init : goal.loop-b-init
loop-b-init c = (
  refl,
  refl,
  lanes-none _ _ _ _ _ (omega arith) tt,
  lanes-none _ _ _ _ _ (omega arith) tt,
)

pub loop-l-init : goal.loop-l-init
loop-l-init c =
    let s = c.args in
    let i = c.loop-b.invariant in
    let e : s.at + 32 * (c.loop-b.b - 1) + 32 ≡ s.at + 32 * c.loop-b.b = omega arith in
    let m : s.blocks - (c.loop-b.b - 1 + 1) ≡ s.blocks - c.loop-b.b = omega arith in
    (step_start _ _ _ _ _ i.0 (rw (e, m) i.2), step_start _ _ _ _ _ i.1 (rw (e, m) i.3))

pub loop-b-preserved : goal.loop-b-preserved
loop-b-preserved c =
    let s = c.args in
    let q : c.loop-l.l ≡ 32 = omega arith in
    let m : s.blocks - (c.loop-b.b - 1) ≡ s.blocks - (c.loop-b.b - 1 + 1) + 1 = omega arith in
    let r = rw q at c.loop-l.invariant.0 in
    let o = rw q at c.loop-l.invariant.1 in
    (r.long, o.long, rw m (step_end _ _ _ _ _ r), rw m (step_end _ _ _ _ _ o))

pub overflow_add-right : goal.overflow_add-right
overflow_add-right c =
    let s = c.args in
    let p = s.at + 32 * (c.loop-b.b - 1) + c.loop-l.l in
    let x = bit_or (get_or s.places.now.key.now p 0) 32 in
    omega (arith, lane-right (goal.at.overflow_add-right c).In-loop-l, c.hit_bit.ensures, bit-lt (is_single x && near x (get_or s.places.now.typed.now p 0)))

pub overflow_mul-opens : goal.overflow_mul-opens
overflow_mul-opens c = omega (arith, lane-opens (goal.at.overflow_mul-opens c).In-loop-l)

pub overflow_add-opens : goal.overflow_add-opens
overflow_add-opens c =
    let s = c.args in
    let p = s.at + 32 * (c.loop-b.b - 1) + c.loop-l.l in
    omega (arith, lane-opens (goal.at.overflow_add-opens c).In-loop-l, c.open_bit.ensures, bit-lt (not (is_single (bit_or (get_or s.places.now.key.now p 0) 32))))

pub loop-l-preserved : goal.loop-l-preserved
unfolding agrees
loop-l-preserved c =
    let s = c.args in
    let q = s.at + 32 * (c.loop-b.b - 1) in
    let kb : get_or s.places.now.key.now (q + c.loop-l.l) 0 < 256 = search rules in
    let tb : get_or s.places.now.typed.now (q + c.loop-l.l) 0 < 256 = search rules in
    let h : c.hit_bit.result ≡ bit (agrees hit s.places.now.key.now s.places.now.typed.now (q + c.loop-l.l)) = c.hit_bit.ensures ∙ ap bit (hit-byte (get_or s.places.now.key.now (q + c.loop-l.l) 0) (get_or s.places.now.typed.now (q + c.loop-l.l) 0) kb tb) in
    let o : c.open_bit.result ≡ bit (agrees is_open s.places.now.key.now s.places.now.typed.now (q + c.loop-l.l)) = c.open_bit.ensures ∙ ap bit (open-byte (get_or s.places.now.key.now (q + c.loop-l.l) 0) (get_or s.places.now.typed.now (q + c.loop-l.l) 0) kb tb) in (
      step-more _ 1 q _ c.loop-l.l _ c.loop-l.right c.loop-l.invariant.0 (omega arith) (omega arith),
      step-more _ 2 q _ c.loop-l.l _ c.loop-l.opens c.loop-l.invariant.1 (omega arith) (omega arith),
    )

pub returns : goal.returns
returns c =
    let s = c.args in
    let e : s.at + 32 * c.loop-b.b ≡ s.at = omega arith in
    let m : s.blocks - c.loop-b.b ≡ s.blocks = omega arith in
    let i = c.loop-b.invariant in
    (rw (e, m) at i.2, rw (e, m) at i.3)
