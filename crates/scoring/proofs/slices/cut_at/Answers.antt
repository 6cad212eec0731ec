-- `scoring::slices::cut_at` meets its contract: of the lanes passed, so many places are right, if all letters have a code.
use Rattle.std.proofs.Common.{◌+◌, ◌*◌, ◌≤◌, ◌≡◌, refl, sym, ap₂, ◌∙◌, arith}
use lib.Bits.{and_le_l, and_le_r}
use Rattle.scoring.specs.Rules.{lies}
use Rattle.scoring.specs.Places.{count_below}
use Rattle.scoring.specs.Counting.{agrees}
use Rattle.scoring.specs.Lanes.{sum_to, sum-next}
use Rattle.scoring.specs.Slices.{IsLane, lane-places, counted-cut}
use Rattle.scoring.proofs.slices.cut_at.Goals as goal
use Rattle.scoring.proofs.slices.cut_at.Goals.{After-lane-x}

pub loop-l-init : goal.loop-l-init
unfolding sum_to
loop-l-init c = (omega arith, omega arith, λ e. refl)

-- a lane more
lane-more : (c : After-lane-x)
    → (c.lane-x.result.right ≤ 8) × (c.lane-x.result.coded ≡ 255
    → c.lane-x.result.right ≡ count_below (λ j. agrees lies c.args.places.now.key.now c.args.places.now.typed.now
    (c.args.at + 16 * j + c.loop-l.l)) 8)
unfolding IsLane
lane-more c = (c.lane-x.ensures.0, λ e. c.lane-x.ensures.1 e ∙ lane-places _ _ _ _ _ _ c.letters_of.ensures c.letters_of-in-loop-l.ensures)

small : (c : After-lane-x) → c.lane-x.result.coded ≤ 255
small c = omega arith

pub overflow_add-right : goal.overflow_add-right
overflow_add-right c = omega (arith, (lane-more (goal.at.overflow_add-right c).After-lane-x).0, c.loop-l.invariant.0)

pub loop-l-preserved : goal.loop-l-preserved
loop-l-preserved c =
    let w = and_le_l c.loop-l.coded c.lane-x.result.coded in
    let v = and_le_r c.loop-l.coded c.lane-x.result.coded in (
      omega (arith, (lane-more (goal.at.loop-l-preserved c).After-lane-x).0, c.loop-l.invariant.0),
      omega (arith, w, c.loop-l.invariant.1),
      λ e. ap₂ ◌+◌ (c.loop-l.invariant.2 (omega (arith, w, c.loop-l.invariant.1))) ((lane-more (goal.at.loop-l-preserved c).After-lane-x).1 (omega (arith, v, small (goal.at.loop-l-preserved c).After-lane-x))) ∙ sym (sum-next _ c.loop-l.l (c.loop-l.l + 1) refl),
    )

pub returns : goal.returns
returns c e =
    let q : c.loop-l.l ≡ 16 = omega arith in
    counted-cut _ _ _ (rw q at (c.loop-l.invariant.2 e))
