-- `scoring::open_in` meets its contract: part by part, and then by slices.
use Rattle.std.proofs.Common.{◌+◌, ◌-◌, ◌≡◌, arith, rules}
use Rattle.scoring.specs.Rules.{lies}
use Rattle.scoring.specs.Counting.{Counted, agrees, counted_none, counted-join}
use Rattle.scoring.proofs.open_in.Goals as goal
use Rattle.scoring.proofs.open_in.Goals.{After-in_blocks, After-struct_known-in-loop-j-1}

-- a part more
part : (c : After-struct_known-in-loop-j-1)
    → Counted (agrees lies c.args.places.now.key.now c.args.places.now.typed.now) c.args.at (c.loop-j.j + c.open_part-look.result.places) (c.loop-j.right + c.open_part-look.result.right)
part c = counted-join _ _ _ _ _ _ c.loop-j.invariant.1 c.open_part-look.ensures.1

-- the slices behind the parts
behind : (c : After-in_blocks)
    → Counted (agrees lies c.args.places.now.key.now c.args.places.now.typed.now) c.args.at (c.loop-j.j + c.min-m.result) (c.loop-j.right + c.in_blocks.result)
behind c = counted-join _ _ _ _ _ _ c.loop-j.invariant.1 c.in_blocks.ensures

pub loop-j-init : goal.loop-j-init
loop-j-init c = (search rules, counted_none _ _)

pub open_part-look-requires : goal.open_part-look-requires
open_part-look-requires c = (omega arith, omega arith)

pub overflow_add-result-then-look-eq0 : goal.overflow_add-result-then-look-eq0
overflow_add-result-then-look-eq0 c = let w = behind (goal.at.overflow_add-result-then-look-eq0 c).After-in_blocks in omega (arith, w.most)

pub returns-then-look-eq0 : goal.returns-then-look-eq0
returns-then-look-eq0 c = (omega arith, λ h. omega arith, behind (goal.at.returns-then-look-eq0 c).After-in_blocks)

pub overflow_add-right : goal.overflow_add-right
overflow_add-right c = let w = part (goal.at.overflow_add-right c).After-struct_known-in-loop-j-1 in omega (arith, w.most, c.open_part-look.ensures.0)

pub loop-j-preserved : goal.loop-j-preserved
loop-j-preserved c = (omega (arith, c.open_part-look.ensures.0), part (goal.at.loop-j-preserved c).After-struct_known-in-loop-j-1)

pub overflow_add-result-2 : goal.overflow_add-result-2
overflow_add-result-2 c = let w = counted-join _ _ _ _ _ _ c.loop-j.invariant.1 c.in_blocks-2.ensures in omega (arith, w.most)

pub returns : goal.returns
returns c =
    let q : c.loop-j.j + (c.args.n - c.loop-j.j) ≡ c.args.n = omega arith in
    (omega arith, λ h. h, rw q at (counted-join _ _ _ _ _ _ c.loop-j.invariant.1 c.in_blocks-2.ensures))
