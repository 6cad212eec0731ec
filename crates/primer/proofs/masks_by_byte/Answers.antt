-- `primer::masks_by_byte`: the masks of the bytes passed are right, by their sets.
use Rattle.std.proofs.Common.{◌<◌, ap, ◌∙◌, arith, rules, get_or, length-set}
use Rattle.letters.specs.Laws.{set-lt}
use Rattle.letters.specs.Table.{entry}
use Rattle.primer.specs.Live.{mask_by, mask_of, mask-by}
use Rattle.primer.specs.Filled.{filled}
use Rattle.primer.proofs.masks_by_byte.Goals as goal
use Rattle.primer.proofs.masks_by_byte.Goals.{In-loop-b}

pub loop-b-init : goal.loop-b-init
loop-b-init c = (search rules, λ k h. absurd (omega arith))

-- a byte's set is below 16
code_lt : (c : In-loop-b) → get_or c.sets-sets.result c.loop-b.b 0 < 16
code_lt c = omega (arith, entry _ _ c.sets-sets.ensures c.loop-b.b (omega arith), set-lt c.loop-b.b)

pub overflow_cast-masks : goal.overflow_cast-masks
overflow_cast-masks c = omega (arith, code_lt (goal.at.overflow_cast-masks c).In-loop-b)

pub offset_bounds-by_set-sets : goal.offset_bounds-by_set-sets
offset_bounds-by_set-sets c = omega (arith, code_lt (goal.at.offset_bounds-by_set-sets c).In-loop-b)

pub bounds-by_set-sets : goal.bounds-by_set-sets
bounds-by_set-sets c = code_lt (goal.at.bounds-by_set-sets c).In-loop-b

pub loop-b-preserved : goal.loop-b-preserved
loop-b-preserved c =
    let ps = c.args.primer.now in
    (simp length-set (omega arith), filled (mask_of ps) c.loop-b.masks c.loop-b.b _ (omega arith) c.loop-b.invariant.1 (c.masks_by_set-by_set.ensures _ (code_lt (goal.at.loop-b-preserved c).In-loop-b) ∙ ap (mask_by ps) (entry _ _ c.sets-sets.ensures c.loop-b.b (omega arith)) ∙ mask-by ps c.loop-b.b))

pub returns : goal.returns
returns c = λ t h. c.loop-b.invariant.1 t (omega arith)
