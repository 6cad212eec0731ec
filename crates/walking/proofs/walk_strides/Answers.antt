-- `walking::walk_strides` meets its contract: the offsets of the bases passed, and those of the lines from `i` on, are all.
use Rattle.std.proofs.Common.{◌≤◌, ◌<◌, ◌+◌, ◌≡◌, refl, sym, ◌∙◌, false, arith, length}
use Rattle.lines.specs.Lines.{seq_at, none}
use Rattle.walking.specs.Walk.{Onward, onward-line, onward-end, line-within}
use Rattle.walking.proofs.walk_strides.Goals as goal
use Rattle.walking.proofs.walk_strides.Goals.{After-base_count-bases, After-line_end-e, At-loop-layout}

pub loop-layout-init : goal.loop-layout-init
loop-layout-init c = λ p o. o

-- the walk so far
onward : (c : At-loop-layout)
    → let a = c.args in Onward a.s.now a.at a.layout.start.0 a.layout.bases a.layout.width c.loop-layout.i c.loop-layout.walk
onward c = c.loop-layout.invariant _ c.pass_strides-begun.ensures

-- there is a line at i
some : (c : After-line_end-e) → none (seq_at c.args.s.now c.loop-layout.i) ≡ false
some c = sym c.sequence_ends.ensures ∙ c.loop-layout-test.true

pub slice_bounds-base_count-end : goal.slice_bounds-base_count-end
slice_bounds-base_count-end c = omega (arith, line-within _ _ _ _ (some (goal.at.slice_bounds-base_count-end c).After-line_end-e) c.line_end-e.ensures refl)

-- it ends behind i and in the file, and its bases lie between
within : (c : After-base_count-bases)
    → (c.loop-layout.i < c.line_end-e.result)
    × (c.line_end-e.result ≤ length c.args.s.now)
    × (c.loop-layout.i + c.base_count-bases.result ≤ c.line_end-e.result)
within c = line-within _ _ _ _ (let some : none (seq_at c.args.s.now c.loop-layout.i) ≡ false = sym c.sequence_ends.ensures ∙ c.loop-layout-test.true in some) c.line_end-e.ensures c.base_count-bases.ensures

pub walk_line-walk-requires : goal.walk_line-walk-requires
walk_line-walk-requires c =
    ((onward (goal.at.walk_line-walk-requires c).At-loop-layout).walking.inside, (onward (goal.at.walk_line-walk-requires c).At-loop-layout).fewer, omega (arith, within (goal.at.walk_line-walk-requires c).After-base_count-bases))

pub loop-layout-smaller : goal.loop-layout-smaller
loop-layout-smaller c = omega (arith, within (goal.at.loop-layout-smaller c).After-base_count-bases)

pub loop-layout-preserved : goal.loop-layout-preserved
loop-layout-preserved c = λ p o.
    onward-line _ _ _ _ _ _ _ (c.loop-layout.invariant p o) _ _ _ (some (goal.at.loop-layout-preserved c).After-line_end-e) c.line_end-e.ensures c.base_count-bases.ensures c.walk_line-walk.ensures

pub returns : goal.returns
returns c = onward-end _ _ _ _ _ _ _ (onward (goal.at.returns c).At-loop-layout) (sym c.sequence_ends.ensures ∙ c.loop-layout-test.false)
