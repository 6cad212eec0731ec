-- `fitting::even_lines` meets its contract: the lines like the first, one that has no more bases, and blank lines are even.
use Rattle.std.proofs.Common.{◌+◌, ◌*◌, ◌^◌, ◌≤◌, ◌<◌, refl, arith, length}
use Rattle.fitting.specs.EvenLaws.{nothing, past-none, first_fits, like-fits, last_fits, one-even, even-said}
use Rattle.fitting.proofs.even_lines.Goals as goal
use Rattle.fitting.proofs.even_lines.Goals.{After-lines_like-alike, After-sequence_line-last, After-struct_known-2-1}

pub returns-then-first-eq0 : goal.returns-then-first-eq0
returns-then-first-eq0 c = nothing

-- the first line ends in the file
first : (c : After-struct_known-2-1)
    → (c.args.at + c.args.first.width ≤ length c.args.s.now)
    × (c.args.first.bases ≤ c.args.first.width)
first c = first_fits _ _ c.requires.0 _ c.requires.1

pub overflow_add-next : goal.overflow_add-next
overflow_add-next c = omega (arith, first (goal.at.overflow_add-next c).After-struct_known-2-1)

pub returns-then-sequence_ends : goal.returns-then-sequence_ends
returns-then-sequence_ends c =
    one-even _ _ c.requires.0 _ c.requires.1 c.if-first-eq0.false _ c.sequence_ends.ensures c.if-sequence_ends.true

-- and so do the lines like it
like : (c : After-lines_like-alike) → (c.args.at + c.args.first.width + c.lines_like-alike.result * c.args.first.width ≤ length c.args.s.now)
    × (c.lines_like-alike.result * c.args.first.bases ≤ c.lines_like-alike.result * c.args.first.width)
like c = like-fits _ _ c.requires.0 _ c.requires.1 _ c.lines_like-alike.ensures

pub overflow_mul-i : goal.overflow_mul-i
overflow_mul-i c = omega (arith, like (goal.at.overflow_mul-i c).After-lines_like-alike)

pub overflow_add-i : goal.overflow_add-i
overflow_add-i c = omega (arith, like (goal.at.overflow_add-i c).After-lines_like-alike)

pub overflow_mul-n : goal.overflow_mul-n
overflow_mul-n c = omega (arith, like (goal.at.overflow_mul-n c).After-lines_like-alike)

pub overflow_add-n : goal.overflow_add-n
overflow_add-n c = omega (arith, like (goal.at.overflow_add-n c).After-lines_like-alike, first (goal.at.overflow_add-n c).After-struct_known-2-1)

-- and the line behind them
last : (c : After-sequence_line-last) → (c.args.at + c.args.first.width + c.lines_like-alike.result * c.args.first.width + c.sequence_line-last.result.width ≤ length c.args.s.now)
    × (c.sequence_line-last.result.bases ≤ c.sequence_line-last.result.width)
last c =
    last_fits _ _ c.requires.0 _ c.requires.1 _ c.lines_like-alike.ensures _ c.sequence_line-last.ensures

-- all have no more bases than the file has bytes
small : (c : After-sequence_line-last) → c.args.first.bases + c.lines_like-alike.result * c.args.first.bases + c.sequence_line-last.result.bases < 2 ^ 64
small c =
    omega (
      arith,
      last c,
      (let like : (c.args.at + c.args.first.width + c.lines_like-alike.result * c.args.first.width ≤ length c.args.s.now)
          × (c.lines_like-alike.result * c.args.first.bases ≤ c.lines_like-alike.result * c.args.first.width) = like-fits _ _ c.requires.0 _ c.requires.1 _ c.lines_like-alike.ensures in like),
      (let first : (c.args.at + c.args.first.width ≤ length c.args.s.now)
          × (c.args.first.bases ≤ c.args.first.width) = first_fits _ _ c.requires.0 _ c.requires.1 in first),
    )

pub returns-then-first-last : goal.returns-then-first-last
returns-then-first-last c = nothing

pub overflow_add-e : goal.overflow_add-e
overflow_add-e c = omega (arith, last (goal.at.overflow_add-e c).After-sequence_line-last)

pub overflow_add-result : goal.overflow_add-result
overflow_add-result c = omega (arith, small (goal.at.overflow_add-result c).After-sequence_line-last)

pub returns-then-sequence_ends-2 : goal.returns-then-sequence_ends-2
returns-then-sequence_ends-2 c =
    even-said _ _ c.requires.0 _ c.requires.1 _ c.lines_like-alike.ensures _ c.sequence_line-last.ensures c.if-first-eq0.false (omega (arith, c.if-first-last.false)) _
    (past-none _ _ (last (goal.at.returns-then-sequence_ends-2 c).After-sequence_line-last).0 _ c.sequence_ends-2.ensures c.if-sequence_ends-2.true) refl

pub past_blank_lines-behind-requires : goal.past_blank_lines-behind-requires
past_blank_lines-behind-requires c = (last (goal.at.past_blank_lines-behind-requires c).After-sequence_line-last).0

pub returns-then-behind-ne0 : goal.returns-then-behind-ne0
returns-then-behind-ne0 c = nothing

pub overflow_add-result-2 : goal.overflow_add-result-2
overflow_add-result-2 c = omega (arith, small (goal.at.overflow_add-result-2 c).After-sequence_line-last)

pub returns : goal.returns
returns c =
    even-said _ _ c.requires.0 _ c.requires.1 _ c.lines_like-alike.ensures _ c.sequence_line-last.ensures c.if-first-eq0.false (omega (arith, c.if-first-last.false)) _
    c.past_blank_lines-behind.ensures (omega (arith, c.if-behind-ne0.false))
