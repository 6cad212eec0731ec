-- `indexer::index_rest` meets its contract: it passes the lines like the first, and the line behind them decides for all.
use Rattle.std.proofs.Common.{◌≤◌, ◌+◌, ◌*◌, ◌≡◌, refl, ◌∙◌, arith, length}
use Rattle.lines.specs.Lines.{seq_at}
use Rattle.indexer.specs.Index.{rest_says}
use Rattle.indexer.specs.Laws.{line-fits, like-passed, like-room, width-differs, turn-done, turn-bases, turn-width}
use Rattle.indexer.proofs.index_rest.Goals as goal
use Rattle.indexer.proofs.index_rest.Goals.{After-lines_like-alike, After-sequence_line-l}

-- the lines like the first end in the file, and have no more bases than bytes
room : (c : After-lines_like-alike)
    → (c.args.at + c.lines_like-alike.result * c.args.first.width ≤ length c.args.s.now)
    × (c.lines_like-alike.result * c.args.first.bases ≤ c.lines_like-alike.result * c.args.first.width)
room c = like-room _ _ _ c.requires.0 _ c.lines_like-alike.ensures c.requires.2

pub overflow_mul-i : goal.overflow_mul-i
overflow_mul-i c = omega (arith, room (goal.at.overflow_mul-i c).After-lines_like-alike)

pub overflow_add-i : goal.overflow_add-i
overflow_add-i c = omega (arith, room (goal.at.overflow_add-i c).After-lines_like-alike)

pub overflow_mul-n : goal.overflow_mul-n
overflow_mul-n c = omega (arith, room (goal.at.overflow_mul-n c).After-lines_like-alike)

pub overflow_add-n : goal.overflow_add-n
overflow_add-n c = omega (arith, room (goal.at.overflow_add-n c).After-lines_like-alike)

-- where the line behind them begins and ends, and that its bases are no more than its bytes
within : (c : After-sequence_line-l)
    → (c.args.at + c.lines_like-alike.result * c.args.first.width ≤ length c.args.s.now)
    × (c.args.at + c.lines_like-alike.result * c.args.first.width + c.sequence_line-l.result.width ≤ length c.args.s.now)
    × (c.sequence_line-l.result.bases ≤ c.sequence_line-l.result.width)
within c =
    let h = (like-room _ _ _ c.requires.0 _ c.lines_like-alike.ensures c.requires.2).0 in
    let l = line-fits _ _ h _ c.sequence_line-l.ensures in
    (h, l.0, l.1)

-- what it says with those before it is what all say
passed : (c : After-sequence_line-l)
    → rest_says c.args.first (c.args.first.bases + c.lines_like-alike.result * c.args.first.bases) (c.args.at + c.lines_like-alike.result * c.args.first.width)
    (seq_at c.args.s.now (c.args.at + c.lines_like-alike.result * c.args.first.width))
    ≡ rest_says c.args.first c.args.first.bases c.args.at (seq_at c.args.s.now c.args.at)
passed c = like-passed _ _ _ c.requires.0 _ _ _ _ c.lines_like-alike.ensures refl refl

pub overflow_add-next : goal.overflow_add-next
overflow_add-next c = omega (arith, within (goal.at.overflow_add-next c).After-sequence_line-l)

pub overflow_add-result : goal.overflow_add-result
overflow_add-result c = omega (arith, within (goal.at.overflow_add-result c).After-sequence_line-l, room (goal.at.overflow_add-result c).After-lines_like-alike)

pub returns-then-fits : goal.returns-then-fits
returns-then-fits c =
    turn-done _ _ _ _ _ (within (goal.at.returns-then-fits c).After-sequence_line-l).0 c.sequence_line-l.ensures _ _ c.sequence_ends.ensures c.fits.ensures c.if-fits.true ∙ passed (goal.at.returns-then-fits c).After-sequence_line-l

pub returns-then-l-first : goal.returns-then-l-first
returns-then-l-first c =
    turn-bases _ _ _ _ _ (within (goal.at.returns-then-l-first c).After-sequence_line-l).0 c.sequence_line-l.ensures _ _ c.sequence_ends.ensures c.fits.ensures c.if-fits.false c.if-l-first.true ∙ passed (goal.at.returns-then-l-first c).After-sequence_line-l

pub returns : goal.returns
returns c =
    turn-width _ _ _ _ _ (within (goal.at.returns c).After-sequence_line-l).0 c.sequence_line-l.ensures _ _ c.sequence_ends.ensures c.fits.ensures c.if-fits.false c.if-l-first.false
    (width-differs _ _ _ c.requires.0 _ _ _ _ _ c.lines_like-alike.ensures refl c.sequence_line-l.ensures c.sequence_ends.ensures c.fits.ensures c.requires.1 c.if-fits.false c.if-l-first.false) ∙ passed (goal.at.returns c).After-sequence_line-l
