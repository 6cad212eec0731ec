-- `fastq_checker::elsewhere::first_apart` meets its contract: two rows of bases go together as far as the shorter goes, and no further.
use Rattle.std.proofs.Common.{◌≡◌, sym, ◌∙◌, arith}
use Rattle.fastq_checker.specs.Elsewhere.{row_bases, lesser_of, lesser-min, apart_of, apart-empty, apart-start, apart-same, apart-short, apart-row}
use Rattle.fastq_checker.proofs.elsewhere.first_apart.Goals as goal
use Rattle.fastq_checker.proofs.elsewhere.first_apart.Goals.{After-min-row}

pub returns-then-x-eq0 : goal.returns-then-x-eq0
unfolding apart_of
returns-then-x-eq0 c = apart-empty _ _ _ _ _ _ _ c.if-x-eq0.true

pub returns-then-x-y : goal.returns-then-x-y
unfolding apart_of
returns-then-x-y c = apart-start _ _ _ _ _ _ _ c.if-x-eq0.false c.if-x-y.true

pub returns-then-same_lines : goal.returns-then-same_lines
unfolding apart_of
returns-then-same_lines c = apart-same _ _ _ _ _ _ _ c.if-x-eq0.false c.if-x-y.false (sym c.same_lines.ensures ∙ c.if-same_lines.true)

-- the shorter row
shorter : (c : After-min-row) → let a = c.args in
    c.min-row.result ≡ lesser_of (row_bases a.x.line_bases a.x.line_width) (row_bases a.y.line_bases a.y.line_width)
shorter c = (rw (c.row_bases-a.ensures, c.row_bases-b.ensures) at c.min-row.ensures) ∙ lesser-min _ _

pub returns-then-x-row : goal.returns-then-x-row
unfolding apart_of
returns-then-x-row c = apart-short _ _ _ _ _ _ _ c.if-x-eq0.false c.if-x-y.false (omega (arith, shorter (goal.at.returns-then-x-row c).After-min-row))

pub returns : goal.returns
unfolding apart_of
returns c = apart-row _ _ _ _ _ _ _ c.if-x-eq0.false c.if-x-y.false (sym c.same_lines.ensures ∙ c.if-same_lines.false) _ (shorter (goal.at.returns c).After-min-row) c.if-x-row.false (omega arith)
