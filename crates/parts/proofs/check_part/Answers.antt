-- `parts::check_part` meets its contract: the size limits come first, and then the part is judged as the file up to its end is from its start on.
use Rattle.std.proofs.Common.{sym, ◌∙◌, length-take-le}
use Rattle.parts.specs.Laws.{line-le, record-le, part-long, part-long-index, part-judged}
use Rattle.parts.proofs.check_part.Goals as goal
use Rattle.parts.proofs.check_part.Goals.{then-over_limit-via-then-over_limit, then-over_limit-via-else-over_limit+then-over_limit-2}

pub returns-then-over_limit : goal.returns-then-over_limit
returns-then-over_limit c =
    elim c.then-over_limit.branch [
      | then-over_limit-via-then-over_limit w ↦ part-long _ _ _ _ _ _ (sym c.over_limit.ensures ∙ w.if-over_limit.true)
      | then-over_limit-via-else-over_limit+then-over_limit-2 w ↦ part-long-index _ _ _ _ _ _ (sym c.over_limit.ensures ∙ w.if-over_limit.false) (sym w.over_limit-else-over_limit.ensures ∙ w.if-over_limit-2.true)
    ]

pub slice_bounds-check_from-end : goal.slice_bounds-check_from-end
slice_bounds-check_from-end c = rw c.record_start-end.ensures (sym (length-take-le _ _ (record-le _ _)))

pub slice_bounds-check_from-end-2 : goal.slice_bounds-check_from-end-2
slice_bounds-check_from-end-2 c = rw c.line_start-behind.ensures (sym (length-take-le _ _ (line-le _ _)))

pub returns : goal.returns
returns c =
    c.check_from.ensures
    ∙ part-judged _ _ _ _ _ _ (sym c.over_limit.ensures ∙ c.if-over_limit.false) (sym c.over_limit-else-over_limit.ensures ∙ c.if-over_limit-2.false)
    _ _ _ _ c.record_start-start.ensures c.record_start-end.ensures c.line_start-line.ensures c.line_start-behind.ensures
