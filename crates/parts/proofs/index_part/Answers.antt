-- `parts::index_part` meets its contract: the size limit comes first, and then the rows are those of the file up to the part's end, from its
-- start on.
use Rattle.std.proofs.Common.{sym, ◌∙◌, arith, length-take-le}
use Rattle.parts.specs.Laws.{record-le, part_none, part-rows}
use Rattle.parts.proofs.index_part.Goals as goal

pub returns-then-over_limit : goal.returns-then-over_limit
returns-then-over_limit c = part_none _ _ _ _ _ (sym c.over_limit.ensures ∙ c.if-over_limit.true) (λ i. omega (arith, c.slice_known-1.given i))

pub slice_bounds-index_from-end : goal.slice_bounds-index_from-end
slice_bounds-index_from-end c = rw c.record_start-end.ensures (sym (length-take-le _ _ (record-le _ _)))

pub returns : goal.returns
returns c =
    part-rows _ _ _ _ _ (sym c.over_limit.ensures ∙ c.if-over_limit.false) _ _ c.record_start-start.ensures c.record_start-end.ensures _ _ c.index_from.ensures
    (λ i. omega (arith, c.slice_known-2-1.given i))
