-- `region::bounded_row` meets its contract: bad bounds are refused before the row is judged.
use Rattle.std.proofs.Common.{sym, ◌∙◌}
use Rattle.region.specs.Region.{bounded_row}
use Rattle.region.proofs.bounded_row.Goals as goal

pub returns-then-bad_bounds : goal.returns-then-bad_bounds
unfolding bounded_row
returns-then-bad_bounds c = rw (sym c.bad_bounds.ensures ∙ c.if-bad_bounds.true)

pub returns : goal.returns
unfolding bounded_row
returns c = c.held.ensures ∙ rw (sym c.bad_bounds.ensures ∙ c.if-bad_bounds.false)
