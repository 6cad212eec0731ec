-- `region::needed_bytes` meets its contract: the stated length is judged first, then bounds and row, and `needed_region` gives the part of a
-- row.
use Rattle.std.proofs.Common.{◌≡◌, sym, ◌∙◌, false, Err, rules}
use Rattle.refusal.specs.Numbers.{over_limit}
use Rattle.table.specs.RowLaws.{held-of}
use Rattle.region.specs.Laws.{bounded-known}
use Rattle.region.specs.WindowLaws.{needed-long, needed-none, needed-row, within-limit}
use Rattle.region.proofs.needed_bytes.Goals as goal
use Rattle.region.proofs.needed_bytes.Goals.{After-bounded_row}

pub returns-then-over_limit : goal.returns-then-over_limit
returns-then-over_limit c = needed-long _ _ _ _ _ (sym c.over_limit.ensures ∙ c.if-over_limit.true)

-- the length is within the limit
short : (c : After-bounded_row) → over_limit c.args.bytes ≡ false
short c = sym c.over_limit.ensures ∙ c.if-over_limit.false

pub needed_region-requires : goal.needed_region-requires
needed_region-requires c =
    let b = bounded-known _ _ _ _ (sym c.bounded_row.ensures ∙ c.in_ok-x.was) in
    let h = held-of _ _ b.1 in
    record { line_bases_nonzero = (h.some-bases, h.some-width, b.0); bytes_bound = within-limit _ (short (goal.at.needed_region-requires c).After-bounded_row) }

pub returns-in_err-x : goal.returns-in_err-x
returns-in_err-x c =
    let e : c.from_residual.result ≡ Err c.in_err-x.field-0.0 = search rules in
    rw e (needed-none _ _ _ _ _ (short (goal.at.returns-in_err-x c).After-bounded_row) _ (sym c.bounded_row.ensures ∙ c.in_err-x.was))

pub returns : goal.returns
returns c =
    c.needed_region.ensures ∙ needed-row _ _ _ _ _ (short (goal.at.returns c).After-bounded_row) _ (sym c.bounded_row.ensures ∙ c.in_ok-x.was)
