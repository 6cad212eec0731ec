-- `region::read_raw` meets its contract: the size is judged first, then bounds and row, and of a row `scan_region` reads the
-- region.
use Rattle.std.proofs.Common.{◌≡◌, sym, ◌∙◌, false, length, Err, rules}
use Rattle.refusal.specs.Numbers.{over_limit}
use Rattle.region.specs.Laws.{bounded-known, raw-long, raw-refused, raw_row}
use Rattle.region.proofs.read_raw.Goals as goal
use Rattle.region.proofs.read_raw.Goals.{After-bounded_row}

pub returns-then-over_limit : goal.returns-then-over_limit
returns-then-over_limit c = raw-long _ _ _ _ _ (sym c.over_limit.ensures ∙ c.if-over_limit.true)

-- the file is within the limit
short : (c : After-bounded_row) → over_limit (length c.args.file.now) ≡ false
short c = sym c.over_limit.ensures ∙ c.if-over_limit.false

pub scan_region-requires : goal.scan_region-requires
scan_region-requires c =
    (bounded-known _ _ _ _ (sym c.bounded_row.ensures ∙ c.in_ok-x.was)).0

pub returns-in_err-x : goal.returns-in_err-x
returns-in_err-x c =
    let e : c.from_residual.result ≡ Err c.in_err-x.field-0.0 = search rules in
    rw e (raw-refused _ _ _ _ _ (short (goal.at.returns-in_err-x c).After-bounded_row) _ (sym c.bounded_row.ensures ∙ c.in_err-x.was))

pub returns : goal.returns
returns c =
    c.scan_region.ensures ∙ raw_row _ _ _ _ _ (short (goal.at.returns c).After-bounded_row) _ (sym c.bounded_row.ensures ∙ c.in_ok-x.was)
