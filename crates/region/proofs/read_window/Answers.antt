-- `region::read_window` meets its contract: sizes are judged first, then the window's end, then bounds and row, and of a row `read_region`
-- reads the region.
use Rattle.std.proofs.Common.{◌+◌, ◌≡◌, sym, ◌∙◌, false, length, ltb, Err, rules}
use Rattle.refusal.specs.Numbers.{over_limit}
use Rattle.table.specs.RowLaws.{held-of}
use Rattle.region.specs.Laws.{bounded-known}
use Rattle.region.specs.WindowLaws.{window-fits, window-long, length-long, window-past, window-none, window-row}
use Rattle.region.proofs.read_window.Goals as goal
use Rattle.region.proofs.read_window.Goals.{After-bounded_row}

pub returns-then-over_limit : goal.returns-then-over_limit
returns-then-over_limit c = window-long _ _ _ _ _ _ _ (sym c.over_limit.ensures ∙ c.if-over_limit.true)

pub returns-then-over_limit-2 : goal.returns-then-over_limit-2
returns-then-over_limit-2 c =
    length-long _ _ _ _ _ _ _ (sym c.over_limit.ensures ∙ c.if-over_limit.false) (sym c.over_limit-2.ensures ∙ c.if-over_limit-2.true)

pub returns-then-passes_end : goal.returns-then-passes_end
returns-then-passes_end c =
    window-past _ _ _ _ _ _ _ (sym c.over_limit.ensures ∙ c.if-over_limit.false) (sym c.over_limit-2.ensures ∙ c.if-over_limit-2.false) (sym c.passes_end.ensures ∙ c.if-passes_end.true)

-- the sizes are within the limit, and the window ends with the file at the latest
short : (c : After-bounded_row)
    → let a = c.args in
    (over_limit (length a.window.now) ≡ false) × (over_limit a.bytes ≡ false) × (ltb a.bytes (a.from.0 + length a.window.now) ≡ false)
short c =
    (sym c.over_limit.ensures ∙ c.if-over_limit.false, sym c.over_limit-2.ensures ∙ c.if-over_limit-2.false, sym c.passes_end.ensures ∙ c.if-passes_end.false)

pub read_region-requires : goal.read_region-requires
read_region-requires c =
    let b = bounded-known _ _ _ _ (sym c.bounded_row.ensures ∙ c.in_ok-x.was) in
    let h = held-of _ _ b.1 in
    let s = short (goal.at.read_region-requires c).After-bounded_row in
    record { line_bases_nonzero = (h.some-bases, h.some-width, b.0); from_bound = window-fits _ _ _ s.1 s.2 }

pub returns-in_err-x : goal.returns-in_err-x
returns-in_err-x c =
    let e : c.from_residual.result ≡ Err c.in_err-x.field-0.0 = search rules in
    let s = short (goal.at.returns-in_err-x c).After-bounded_row in
    rw e (window-none _ _ _ _ _ _ _ s.0 s.1 s.2 _ (sym c.bounded_row.ensures ∙ c.in_err-x.was))

pub returns : goal.returns
returns c =
    let s = short (goal.at.returns c).After-bounded_row in
    c.read_region.ensures ∙ window-row _ _ _ _ _ _ _ s.0 s.1 s.2 _ (sym c.bounded_row.ensures ∙ c.in_ok-x.was)
