-- `region::raw::scan_from` meets its contract: what the scan leaves is what a raw read leaves, without the place.
use Rattle.std.proofs.Common.{◌≡◌, Err, rules}
use Rattle.output.specs.Outcome.{leaves, pours}
use Rattle.region.specs.Raw.{scan_to}
use Rattle.region.specs.Laws.{region_read, scan-read}
use Rattle.region.proofs.raw.scan_from.Goals as goal
use Rattle.region.proofs.raw.scan_from.Goals.{After-scan_into}

-- the scan's answer and output are the read's
scanned : (c : After-scan_into) → let a = c.args in
    leaves (region_read c.scan_into.result) c.scan_into.new.out ≡ pours (scan_to a.file.now a.at.0 a.first.0 a.end).bases a.out.now
scanned c =
    let a = c.args in
    scan-read a.file.now a.at.0 a.first.0 a.end _ _ _ (rw c.scan_limit-limit.ensures at c.scan_into.ensures)

pub returns-in_err-count : goal.returns-in_err-count
returns-in_err-count c =
    let e : c.from_residual.result ≡ Err c.in_err-count.field-0.0 = search rules in
    rw e (rw c.in_err-count.was at (scanned (goal.at.returns-in_err-count c).After-scan_into))

pub returns : goal.returns
returns c = rw c.in_ok-count.was at (scanned (goal.at.returns c).After-scan_into)
