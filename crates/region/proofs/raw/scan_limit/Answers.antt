-- `region::raw::scan_limit` meets its contract: a given end is not before the first base, so the count is a difference and 1.
use Rattle.std.proofs.Common.{◌≤◌, arith}
use Rattle.region.specs.Region.{end_of}
use Rattle.region.specs.Laws.{limit_of}
use Rattle.region.proofs.raw.scan_limit.Goals as goal

pub overflow_sub-result : goal.overflow_sub-result
overflow_sub-result c =
    let h : c.args.first.0 ≤ c.in-Some.last.0 = unfold end_of in rw c.in-Some.is at c.requires.1 in
    omega arith

pub returns : goal.returns
unfolding limit_of
returns c = rw c.in-Some.is

pub returns-in_default : goal.returns-in_default
unfolding limit_of
returns-in_default c = rw c.in_default.is
