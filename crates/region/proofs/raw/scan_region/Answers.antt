-- `region::raw::scan_region` meets its contract: a first base with no offset is refused, and from any other the scan begins.
use Rattle.std.proofs.Common.{sym, ◌∙◌, arith}
use Rattle.region.specs.Region.{start_of}
use Rattle.region.specs.Laws.{good-bounds, raw-nowhere, raw-at}
use Rattle.region.proofs.raw.scan_region.Goals as goal

pub scan_from-requires : goal.scan_from-requires
scan_from-requires c =
    let b = good-bounds c.args.start c.args.end (start_of c.args.start) c.requires in
    rw c.first_base-first.ensures (b.from_one, b.in_order (omega arith))

pub returns : goal.returns
returns c =
    c.scan_from.ensures ∙ rw c.first_base-first.ensures (raw-at _ _ _ _ _ _ (rw c.first_base-first.ensures at (sym c.offset_of.ensures ∙ c.in-Some.is)))

pub returns-in_default : goal.returns-in_default
returns-in_default c =
    rw c.first_base-first.ensures (raw-nowhere _ _ _ _ _ (rw c.first_base-first.ensures at (sym c.offset_of.ensures ∙ c.in_default.is)))
