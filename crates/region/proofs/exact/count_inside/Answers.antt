-- `region::exact::count_inside` meets its contract: if offsets do not go back, and the last is in the file, all are; else
-- they are counted in the part that is the whole file.
use Rattle.std.proofs.Common.{sym, ◌∙◌, refl}
use Rattle.region.specs.Inside.{last-known, last-all}
use Rattle.region.specs.PartLaws.{part-file}
use Rattle.region.proofs.exact.count_inside.Goals as goal

pub returns-then-last_inside : goal.returns-then-last_inside
returns-then-last_inside c =
    let k = last-known _ _ _ _ (sym c.last_inside.ensures ∙ c.if-last_inside.true) in
    last-all c.args.bytes c.args.x c.args.a.0 c.args.n _ c.requires refl k.0 k.1

pub returns : goal.returns
returns c = (rw c.whole.ensures at c.count_in.ensures) ∙ sym (part-file _ _)
