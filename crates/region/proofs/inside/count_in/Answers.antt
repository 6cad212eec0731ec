-- `region::inside::count_in` meets its contract: all, or as many as halving finds.
use Rattle.std.proofs.Common.{sym, ◌∙◌, leb-false}
use Rattle.region.specs.PartLaws.{count-all}
use Rattle.region.proofs.inside.count_in.Goals as goal

pub returns-then-all_in : goal.returns-then-all_in
returns-then-all_in c = let a = c.args in count-all _ _ a.x a.a.0 a.n (sym c.all_in.ensures ∙ c.if-all_in.true)

pub count_to-requires : goal.count_to-requires
count_to-requires c = record { addressable = c.requires; n_bound = leb-false _ _ (sym c.all_in.ensures ∙ c.if-all_in.false) }
