-- `complement::first_fault` meets its contract: no byte that it passed is bad.
use Rattle.std.proofs.Common.{sym, ◌∙◌, ap, arith, Ok}
use Rattle.complement.specs.Complement.{poured}
use Rattle.complement.specs.Laws.{passed-bad, passed-good, passed_all, length-in_order}
use Rattle.complement.specs.KindLaws.{unpaired, kind-good}
use Rattle.complement.proofs.first_fault.Goals as goal

pub returns-then-not-has : goal.returns-then-not-has
unfolding poured
returns-then-not-has g c =
    rw (passed-bad g.O.Order.reversed c.args.bases.now c.loop-i.i _ (omega arith) c.place-place.ensures c.loop-i.invariant (unpaired _ (sym c.has.ensures ∙ c.if-not-has.true)))
    c.no_complement.ensures

pub loop-i-preserved : goal.loop-i-preserved
loop-i-preserved g c =
    passed-good _ _ c.loop-i.i _ (omega arith) c.place-place.ensures c.loop-i.invariant (kind-good _ _ (sym c.has.ensures ∙ c.if-not-has.false))

pub returns : goal.returns
unfolding poured
returns g c =
    rw (passed_all g.O.Order.reversed c.args.bases.now c.loop-i.i (omega arith) c.loop-i.invariant) (ap Ok (sym (length-in_order _ c.args.bases.now)))
