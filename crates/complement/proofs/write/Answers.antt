-- `complement::write` meets its contract: before each turn of either loop the complements of the first `i` bases are written.
use Rattle.std.proofs.Common.{arith, map}
use Rattle.letters.specs.Letters.{partner}
use Rattle.complement.specs.Kinds.{in_order}
use Rattle.complement.specs.KindLaws.{all-at}
use Rattle.complement.specs.Laws.{length-in_order, place-within, written-none, written-more, written_all}
use Rattle.complement.proofs.write.Goals as goal

pub loop-i-init : goal.loop-i-init
loop-i-init g c = written-none (in_order g.O.Order.reversed (map partner c.args.bases.now)) c.args.out.now

pub partner-requires : goal.partner-requires
partner-requires g c = all-at _ _ _ (place-within g.O.Order.reversed _ c.loop-i.i _ (omega arith) c.place.ensures) c.requires.1

pub loop-i-preserved : goal.loop-i-preserved
loop-i-preserved g c =
    written-more g.O.Order.reversed _ c.loop-i.i _ (omega arith) c.place.ensures _ _ _ c.partner.ensures c.requires.0 c.loop-i.invariant

pub loop-i-2-preserved : goal.loop-i-2-preserved
loop-i-2-preserved g c =
    written-more g.O.Order.reversed _ c.loop-i-2.i _ (omega arith) c.place-in-loop-i-2.ensures _ _ _ c.of.ensures c.requires.0 c.loop-i-2.invariant

pub returns : goal.returns
returns g c = written_all _ _ _ c.loop-i-2.i (rw length-in_order (omega arith)) c.loop-i-2.invariant
