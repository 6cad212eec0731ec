-- `complement::write_all` meets its contract: no refusal stands against bytes that are all of a kind, and all are written.
use Rattle.std.proofs.Common.{sym}
use Rattle.complement.specs.Laws.{length-in_order, poured-given}
use Rattle.complement.specs.KindLaws.{all-judged}
use Rattle.complement.proofs.write_all.Goals as goal

pub returns : goal.returns
returns g c = rw (all-judged _ g.O.Order.reversed _ c.requires.1) (poured-given _ _ _ _ (sym (length-in_order _ _)) c.write.ensures)
