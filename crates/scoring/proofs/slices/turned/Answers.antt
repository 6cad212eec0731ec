-- `scoring::slices::turned` meets its contract: each bit is followed through three swaps.
use Rattle.scoring.specs.Turning.{turn-planes}
use Rattle.scoring.proofs.slices.turned.Goals as goal

pub returns : goal.returns
returns c =
    turn-planes _ _ _ _ _ _ _ _ _ _ _ _ _ _ _ _ _ _ _ _ _ _ _ _ _ _ _ _ _ _ _ _
    c.swap-a.ensures
    c.swap-b.ensures
    c.swap-c.ensures
    c.swap-d.ensures
    c.swap-e.ensures
    c.swap-f.ensures
    c.swap-g.ensures
    c.swap-h.ensures
    c.swap-i.ensures
    c.swap-j.ensures
    c.swap-k.ensures
    c.swap-l.ensures
