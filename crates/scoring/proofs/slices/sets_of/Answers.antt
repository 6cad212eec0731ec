-- `scoring::slices::sets_of` meets its contract: plane i has bit i of each letter.
use Rattle.scoring.specs.Turning.{row}
use Rattle.scoring.specs.Slices.{sets-turned}
use Rattle.scoring.proofs.slices.sets_of.Goals as goal

pub returns : goal.returns
unfolding row
returns c =
    let x = c.args.x in
    sets-turned (row x.p0 x.p1 x.p2 x.p3 x.p4 x.p5 x.p6 x.p7) (row c.turned.result.p0 c.turned.result.p1 c.turned.result.p2 c.turned.result.p3 c.turned.result.p4 c.turned.result.p5 c.turned.result.p6 c.turned.result.p7) _ _ _ _ _ c.turned.ensures c.gates.ensures
