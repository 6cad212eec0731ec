-- `sheet::read_from` meets its contract: at every turn the state is on the way to what the sheet leaves.
use Rattle.std.proofs.Common.{◌<◌, refl, ◌∙◌, length, arith}
use Rattle.sheet.specs.Turns.{stage, Stands, stands-begun, stands-place, stands-ready, stands-next, stands-told, turned-row}
use Rattle.sheet.proofs.read_from.Given.{Over}
use Rattle.sheet.proofs.read_from.Goals as goal
use Rattle.sheet.proofs.read_from.Goals.{After-start-g, After-turn-g}

pub loop-g-init : goal.loop-g-init
loop-g-init g c = (refl, refl, stands-begun _ _ _ _ _ _ _ c.count.ensures _ c.start-g.ensures)

-- no output is so long that its room is the greatest number
small : (g : Over) (c : After-start-g g) → length c.args.out.now < 18446744073709551615
small g c = omega (arith, c.well_formed.1.1.0.1)

-- there is a region at the place
pub region-r-requires : goal.region-r-requires
region-r-requires g c = stands-place _ _ _ _ _ _ (small g (goal.at.region-r-requires g c).After-start-g) _ (omega arith) _ _ c.loop-g.invariant.2

pub turn-g-requires : goal.turn-g-requires
turn-g-requires g c = stands-ready _ _ _ _ _ _ (small g (goal.at.turn-g-requires g c).After-start-g) _ (omega arith) _ _ c.loop-g.invariant.2

-- a turn
turn : (g : Over) (c : After-turn-g g)
    → length c.args.out.now < 18446744073709551615
    → let a = c.args in
    Stands a.file.now (g.S.Source.table a.source.now) (g.S.Source.in_use a.source.now) (g.S.Source.regions a.source.now) a.out.now a.starts.now (stage c.turn-g.result c.turn-g.new.out c.turn-g.new.starts)
    × (c.turn-g.result.left < c.loop-g.g.left)
turn g c small =
    stands-next _ _ _ _ _ _ small _ (omega arith) _ _ c.loop-g.invariant.2 _ c.region-r.ensures _ (c.turn-g.ensures ∙ turned-row _ _ _ _ _ _ _ _ c.row.ensures)

pub loop-g-smaller : goal.loop-g-smaller
loop-g-smaller g c =
    (turn g (goal.at.loop-g-smaller g c).After-turn-g (small g (goal.at.loop-g-smaller g c).After-start-g)).1

pub loop-g-preserved : goal.loop-g-preserved
loop-g-preserved g c =
    (c.turn-g.auto.out ∙ c.loop-g.invariant.0, c.turn-g.auto.starts ∙ c.loop-g.invariant.1, (turn g (goal.at.loop-g-preserved g c).After-turn-g (small g (goal.at.loop-g-preserved g c).After-start-g)).0)

pub shape_of-out : goal.shape_of-out
shape_of-out g c = c.loop-g.invariant.0

pub shape_of-starts : goal.shape_of-starts
shape_of-starts g c = c.loop-g.invariant.1

pub returns : goal.returns
returns g c = rw c.told.ensures (stands-told _ _ _ _ _ _ _ _ _ (omega arith) c.loop-g.invariant.2)
