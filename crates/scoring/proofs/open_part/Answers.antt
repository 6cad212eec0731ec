-- `scoring::open_part` meets its contract: the lanes are all places of the blocks, and each is settled or open.
use Rattle.std.proofs.Common.{◌+◌, ◌*◌, arith}
use Rattle.scoring.specs.Rules.{lies}
use Rattle.scoring.specs.Counting.{Counted, agrees, counted_none}
use Rattle.scoring.specs.Open.{hit, counted-open}
use Rattle.scoring.specs.Lanes.{lanes-most, counted-lanes, counted-total}
use Rattle.scoring.proofs.open_part.Goals as goal
use Rattle.scoring.proofs.open_part.Goals.{After-total-settled, After-walks}

-- the settled places
settled : (c : After-total-settled)
    → Counted (agrees hit c.args.places.now.key.now c.args.places.now.typed.now) c.args.at
    (32 * c.args.blocks) c.total-settled.result
settled c = counted-total _ _ _ _ _ c.lanes_in-lanes.ensures.0 c.total-settled.ensures

both : (c : After-walks)
    → Counted (agrees lies c.args.places.now.key.now c.args.places.now.typed.now) c.args.at (32 * c.args.blocks) (c.total-settled.result + c.walks.result)
both c = counted-open _ _ _ _ _ _ (let settled : Counted (agrees hit c.args.places.now.key.now c.args.places.now.typed.now) c.args.at
    (32 * c.args.blocks) c.total-settled.result = counted-total _ _ _ _ _ c.lanes_in-lanes.ensures.0 c.total-settled.ensures in settled) (counted-lanes _ _ _ _ c.walks.ensures)

pub total-settled-requires : goal.total-settled-requires
total-settled-requires c = lanes-most _ _ _ _ (omega arith) c.lanes_in-lanes.ensures.0

pub many-requires : goal.many-requires
many-requires c = let w = settled (goal.at.many-requires c).After-total-settled in omega (arith, w.most)

pub returns-then-many-gt7 : goal.returns-then-many-gt7
returns-then-many-gt7 c = (omega arith, counted_none _ _)

pub overflow_add-result : goal.overflow_add-result
overflow_add-result c = let w = both (goal.at.overflow_add-result c).After-walks in omega (arith, w.most)

pub returns : goal.returns
returns c = (omega arith, both (goal.at.returns c).After-walks)
