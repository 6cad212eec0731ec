-- `feeder::taking::turn` meets its contract: each part goes on from where the one before it stopped.
use Rattle.std.proofs.Common.{arith, ◌+◌, ◌^◌, eq-eqb}
use Rattle.feeder.specs.SmallLaws.{fits-small}
use Rattle.feeder.specs.Turns.{ready-turn, turn-then, turn-here}
use Rattle.feeder.proofs.taking.turn.Goals as goal

pub ready-g-requires : goal.ready-g-requires
ready-g-requires c = fits-small (2 ^ 41 + c.args.i) _ _ c.requires.2 (omega (arith, c.requires.0, c.requires.1))

pub take_whole-t-requires : goal.take_whole-t-requires
take_whole-t-requires c = (c.requires.0, c.requires.1, (ready-turn c.args.rule c.args.f c.args.table.now c.args.p.now c.args.i c.requires.0 (eq-eqb _ _ c.if-p-i-ne62.false) c.requires.2 _ _ c.ready-g.ensures).fits)

pub returns-then-i-t : goal.returns-then-i-t
returns-then-i-t c = (c.if-i-t.true, turn-then _ _ _ _ _ _ _ _ _ _ _ (ready-turn c.args.rule c.args.f c.args.table.now c.args.p.now c.args.i c.requires.0 (eq-eqb _ _ c.if-p-i-ne62.false) c.requires.2 _ _ c.ready-g.ensures) (c.take_whole-t.ensures.turn c.args.rule))

pub take_line-requires-2 : goal.take_line-requires-2
take_line-requires-2 c = (c.requires.0, c.requires.1, (turn-here _ _ _ _ _ _ _ _ (omega (arith, c.take_whole-t.ensures.on, c.if-i-t.false)) (c.take_whole-t.ensures.turn c.args.rule)).fits)

pub returns : goal.returns
returns c = (c.take_line-2.ensures.0, turn-then _ _ _ _ _ _ _ _ _ _ _ (turn-then _ _ _ _ _ _ _ _ _ _ _ (ready-turn c.args.rule c.args.f c.args.table.now c.args.p.now c.args.i c.requires.0 (eq-eqb _ _ c.if-p-i-ne62.false) c.requires.2 _ _ c.ready-g.ensures) (turn-here _ _ _ _ _ _ _ _ (omega (arith, c.take_whole-t.ensures.on, c.if-i-t.false)) (c.take_whole-t.ensures.turn c.args.rule))) c.take_line-2.ensures.1)
