-- `feeder::taking::absorb_lines` meets its contract: what the piece from `i` on still leaves is what it leaves from the start.
use Rattle.std.proofs.Common.{◌<◌, refl, ◌∙◌, arith, length}
use Rattle.feeder.specs.CodeLaws.{feed-start, feed-done}
use Rattle.feeder.specs.Passing.{feed-turn}
use Rattle.feeder.proofs.taking.absorb_lines.Goals as goal

pub loop-i-init : goal.loop-i-init
loop-i-init c = (refl, omega arith, c.requires.1, feed-start _ _ _ _)

pub turn-t-requires : goal.turn-t-requires
turn-t-requires c = let p = c.args.p.now in let h : c.loop-i.i < length p = omega arith in (h, c.requires.0, c.loop-i.invariant.2)

pub loop-i-smaller : goal.loop-i-smaller
loop-i-smaller c = let p = c.args.p.now in let h : c.loop-i.i < length p = omega arith in omega (arith, h, c.turn-t.ensures.0)

pub loop-i-preserved : goal.loop-i-preserved
loop-i-preserved c = (c.turn-t.auto.table ∙ c.loop-i.invariant.0, c.turn-t.ensures.1.within, c.turn-t.ensures.1.fits, feed-turn _ _ _ _ _ _ _ _ _ _ c.loop-i.invariant.3 c.turn-t.ensures.1)

pub shape_of-table : goal.shape_of-table
shape_of-table c = c.loop-i.invariant.0

pub returns : goal.returns
returns c = feed-done _ _ _ _ _ _ _ c.loop-i.invariant.3 (omega arith)
