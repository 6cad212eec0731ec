-- `feeder::taking::take_line` meets its contract: a line behind what waits, and then a pass over the lines that are like it.
use Rattle.std.proofs.Common.{◌+◌, ◌^◌, arith}
use Rattle.lines.specs.Laws.{line_end-le, line_end-gt}
use Rattle.feeder.specs.SmallLaws.{fits-small}
use Rattle.feeder.specs.Passing.{turn-line, turn-passed}
use Rattle.feeder.proofs.taking.take_line.Goals as goal

pub absorb-g-requires : goal.absorb-g-requires
absorb-g-requires c = let s = fits-small (2 ^ 41 + c.args.i) _ _ c.requires.2 (omega (arith, c.requires.0, c.requires.1)) in (omega (arith, c.line_end-e.ensures, line_end-gt c.args.p.now c.args.i c.requires.0), omega (arith, c.line_end-e.ensures, line_end-le c.args.p.now c.args.i (omega (arith, c.requires.0))), omega (arith, c.requires.1), s.0, s.1, s.2)

pub pass_alike-requires : goal.pass_alike-requires
pass_alike-requires c = let d = turn-line _ _ _ _ _ _ _ _ c.requires.0 c.line_end-e.ensures c.requires.2 c.absorb-g.ensures in (d.within, c.requires.1, d.fits)

pub returns : goal.returns
returns c = (omega (arith, c.line_end-e.ensures, line_end-gt c.args.p.now c.args.i c.requires.0, c.pass_alike.ensures.on), turn-passed _ _ _ _ _ _ _ _ _ _ (turn-line _ _ _ _ _ _ _ _ c.requires.0 c.line_end-e.ensures c.requires.2 c.absorb-g.ensures) c.pass_alike.ensures)
