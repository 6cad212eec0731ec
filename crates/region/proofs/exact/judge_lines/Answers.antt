-- `region::exact::judge_lines` meets its contract: place is judged as the definition judges it, and the first base's offset fits.
use Rattle.std.proofs.Common.{arith}
use Rattle.region.specs.Copy.{starts-fits}
use Rattle.region.specs.Judge.{in_line, places-outside, places-inside}
use Rattle.region.proofs.exact.judge_lines.Goals as goal

pub returns-then-inside-n : goal.returns-then-inside-n
returns-then-inside-n c = places-outside _ _ _ _ _ c.count_inside-inside.ensures c.if-inside-n.true

pub offset_in-requires : goal.offset_in-requires
offset_in-requires c =
    (c.requires.addressable.some-bases, c.requires.addressable.some-width, c.requires.addressable.from_one, omega (arith, starts-fits c.args.bytes _ _ _ c.requires.addressable (omega (arith, c.count_inside-inside.ensures, c.if-inside-n.false))))

pub returns : goal.returns
unfolding in_line
returns c =
    places-inside _ _ _ _ _ c.count_inside-inside.ensures c.if-inside-n.false _ _ c.offset_in.ensures c.requires.run_value
