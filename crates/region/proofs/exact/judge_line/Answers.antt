-- `region::exact::judge_line` meets its contract: of bases one behind the other, those before the file's end are inside, and the first
-- begins where the file has so many bytes left.
use Rattle.std.proofs.Common.{arith}
use Rattle.region.specs.Copy.{line-stops, line-goes, line-place}
use Rattle.region.specs.Judge.{in_line, places-outside, places-inside}
use Rattle.region.proofs.exact.judge_line.Goals as goal

pub returns-then-rest-n : goal.returns-then-rest-n
returns-then-rest-n c =
    places-outside _ _ _ _ _ (line-stops c.args.bytes _ _ _ c.requires.addressable c.requires.n_bound _ c.bytes_from-rest.ensures c.if-rest-n.true) c.if-rest-n.true

pub returns : goal.returns
unfolding in_line
returns c =
    places-inside _ _ _ _ _ (line-goes c.args.bytes _ _ _ c.requires.addressable c.requires.n_bound _ c.bytes_from-rest.ensures c.if-rest-n.false) (omega arith) _ _
    (line-place c.args.bytes _ _ _ c.requires.addressable c.requires.n_bound _ c.bytes_from-rest.ensures c.if-rest-n.false) (omega (arith, c.requires.n_bound))
