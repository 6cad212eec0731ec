-- `feeder::complete::place_bases` meets its contract: case by case.
use Rattle.std.proofs.Common.{arith, mod-lt}
use Rattle.feeder.specs.CodeLaws.{bases-there, bases-cross, bases-elsewhere}
use Rattle.feeder.proofs.complete.place_bases.Goals as goal

pub overflow_sub-left : goal.overflow_sub-left
overflow_sub-left c = omega (arith, mod-lt c.args.count c.requires.0)

pub returns-then-bases-left : goal.returns-then-bases-left
returns-then-bases-left c = bases-there _ _ _ _ c.requires.0 c.requires.1 c.requires.2 c.requires.4 _ c.is_place.ensures c.if-is_place.true c.if-bases-left.true

pub returns-then-is_place : goal.returns-then-is_place
returns-then-is_place c = bases-cross _ _ _ _ c.requires.0 c.requires.1 c.requires.2 c.requires.4 _ c.is_place.ensures c.if-is_place.true c.if-bases-left.false

pub returns : goal.returns
returns c = bases-elsewhere _ _ _ _ c.requires.0 c.requires.1 c.requires.2 c.requires.4 _ c.is_place.ensures c.if-is_place.false
