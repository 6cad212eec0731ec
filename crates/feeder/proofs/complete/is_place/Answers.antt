-- `feeder::complete::is_place` meets its contract: case by case.
use Rattle.feeder.specs.CodeLaws.{place-before, place_short, place-between, place-there}
use Rattle.feeder.proofs.complete.is_place.Goals as goal

pub returns-then-at-n : goal.returns-then-at-n
returns-then-at-n c = place-before _ _ _ c.if-at-n.true

pub returns-then-far-column : goal.returns-then-far-column
returns-then-far-column c = place_short _ _ _ c.if-at-n.false c.if-far-column.true

pub returns-then-lines-n-ne0 : goal.returns-then-lines-n-ne0
returns-then-lines-n-ne0 c = place-between _ _ _ c.requires.1 c.if-at-n.false c.if-far-column.false c.if-lines-n-ne0.true

pub returns : goal.returns
returns c = place-there _ _ _ c.requires.1 c.if-at-n.false c.if-far-column.false c.if-lines-n-ne0.false
