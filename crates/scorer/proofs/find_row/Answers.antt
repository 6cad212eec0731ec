-- `scorer::find_row` meets its contract: the name is the exercise's bytes from its start on.
use Rattle.std.proofs.Common.{◌+◌, ◌-◌, ◌≡◌, arith}
use Rattle.scorer.proofs.find_row.Goals as goal

pub returns : goal.returns
returns c =
    let x = c.args.x in
    let q : x.name_start + x.name_length - x.name_start ≡ x.name_length = omega arith in
    rw q at c.find.ensures
