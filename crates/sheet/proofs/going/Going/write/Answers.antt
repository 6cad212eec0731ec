-- `sheet::going::Going::write` meets its contract: the start is put down, and the region is read into the part of the output that is free.
use Rattle.std.proofs.Common.{arith}
use Rattle.sheet.specs.Turns.{wrote-stops, wrote-goes, wrote-inside}
use Rattle.sheet.proofs.going.Going.write.Goals as goal

pub overflow_add-at : goal.overflow_add-at
overflow_add-at c =
    omega (arith, wrote-inside _ _ c.args.r c.args.self c.args.at c.args.out.now c.args.starts.now c.requires.2 _ _ c.read_exact.ensures _ c.in-Ok.is)

pub returns-in-Err : goal.returns-in-Err
returns-in-Err c =
    wrote-stops _ _ _ _ _ _ _ c.requires.2 _ _ c.read_exact.ensures _ c.in-Err.is _ c.refused.ensures

pub returns-in-Ok : goal.returns-in-Ok
returns-in-Ok c =
    wrote-goes _ _ _ _ _ _ _ c.requires.2 _ _ c.read_exact.ensures _ c.in-Ok.is _ c.wrote.ensures
