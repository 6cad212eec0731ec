-- `exercise::put_text` meets its contract: five pieces, each behind the one before.
use Rattle.std.proofs.Common.{◌≡◌, ◌%◌, ◌/◌, arith, length}
use Rattle.exercise.specs.Writing.{text-put}
use Rattle.exercise.proofs.put_text.Goals as goal

pub returns : goal.returns
returns c =
    let a = c.args in
    let high : length a.name.now / 256 % 256 ≡ length a.name.now / 256 = omega arith in
    text-put a.name.now a.start a.end a.edition a.out.now _ _ _ _ _ c.requires.1 (rw (c.to_be_bytes.ensures, high) at c.copy_run.ensures) c.copy_run-2.ensures c.put_number.ensures c.put_number-2.ensures c.copy_run-3.ensures
