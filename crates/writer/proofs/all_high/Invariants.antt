-- `writer::all_high` meets its contract: before each turn, where the mark is 0, none of the bytes so far is barred.
use Rattle.std.proofs.Common.{◌≡◌, false, take}
use Rattle.writer.specs.Text.{any_of, barred}
use Rattle.writer.proofs.all_high.Given as goal

abbrev pub invariant-loop-b : goal.invariant-loop-b
invariant-loop-b l = l.low ≡ 0 → any_of barred (take l.b-index l.s) ≡ false
