-- `writer::any_listed` meets its contract: before each turn the mark says whether one of the bytes so far is no base.
use Rattle.std.proofs.Common.{◌≡◌, take}
use Rattle.writer.specs.Text.{any_of, barred}
use Rattle.writer.proofs.any_listed.Given as goal

abbrev pub invariant-loop-b : goal.invariant-loop-b
invariant-loop-b l = l.any ≡ any_of barred (take l.b-index l.s)
