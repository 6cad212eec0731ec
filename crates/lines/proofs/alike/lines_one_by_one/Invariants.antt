-- `lines::alike::lines_one_by_one` meets its contract: the lines passed and those alike from the place on are all that are alike.
use Rattle.std.proofs.Common.{◌+◌, ◌-◌, ◌≤◌, ◌≡◌, length, take}
use Rattle.lines.specs.Alike.{alike}
use Rattle.lines.specs.UpTo.{up_to_at}
use Rattle.lines.proofs.alike.lines_one_by_one.Given as goal

abbrev pub invariant-loop-n : goal.invariant-loop-n
invariant-loop-n l = (l.i ≤ length l.s) × (l.n ≤ l.i) × (l.n ≤ l.most) × (l.n + alike l.like (take (l.most - l.n) (up_to_at l.s l.mark l.i)) ≡ alike l.like (take l.most (up_to_at l.s l.mark l.at)))
