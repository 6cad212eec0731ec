-- `lines::abreast::lines_by_rows` meets its contract: each run of lines that is passed is alike, and begins where the one before it ends.
use Rattle.std.proofs.Common.{◌+◌, ◌-◌, ◌*◌, ◌≤◌, ◌≡◌, length}
use Rattle.lines.specs.Abreast.{AllLike}
use Rattle.lines.proofs.abreast.lines_by_rows.Given as goal

abbrev pub invariant-loop-n : goal.invariant-loop-n
invariant-loop-n l = (l.lines ≡ 4 * l.rows) × (l.bytes ≡ 4 * l.apart) × (l.n ≤ l.most) × (l.i ≡ l.at + l.n * l.like.width) × (l.i ≤ length l.s) × AllLike l.s l.like l.mark l.n l.at

abbrev pub decreases-loop-n : goal.decreases-loop-n
decreases-loop-n l = l.most - l.n
