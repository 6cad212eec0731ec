-- `lines::abreast::rows_are_like` meets its contract: each row passed adds a line in each place, and the four runs in a row are one.
use Rattle.std.proofs.Common.{◌+◌, ◌*◌, ◌≡◌}
use Rattle.lines.specs.Abreast.{InFour, AllLike}
use Rattle.lines.proofs.abreast.rows_are_like.Given as goal

abbrev pub invariant-loop-n : goal.invariant-loop-n
invariant-loop-n l = (l.i ≡ l.at + l.n * l.like.width) × InFour (AllLike l.s l.like l.mark l.n) l.at l.apart
