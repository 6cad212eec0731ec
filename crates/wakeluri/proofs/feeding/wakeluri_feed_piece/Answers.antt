-- `wakeluri::feeding::wakeluri_feed_piece` meets its contract: it gives what the call leaves as numbers, and the table to the byte.
use Rattle.std.proofs.Common.{arith}
use Rattle.wakeluri.specs.Feeding.{call-told}
use Rattle.wakeluri.proofs.feeding.wakeluri_feed_piece.Goals as goal

pub returns : goal.returns
returns c = call-told _ _ _ _ _ (rw c.from-f.ensures at c.piece-g.ensures) c.from.ensures (λ i. omega (arith, c.slice_known-2-1.given i))
