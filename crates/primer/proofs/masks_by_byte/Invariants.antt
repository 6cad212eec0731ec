-- `primer::masks_by_byte`: the masks of the bytes passed are right, by their sets.
use Rattle.std.proofs.Common.{ℕ, ◌<◌, ◌≡◌, length, get_or}
use Rattle.primer.specs.Live.{mask_of}
use Rattle.primer.proofs.masks_by_byte.Given as goal

abbrev pub invariant-loop-b : goal.invariant-loop-b
invariant-loop-b l = (length l.masks ≡ 256) × ((k : ℕ) → k < l.b → get_or l.masks k 0 ≡ mask_of l.primer k)
