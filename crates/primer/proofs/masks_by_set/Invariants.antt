-- `primer::masks_by_set`: the masks of the sets passed are right.
use Rattle.std.proofs.Common.{ℕ, ◌<◌, ◌≡◌, length, get_or}
use Rattle.primer.specs.Live.{mask_by}
use Rattle.primer.proofs.masks_by_set.Given as goal

abbrev pub invariant-loop-t : goal.invariant-loop-t
invariant-loop-t l = (length l.masks ≡ 16) × ((k : ℕ) → k < l.t → get_or l.masks k 0 ≡ mask_by l.primer k)
