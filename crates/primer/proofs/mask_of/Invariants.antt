-- `primer::mask_of`: from the last letter to the first, a mask is twice the one before and one bit more.
use Rattle.std.proofs.Common.{◌≡◌, drop}
use Rattle.primer.specs.Live.{mask_by}
use Rattle.primer.proofs.mask_of.Given as goal

abbrev pub invariant-loop-j : goal.invariant-loop-j
invariant-loop-j l = l.mask ≡ mask_by (drop l.j l.primer) l.set
