-- `letters::sets` meets its contract: its 256 entries are computed, one after the other, and each is the set of its place.
use Rattle.std.proofs.Common.{refl}
use Rattle.letters.specs.Letters.{set_of}
use Rattle.letters.specs.Table.{is-table}
use Rattle.letters.proofs.sets.Goals as goal

pub returns : goal.returns
unfolding set_of
returns c = is-table _ _ refl tt
