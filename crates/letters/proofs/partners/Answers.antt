-- `letters::partners` meets its contract: its 256 entries are computed, one after the other, and each is the complement of its place.
use Rattle.std.proofs.Common.{refl}
use Rattle.letters.specs.Letters.{partner}
use Rattle.letters.specs.Table.{is-table}
use Rattle.letters.proofs.partners.Goals as goal

pub returns : goal.returns
unfolding partner
returns c = is-table _ _ refl tt
