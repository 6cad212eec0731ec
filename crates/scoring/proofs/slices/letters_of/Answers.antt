-- `scoring::slices::letters_of` meets its contract: letter j is 16 j places behind the first.
use Rattle.scoring.specs.Slices.{letters-at}
use Rattle.scoring.proofs.slices.letters_of.Goals as goal

pub returns : goal.returns
returns c = let a = c.args in letters-at a.s.now a.q
