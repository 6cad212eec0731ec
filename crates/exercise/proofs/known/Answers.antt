-- `exercise::known` meets its contract.
use Rattle.std.proofs.Common.{eq-eqb, ne_eqb}
use Rattle.exercise.specs.Reading.{known_to}
use Rattle.exercise.proofs.known.Goals as goal

pub returns-then-edition-ne0 : goal.returns-then-edition-ne0
unfolding known_to
returns-then-edition-ne0 c = rw (ne_eqb _ _ c.if-edition-ne0.true)

pub returns-else-edition-ne0 : goal.returns-else-edition-ne0
unfolding known_to
returns-else-edition-ne0 c = rw (eq-eqb _ _ c.if-edition-ne0.false)
