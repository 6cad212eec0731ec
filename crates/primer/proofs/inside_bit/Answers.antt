-- `primer::inside_bit`: its two tests are those of the definition.
use Rattle.std.proofs.Common.{◌≡◌, refl, Bool, true, false, eq-eqb, ne_eqb}
use mir.Val.{bool_byte}
use Rattle.letters.specs.Sets.{bit, inside}
use Rattle.primer.proofs.inside_bit.Goals as goal

as_bit : (b : Bool) → bool_byte b ≡ bit b
as_bit true = refl
as_bit false = refl

pub returns-then-set-eq0 : goal.returns-then-set-eq0
unfolding inside
returns-then-set-eq0 c = rw (eq-eqb _ _ c.if-set-eq0.true)

pub returns : goal.returns
unfolding inside
returns c = rw (ne_eqb _ _ c.if-set-eq0.false) (as_bit _)
