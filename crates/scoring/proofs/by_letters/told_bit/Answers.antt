-- `scoring::by_letters::told_bit` meets its contract: what was typed is a byte.
use Rattle.std.proofs.Common.{◌<◌, ◌≡◌, refl, ◌∙◌, Bool, true, false, not, ◌&&◌, ltb, lt-ltb, rules}
use Rattle.letters.specs.Sets.{bit}
use Rattle.scoring.specs.Plain.{is_lone, is_uracil, told, byte-bit}
use Rattle.scoring.proofs.by_letters.told_bit.Goals as goal

and-true : (a b : Bool) → b ≡ true → bit a ≡ bit (a && b)
and-true true b e = rw e
and-true false b e = refl

pub returns : goal.returns
unfolding told
returns c =
    let a = c.args in
    let h : a.t < 256 = search rules in
    rw (c.is_lone.ensures, c.is_uracil.ensures)
    (byte-bit (is_lone a.k && not (is_uracil a.t)) ∙ and-true (is_lone a.k && not (is_uracil a.t)) (ltb a.t 256) (lt-ltb a.t 256 h))
