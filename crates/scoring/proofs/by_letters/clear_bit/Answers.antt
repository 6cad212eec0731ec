-- `scoring::by_letters::clear_bit` meets its contract: key and typed are bytes.
use Rattle.std.proofs.Common.{◌<◌, ◌≡◌, refl, ◌∙◌, Bool, true, false, ◌&&◌, ltb, lt-ltb, rules}
use Rattle.letters.specs.Sets.{bit}
use Rattle.scoring.specs.Plain.{byte-bit}
use Rattle.scoring.specs.Meant.{is_clear, meant, clear}
use Rattle.scoring.proofs.by_letters.clear_bit.Goals as goal

and_both : (a b c : Bool) → b ≡ true → c ≡ true → bit a ≡ bit (a && (b && c))
and_both true b c e f = rw (e, f)
and_both false b c e f = refl

pub returns : goal.returns
unfolding clear
returns c =
    let a = c.args in
    let h : a.k < 256 = search rules in
    let i : a.t < 256 = search rules in
    rw (c.is_clear.ensures, c.meant.ensures)
    (byte-bit (is_clear (meant a.k a.t)) ∙ and_both (is_clear (meant a.k a.t)) (ltb a.k 256) (ltb a.t 256) (lt-ltb a.k 256 h) (lt-ltb a.t 256 i))
