-- `scoring::lies_bit` meets its contract, by the typed byte's set.
use Rattle.std.proofs.Common.{◌≡◌, sym, ap, ◌∙◌, bit_and, eqb, get_or, rules}
use Rattle.letters.specs.Sets.{bit}
use Rattle.letters.specs.Letters.{set_of}
use Rattle.letters.specs.Table.{entry}
use Rattle.scoring.specs.RuleLaws.{lies-none, lies-set}
use Rattle.scoring.specs.Plain.{byte-bit}
use Rattle.scoring.proofs.lies_bit.Goals as goal
use Rattle.scoring.proofs.lies_bit.Goals.{Start}

typed-set : (c : Start) → get_or c.args.sets.now c.args.t 0 ≡ set_of c.args.t
typed-set c = entry _ _ c.requires c.args.t (search rules)

key_set : (c : Start) → get_or c.args.sets.now c.args.k 0 ≡ set_of c.args.k
key_set c = entry _ _ c.requires c.args.k (search rules)

pub returns-then-set-eq0 : goal.returns-then-set-eq0
returns-then-set-eq0 c = c.same_bit.ensures ∙ ap bit (lies-none _ _ (sym (typed-set (goal.at.returns-then-set-eq0 c).Start) ∙ c.if-set-eq0.true))

pub returns : goal.returns
returns c = rw (typed-set (goal.at.returns c).Start, key_set (goal.at.returns c).Start) (byte-bit (eqb (bit_and (set_of c.args.t) (set_of c.args.k)) (set_of c.args.t)) ∙ ap bit (lies-set c.args.k c.args.t (λ z. c.if-set-eq0.false (typed-set (goal.at.returns c).Start ∙ z))))
