-- `scoring::score_key` meets its contract: 1 for what was typed, 33, and the counts of either edition.
use Rattle.std.proofs.Common.{◌≡◌, arith, sym, ap, ◌∙◌, eq-eqb, ne_eqb, ltb-false, ◌≤◌, length, Ok}
use Rattle.refusal.specs.Numbers.{over_limit}
use Rattle.scoring.specs.Places.{key_scored}
use Rattle.scoring.proofs.score_key.Goals as goal
use Rattle.scoring.proofs.score_key.Goals.{Else-over_limit}

-- what was typed is within the limit
typed-small : (c : Else-over_limit) → length c.args.typed.now ≤ 1099511627776
unfolding over_limit
typed-small c = ltb-false 1099511627776 _ (sym c.over_limit.ensures ∙ c.if-over_limit.false)

pub returns-then-over_limit : goal.returns-then-over_limit
unfolding key_scored
returns-then-over_limit c = rw (sym c.over_limit.ensures ∙ c.if-over_limit.true)

pub score_by-requires : goal.score_by-requires
score_by-requires c = typed-small (goal.at.score_by-requires c).Else-over_limit

pub returns-in-1 : goal.returns-in-1
unfolding key_scored
returns-in-1 c = rw (sym c.over_limit.ensures ∙ c.if-over_limit.false, eq-eqb _ _ c.in-1.is) (ap Ok c.score_by.ensures)

pub score_by-requires-in-2 : goal.score_by-requires-in-2
score_by-requires-in-2 c = typed-small (goal.at.score_by-requires-in-2 c).Else-over_limit

pub returns-in-2 : goal.returns-in-2
unfolding key_scored
returns-in-2 c = rw (sym c.over_limit.ensures ∙ c.if-over_limit.false, c.in-2.is) (ap Ok c.score_by-in-2.ensures)

pub returns-in_default : goal.returns-in_default
unfolding key_scored
returns-in_default c =
    let one : c.args.edition ≡ 1 → ⊥ = λ e. omega arith in
    let two : c.args.edition ≡ 2 → ⊥ = λ e. omega arith in
    rw (sym c.over_limit.ensures ∙ c.if-over_limit.false, ne_eqb _ _ one, ne_eqb _ _ two)
