-- `columns::fields::write_text` meets its contract: two tests of size, and what is within the limit is short enough for `write_short`.
use Rattle.std.proofs.Common.{◌≡◌, sym, ◌∙◌, false, length, arith}
use Rattle.refusal.specs.Numbers.{over_limit}
use Rattle.columns.specs.Writing.{within-name, within-numbers, within_both, over-not}
use Rattle.columns.proofs.fields.write_text.Goals as goal
use Rattle.columns.proofs.fields.write_text.Goals.{Else-over_limit, Else-over_limit-2}

-- the name is within the limit, and so are the numbers
not-long : (c : Else-over_limit) → over_limit (length c.args.name.now) ≡ false
not-long c = sym c.over_limit.ensures ∙ c.if-over_limit.false

not-many : (c : Else-over_limit-2) → over_limit (length c.args.numbers.now) ≡ false
not-many c = sym c.over_limit-2.ensures ∙ c.if-over_limit-2.false

pub returns-then-over_limit : goal.returns-then-over_limit
returns-then-over_limit c = within-name _ _ _ (sym c.over_limit.ensures ∙ c.if-over_limit.true)

pub returns-then-over_limit-2 : goal.returns-then-over_limit-2
returns-then-over_limit-2 c =
    within-numbers _ _ _ (not-long (goal.at.returns-then-over_limit-2 c).Else-over_limit) (sym c.over_limit-2.ensures ∙ c.if-over_limit-2.true)

pub write_short-requires : goal.write_short-requires
write_short-requires c = omega (arith, over-not _ (not-long (goal.at.write_short-requires c).Else-over_limit), over-not _ (not-many (goal.at.write_short-requires c).Else-over_limit-2))

pub returns : goal.returns
returns c =
    c.write_short.ensures ∙ within_both _ _ _ (not-long (goal.at.returns c).Else-over_limit) (not-many (goal.at.returns c).Else-over_limit-2)
