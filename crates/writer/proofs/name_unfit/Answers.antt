-- `writer::name_unfit` meets its contract.
use Rattle.std.proofs.Common.{◌≡◌, true, false, sym, ◌∙◌, eqb, length}
use Rattle.writer.specs.Text.{name_unfit}
use Rattle.writer.proofs.name_unfit.Goals as goal

pub returns-then-is_empty : goal.returns-then-is_empty
unfolding name_unfit
returns-then-is_empty c =
    let e : eqb (length c.args.name.now) 0 ≡ true = sym c.is_empty.ensures ∙ c.if-is_empty.true in
    rw (c.if-is_empty.true, e)

pub returns-else-is_empty : goal.returns-else-is_empty
unfolding name_unfit
returns-else-is_empty c =
    let e : eqb (length c.args.name.now) 0 ≡ false = sym c.is_empty.ensures ∙ c.if-is_empty.false in
    rw e c.any_space.ensures
