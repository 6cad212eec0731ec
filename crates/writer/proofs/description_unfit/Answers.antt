-- `writer::description_unfit` meets its contract.
use Rattle.std.proofs.Common.{sym, ◌∙◌, eq-eqb, ne_eqb}
use Rattle.writer.specs.Text.{description_unfit}
use Rattle.writer.proofs.description_unfit.Goals as goal

pub returns-then-told-eq0 : goal.returns-then-told-eq0
unfolding description_unfit
returns-then-told-eq0 c = rw (c.in-Some.is, eq-eqb _ _ c.if-told-eq0.true)

pub returns-then-any_lf : goal.returns-then-any_lf
unfolding description_unfit
returns-then-any_lf c = rw (c.in-Some.is, ne_eqb _ _ c.if-told-eq0.false, sym c.any_lf.ensures ∙ c.if-any_lf.true)

pub returns-then-is_space : goal.returns-then-is_space
unfolding description_unfit
returns-then-is_space c = rw (c.in-Some.is, ne_eqb _ _ c.if-told-eq0.false, sym c.any_lf.ensures ∙ c.if-any_lf.false, sym c.is_space.ensures ∙ c.if-is_space.true)

pub returns : goal.returns
unfolding description_unfit
returns c = rw (c.in-Some.is, ne_eqb _ _ c.if-told-eq0.false, sym c.any_lf.ensures ∙ c.if-any_lf.false, sym c.is_space.ensures ∙ c.if-is_space.false) c.is_space-2.ensures
