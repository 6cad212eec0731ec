-- `wakeluri::rows::bound` meets its contract: by its flag.
use Rattle.std.proofs.Common.{eq-eqb, ne_eqb}
use Rattle.wakeluri.specs.Answer.{bound_of}
use Rattle.wakeluri.proofs.rows.bound.Goals as goal

pub returns-then-flag-eq0 : goal.returns-then-flag-eq0
unfolding bound_of
returns-then-flag-eq0 c = rw (eq-eqb _ _ c.if-flag-eq0.true)

pub returns : goal.returns
unfolding bound_of
returns c = rw (ne_eqb _ _ c.if-flag-eq0.false)
