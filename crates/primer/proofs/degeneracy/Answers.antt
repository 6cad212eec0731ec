-- `primer::degeneracy` meets its contract: past the size limit the primer is judged, and a fit one's sequences are counted.
use Rattle.std.proofs.Common.{◌≡◌, sym, ◌∙◌, Err, rules}
use Rattle.primer.specs.Primer.{degeneracy_by}
use Rattle.primer.specs.Laws.{judged-fit, degeneracy-over, degeneracy-within}
use Rattle.primer.proofs.degeneracy.Goals as goal

pub returns-then-over_limit : goal.returns-then-over_limit
returns-then-over_limit c = degeneracy-over _ (sym c.over_limit.ensures ∙ c.if-over_limit.true)

pub count_sequences-requires : goal.count_sequences-requires
count_sequences-requires c = (judged-fit _ (sym c.in_ok-judge.was ∙ c.judge.ensures)).1

pub returns : goal.returns
unfolding degeneracy_by
returns c =
    rw c.count_sequences.ensures (degeneracy-within _ _ (sym c.over_limit.ensures ∙ c.if-over_limit.false) (sym c.in_ok-judge.was ∙ c.judge.ensures))

pub returns-in_err-judge : goal.returns-in_err-judge
unfolding degeneracy_by
returns-in_err-judge c =
    let e : c.from_residual.result ≡ Err c.in_err-judge.field-0.0 = search rules in
    e ∙ degeneracy-within _ _ (sym c.over_limit.ensures ∙ c.if-over_limit.false) (sym c.in_err-judge.was ∙ c.judge.ensures)
