-- `primer::find_next` meets its contract: past the size limit the primer is judged, and a fit one is searched for.
use Rattle.std.proofs.Common.{◌≡◌, sym, ◌∙◌, Err, rules}
use Rattle.primer.specs.Primer.{place_by, place_read}
use Rattle.primer.specs.Search.{next_of}
use Rattle.primer.specs.Laws.{judged-fit, place-primer-over, place-text-over, place-within}
use Rattle.primer.proofs.find_next.Goals as goal
use Rattle.primer.proofs.find_next.Goals.{After-judge}

pub returns-then-over_limit : goal.returns-then-over_limit
returns-then-over_limit c = place-primer-over _ _ _ (sym c.over_limit.ensures ∙ c.if-over_limit.true)

pub returns-then-over_limit-2 : goal.returns-then-over_limit-2
returns-then-over_limit-2 c = place-text-over _ _ _ (sym c.over_limit.ensures ∙ c.if-over_limit.false) (sym c.over_limit-2.ensures ∙ c.if-over_limit-2.true)

pub next-requires : goal.next-requires
next-requires c = judged-fit _ (sym c.in_ok-judge.was ∙ c.judge.ensures)

-- past both size limits
within : (c : After-judge) → let a = c.args in place_by c.judge.result (next_of a.primer.now a.text.now a.from) ≡ place_read a.primer.now a.text.now a.from
within c = place-within _ _ _ _ (sym c.over_limit.ensures ∙ c.if-over_limit.false) (sym c.over_limit-2.ensures ∙ c.if-over_limit-2.false) c.judge.ensures

pub returns : goal.returns
unfolding place_by
returns c = c.next.ensures ∙ rw c.in_ok-judge.was at (within (goal.at.returns c).After-judge)

pub returns-in_err-judge : goal.returns-in_err-judge
unfolding place_by
returns-in_err-judge c =
    let e : c.from_residual.result ≡ Err c.in_err-judge.field-0.0 = search rules in
    e ∙ rw c.in_err-judge.was at (within (goal.at.returns-in_err-judge c).After-judge)
