-- `primer::judge` meets its contract: while each letter that it passed has a code, the letters from `i` on decide.
use Rattle.std.proofs.Common.{⊎_elim, eqb-true, true≢false, ◌≡◌, sym, ◌∙◌, add-one, arith}
use Rattle.primer.specs.Primer.{letters_judged, judged}
use Rattle.primer.specs.Laws.{judged-none, judged-long, judged-letters, letter-bad, letter-good, letters-end}
use Rattle.primer.proofs.judge.Goals as goal
use Rattle.primer.proofs.judge.Goals.{At-loop-i}

pub returns-then-is_empty : goal.returns-then-is_empty
returns-then-is_empty c =
    ⊎_elim
    (λ e. judged-none _ (eqb-true _ _ (sym c.is_empty.ensures ∙ e)))
    (λ h. judged-long _ (λ e. true≢false (sym (c.is_empty.ensures ∙ rw e) ∙ h.0)) h.1) c.then-is_empty.either

-- past the first two tests the letters decide
some : (c : At-loop-i) → letters_judged 0 c.args.primer.now ≡ judged c.args.primer.now
some c = judged-letters _ (λ e. true≢false (sym (c.is_empty.ensures ∙ rw e) ∙ c.if-is_empty.false)) (omega arith)

pub set_of-requires : goal.set_of-requires
set_of-requires c = c.sets-sets.ensures

pub returns-then-set_of-eq0 : goal.returns-then-set_of-eq0
returns-then-set_of-eq0 c =
    letter-bad _ c.loop-i.i c.loop-i-test.true c.loop-i.invariant (sym c.set_of.ensures ∙ c.if-set_of-eq0.true) ∙ some (goal.at.returns-then-set_of-eq0 c).At-loop-i

pub loop-i-preserved : goal.loop-i-preserved
loop-i-preserved c =
    rw add-one (letter-good _ c.loop-i.i c.loop-i-test.true c.loop-i.invariant (λ e. c.if-set_of-eq0.false (c.set_of.ensures ∙ e)))

pub returns : goal.returns
returns c = letters-end _ c.loop-i.i c.loop-i-test.false c.loop-i.invariant ∙ some (goal.at.returns c).At-loop-i
