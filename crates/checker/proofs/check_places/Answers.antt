-- `checker::check_places` meets its contract: what the file and the index from the place on lead to stays what they lead to from the start.
use Rattle.std.proofs.Common.{sym, ◌∙◌, arith, ◌≡◌, Err, rules}
use Rattle.checker.specs.Steps.{Moved, check-begin, check-next, check-refused, check-left, check-end}
use Rattle.checker.proofs.check_places.Goals as goal
use Rattle.checker.proofs.check_places.Goals.{In_ok-next}

pub loop-w-init : goal.loop-w-init
loop-w-init c =
    let p = c.past_good-w.ensures in
    (p.counted, p.inside, p.leads ∙ check-begin _ _ _ _)

pub returns-in_err-next : goal.returns-in_err-next
returns-in_err-next c =
    let e : c.from_residual.result ≡ Err c.in_err-next.field-0.0 = search rules in
    rw e (check-refused _ _ _ _ c.loop-w-test.true (sym c.check_record.ensures ∙ c.in_err-next.was) ∙ c.loop-w.invariant.2)

-- the next place
moved : (c : In_ok-next)
    → let a = c.args in Moved a.fasta.now a.index.now c.loop-w.w c.in_ok-next.next
moved c =
    check-next _ _ _ _ c.loop-w-test.true c.loop-w.invariant.1 (sym c.check_record.ensures ∙ c.in_ok-next.was)

pub past_good-w-requires-in-loop-w : goal.past_good-w-requires-in-loop-w
past_good-w-requires-in-loop-w c = (omega (arith, moved (goal.at.past_good-w-requires-in-loop-w c).In_ok-next), (moved (goal.at.past_good-w-requires-in-loop-w c).In_ok-next).inside)

pub loop-w-smaller : goal.loop-w-smaller
loop-w-smaller c = omega (arith, moved (goal.at.loop-w-smaller c).In_ok-next, c.past_good-w-in-loop-w.ensures)

pub loop-w-preserved : goal.loop-w-preserved
loop-w-preserved c =
    let p = c.past_good-w-in-loop-w.ensures in
    (p.counted, p.inside, p.leads ∙ ((moved (goal.at.loop-w-preserved c).In_ok-next).leads ∙ c.loop-w.invariant.2))

pub returns-then-w-index : goal.returns-then-w-index
returns-then-w-index c = sym (check-left _ _ _ c.loop-w-test.false c.if-w-index.true) ∙ c.loop-w.invariant.2

pub returns : goal.returns
returns c = sym (check-end _ _ _ c.loop-w-test.false c.if-w-index.false) ∙ c.loop-w.invariant.2
