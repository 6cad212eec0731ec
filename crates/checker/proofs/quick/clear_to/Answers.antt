-- `checker::quick::clear_to` meets its contract: the blocks cover every byte, and the last may overlap those before.
use Rattle.std.proofs.Common.{ℕ, ◌+◌, ◌-◌, ◌≤◌, ◌≡◌, sym, ◌∙◌, arith}
use borrow.Author.Tests.{not-true}
use Rattle.checker.specs.Quick.{NoLf, clear_none, clear-on, clear-part}
use Rattle.checker.proofs.quick.clear_to.Goals as goal
use Rattle.checker.proofs.quick.clear_to.Goals.{Left-loop-i, else-loop-i-test, then-loop-i-test+else-lf_in_16+else-last-i-gt16}

pub returns-then-to-at-lt16 : goal.returns-then-to-at-lt16
returns-then-to-at-lt16 c = λ h. clear-part _ _ _ (omega arith) (sym c.contains.ensures.value ∙ not-true _ h)

pub loop-i-init : goal.loop-i-init
loop-i-init c = (c.requires.1, clear_none _ _)

pub loop-i-preserved : goal.loop-i-preserved
loop-i-preserved c =
    (omega arith, clear-on _ _ c.loop-i.i c.loop-i.i (c.loop-i.i + 16) c.loop-i.invariant.1 (omega arith) (c.lf_in_16.ensures c.if-lf_in_16.false))

-- the blocks passed end at a place that the last block reaches
ended : (c : Left-loop-i) → (let a = c.args in (j : ℕ) × (a.to ≤ j + 16) × NoLf a.s.now a.from j)
ended c =
    elim c.loop-i-test.branch [
      | else-loop-i-test w ↦ (c.loop-i.i, omega arith, c.loop-i.invariant.1)
      | then-loop-i-test+else-lf_in_16+else-last-i-gt16 w ↦
          (c.loop-i.i + 16, omega arith, clear-on _ _ c.loop-i.i c.loop-i.i (c.loop-i.i + 16) c.loop-i.invariant.1 (omega arith) (w.lf_in_16.ensures w.if-lf_in_16.false))
    ]

pub returns : goal.returns
returns c = λ h.
    let to = c.args.to in
    let x = ended (goal.at.returns c).Left-loop-i in
    let e : to - 16 + 16 ≡ to = omega arith in
    clear-on _ _ x.0 (to - 16) to x.2 (omega (arith, x.1)) (rw e at (c.lf_in_16-2.ensures (not-true _ h)))
