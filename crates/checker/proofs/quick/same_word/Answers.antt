-- `checker::quick::same_word` meets its contract: the blocks cover every byte, and the last may overlap the one before.
use Rattle.std.proofs.Common.{ℕ, ◌+◌, ◌-◌, ◌≤◌, ◌≡◌, arith, length, zero-add}
use Rattle.checker.specs.Quick.{WordAt, word_none, word_on}
use Rattle.checker.proofs.quick.same_word.Goals as goal
use Rattle.checker.proofs.quick.same_word.Goals.{Left-loop-i, else-loop-i-test, then-loop-i-test+else-not-word_8+else-last-i-gt8}

pub loop-i-init : goal.loop-i-init
loop-i-init c = (omega arith, word_none _ _ _ _)

pub loop-i-preserved : goal.loop-i-preserved
loop-i-preserved c =
    (omega arith, word_on _ 0 _ 0 c.loop-i.i c.loop-i.i 8 c.loop-i.invariant.1 (omega arith) (rw (zero-add c.loop-i.i) (c.word_8.ensures c.if-not-word_8.false)))

-- the blocks passed end at a place that the last block reaches
ended : (c : Left-loop-i) → (let a = c.args in (j : ℕ) × (length a.a.now ≤ j + 8) × WordAt a.a.now 0 a.b.now 0 j)
ended c =
    elim c.loop-i-test.branch [
      | else-loop-i-test w ↦ (c.loop-i.i, omega arith, c.loop-i.invariant.1)
      | then-loop-i-test+else-not-word_8+else-last-i-gt8 w ↦
          (c.loop-i.i + 8, omega arith, word_on _ 0 _ 0 c.loop-i.i c.loop-i.i 8 c.loop-i.invariant.1 (omega arith) (rw (zero-add c.loop-i.i) (w.word_8.ensures w.if-not-word_8.false)))
    ]

pub returns : goal.returns
returns c = λ h.
    let n : ℕ = length c.args.a.now in
    let x = ended (goal.at.returns c).Left-loop-i in
    let e : n - 8 + 8 ≡ n = omega arith in
    rw e at (word_on _ 0 _ 0 x.0 (n - 8) 8 x.2 (omega (arith, x.1)) (rw (zero-add (n - 8)) (c.word_8-2.ensures h)))
