-- `definition::word_end` meets its contract: a block without a low byte is in the run, and the run goes on behind it.
use Rattle.std.proofs.Common.{◌+◌, ◌≡◌, ◌∙◌, false, arith, drop}
use Rattle.definition.specs.Definition.{spaced, run}
use Rattle.definition.specs.Laws.{run_end}
use Rattle.definition.specs.Low.{word-goes-on}
use Rattle.definition.proofs.word_end.Goals as goal
use Rattle.definition.proofs.word_end.Goals.{then-are_high, else-are_high, then-are_high-2, else-are_high-2}

pub loop-i-preserved : goal.loop-i-preserved
loop-i-preserved c =
    let enough = c.are_high.ensures.enough c.loop-i-test.true in
    (enough, word-goes-on _ _ 16 enough (c.are_high.ensures.high c.loop-i-test.true) ∙ c.loop-i.invariant.1)

pub returns-then-l-at : goal.returns-then-l-at
returns-then-l-at c = omega (arith, run_end (spaced false) c.args.l.now c.args.at c.if-l-at.true)

pub returns : goal.returns
returns c =
    let l = c.args.l.now in
    let i = c.loop-i.i in
    let j = c.if-are_high.i in
    let k = c.if-are_high-2.i in
    let by-8 : j + run (spaced false) (drop j l) ≡ i + run (spaced false) (drop i l) =
    elim c.if-are_high.branch [ then-are_high w ↦ rw w.i-is (word-goes-on l i 8 (c.are_high-2.ensures.enough w.if-are_high.true) (c.are_high-2.ensures.high w.if-are_high.true)) | else-are_high w ↦ rw w.i-is ] in
    let by-4 : k + run (spaced false) (drop k l) ≡ j + run (spaced false) (drop j l) =
    elim c.if-are_high-2.branch [ then-are_high-2 w ↦ rw w.i-is (word-goes-on l j 4 (c.are_high-3.ensures.enough w.if-are_high-2.true) (c.are_high-3.ensures.high w.if-are_high-2.true)) | else-are_high-2 w ↦ rw w.i-is ] in
    c.run_end_near.ensures ∙ by-4 ∙ by-8 ∙ c.loop-i.invariant.1
