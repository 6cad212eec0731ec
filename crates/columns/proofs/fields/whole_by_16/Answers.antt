-- `columns::fields::whole_by_16` meets its contract: a block that has neither leaves the first tab or LF where it is, and with the last block there is none.
use Rattle.std.proofs.Common.{ℕ, ◌+◌, ◌≤◌, ◌≡◌, sym, ◌∙◌, arith, length, drop}
use borrow.Author.Tests.{not-true}
use Rattle.columns.specs.Bytes.{first_where}
use Rattle.columns.specs.Fields.{splits}
use Rattle.columns.specs.Among.{clear-on, clear-last}
use Rattle.columns.proofs.fields.whole_by_16.Goals as goal
use Rattle.columns.proofs.fields.whole_by_16.Goals.{Left-loop-i, else-loop-i-test, then-loop-i-test+else-split_in+else-last-i-gt16}

pub loop-i-preserved : goal.loop-i-preserved
loop-i-preserved c = (omega arith, clear-on splits c.args.name.now c.loop-i.i _ c.loop-i.invariant.1 16 (omega arith) (sym c.split_in.ensures ∙ c.if-split_in.false))

-- the blocks passed end at a place that the last block reaches
ended : (c : Left-loop-i)
    → (let s = c.args.name.now in (j : ℕ) × (j ≤ length s) × (length s ≤ j + 16) × (j + first_where splits (drop j s) ≡ first_where splits s))
ended c =
    elim c.loop-i-test.branch [
      | else-loop-i-test w ↦ (c.loop-i.i, omega arith, omega arith, c.loop-i.invariant.1)
      | then-loop-i-test+else-split_in+else-last-i-gt16 w ↦
          (c.loop-i.i + 16, omega arith, omega arith, clear-on splits c.args.name.now c.loop-i.i _ c.loop-i.invariant.1 16 (omega arith) (sym w.split_in.ensures ∙ w.if-split_in.false))
    ]

pub returns : goal.returns
returns c = λ t.
    let e = ended (goal.at.returns c).Left-loop-i in
    sym (clear-last splits c.args.name.now e.0 _ e.3 16 e.1 e.2 (omega arith) (sym c.split_in-2.ensures ∙ not-true _ t))
