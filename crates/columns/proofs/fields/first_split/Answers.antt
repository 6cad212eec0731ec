-- `columns::fields::first_split` meets its contract: a block that has neither leaves the first tab or LF where it is, and with the
-- last block there is none.
use Rattle.std.proofs.Common.{ℕ, ◌+◌, ◌≤◌, ◌≡◌, sym, ◌∙◌, arith, length, drop}
use Rattle.columns.specs.Bytes.{first_where}
use Rattle.columns.specs.Fields.{splits}
use Rattle.columns.specs.Among.{clear-on, clear-last, first-between}
use Rattle.columns.proofs.fields.first_split.Goals as goal
use Rattle.columns.proofs.fields.first_split.Goals.{Left-loop-i, else-loop-i-test, then-loop-i-test+else-split_in+else-last-i-gt8}

pub loop-i-preserved : goal.loop-i-preserved
loop-i-preserved c = (omega arith, clear-on splits c.args.l.now c.loop-i.i _ c.loop-i.invariant.1 8 (omega arith) (sym c.split_in.ensures ∙ c.if-split_in.false))

-- the blocks passed end at a place that the last block reaches
ended : (c : Left-loop-i)
    → (let a = c.args in
    (j : ℕ) × (a.from ≤ j) × (j ≤ length a.l.now) × (length a.l.now ≤ j + 8) × (j + first_where splits (drop j a.l.now) ≡ a.from + first_where splits (drop a.from a.l.now)))
ended c =
    elim c.loop-i-test.branch [
      | else-loop-i-test w ↦ (c.loop-i.i, omega arith, omega arith, omega arith, c.loop-i.invariant.1)
      | then-loop-i-test+else-split_in+else-last-i-gt8 w ↦
          (c.loop-i.i + 8, omega arith, omega arith, omega arith, clear-on splits c.args.l.now c.loop-i.i _ c.loop-i.invariant.1 8 (omega arith) (sym w.split_in.ensures ∙ w.if-split_in.false))
    ]

pub returns-then-split_in-2 : goal.returns-then-split_in-2
returns-then-split_in-2 c =
    let e = ended (goal.at.returns-then-split_in-2 c).Left-loop-i in
    c.first_near-then-split_in-2.ensures ∙ first-between splits c.args.l.now c.args.from c.max.result e.0 (omega arith) (omega arith) e.4

pub returns : goal.returns
returns c =
    let e = ended (goal.at.returns c).Left-loop-i in
    clear-last splits c.args.l.now e.0 _ e.4 8 e.2 e.3 (omega arith) (sym c.split_in-2.ensures ∙ c.if-split_in-2.false)
