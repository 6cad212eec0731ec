-- `index::find_row` meets its contract: what the rows from r on say stays what all of them say.
use Rattle.std.proofs.Common.{◌+◌, ◌-◌, ◌≡◌, sym, ap, ◌∙◌, Result, Ok, Err, Bool, rules}
use native.Mathlib.Nat.{sub-zero}
use Rattle.refusal.specs.declared.Refusal.{Refusal}
use Rattle.table.specs.Rows.{row_at, used_at}
use Rattle.index.specs.Find.{row_from, row_named}
use Rattle.index.specs.Laws.{stepped, find-step, from_end}
use Rattle.index.proofs.find_row.Goals as goal
use Rattle.index.proofs.find_row.Goals.{After-compare}

pub loop-r-init : goal.loop-r-init
unfolding row_named
loop-r-init g c = rw (sub-zero c.args.in_use)

-- what all rows say, by how row r compares
turn : (g : _) (c : After-compare g) (w : Result Bool Refusal) → c.compare.result ≡ w
    → let a = c.args in
    stepped c.loop-r.r w (row_from a.names.now (g.C.Cell.numbers a.table.now) a.in_use a.name.now (a.in_use - (c.loop-r.r + 1)) (c.loop-r.r + 1)) ≡ row_named a.names.now (g.C.Cell.numbers a.table.now) a.in_use a.name.now
unfolding used_at row_at
turn g c w e =
    sym (find-step _ _ _ _ _ c.loop-r-test.true _ w (rw c.row.ensures at c.compare.ensures) e) ∙ c.loop-r.invariant

pub returns-in_err-compare : goal.returns-in_err-compare
returns-in_err-compare g c =
    let e : c.from_residual.result ≡ Err c.in_err-compare.field-0.0 = search rules in
    e ∙ turn g (goal.at.returns-in_err-compare g c).After-compare (Err _) c.in_err-compare.was

pub returns-then-branch : goal.returns-then-branch
returns-then-branch g c = turn g (goal.at.returns-then-branch g c).After-compare (Ok _) (c.in_ok-compare.was ∙ ap Ok c.if-branch.true)

pub loop-r-preserved : goal.loop-r-preserved
loop-r-preserved g c = turn g (goal.at.loop-r-preserved g c).After-compare (Ok _) (c.in_ok-compare.was ∙ ap Ok c.if-branch.false)

pub returns : goal.returns
returns g c = sym (from_end _ _ _ _ _ c.loop-r-test.false) ∙ c.loop-r.invariant
