-- `lines::ends::lf_in_stretch` meets its contract: before each row the bytes so far of the four quarters hold no LF.
use Rattle.std.proofs.Common.{◌+◌, ◌*◌, ◌≡◌, sym, ◌∙◌, arith}
use Rattle.lines.specs.Stretch.{row-none, row_on, row-hit, row-all}
use Rattle.lines.proofs.ends.lf_in_stretch.Goals as goal

pub loop-n-init : goal.loop-n-init
loop-n-init c = row-none _ _ _ _ (omega arith)

pub returns-then-lf_in_four : goal.returns-then-lf_in_four
returns-then-lf_in_four c =
    let a = c.args in
    row-hit a.s.now a.at (64 * a.rows) (64 * c.loop-n.n) 64 (256 * a.rows) (omega arith) (omega arith) (sym c.lf_in_four.ensures ∙ c.if-lf_in_four.true)

pub loop-n-preserved : goal.loop-n-preserved
loop-n-preserved c =
    let a = c.args in
    let q : 64 * (c.loop-n.n + 1) ≡ 64 * c.loop-n.n + 64 = omega arith in
    rw q (row_on a.s.now a.at (64 * a.rows) (64 * c.loop-n.n) 64 c.loop-n.invariant (sym c.lf_in_four.ensures ∙ c.if-lf_in_four.false))

pub returns : goal.returns
returns c =
    let a = c.args in
    let e : c.loop-n.n ≡ a.rows = omega arith in
    row-all a.s.now a.at (64 * a.rows) (256 * a.rows) (omega arith) (rw e at c.loop-n.invariant)
