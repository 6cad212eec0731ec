-- `lines::ends::left_at_lf` meets its contract: at each place `left` is right for the bytes so far.
use Rattle.std.proofs.Common.{◌≤◌, ◌≡◌, ◌∙◌, arith, rules, take, drop}
use Rattle.std.proofs.Math.Nat.{max_comm}
use Rattle.lines.specs.FirstLf.{left-none, left-more, left-all, left_le}
use Rattle.lines.proofs.ends.left_at_lf.Goals as goal

pub loop-k-init : goal.loop-k-init
loop-k-init c = left-none 64

pub loop-k-preserved : goal.loop-k-preserved
loop-k-preserved c =
    let a = c.args in
    c.max-left.ensures ∙ max_comm _ _ ∙ rw c.left_if_lf.ensures (left-more 64 a.s.now a.i c.loop-k.k c.loop-k.left (omega arith) c.loop-k.invariant)

pub overflow_cast-result : goal.overflow_cast-result
overflow_cast-result c =
    let a = c.args in
    let h : c.loop-k.left ≤ 64 = rw c.loop-k.invariant (left_le 64 (take c.loop-k.k (drop a.i a.s.now))) in
    search rules

pub returns : goal.returns
returns c =
    let a = c.args in
    let e : c.loop-k.k ≡ 64 = omega arith in
    rw e at c.loop-k.invariant ∙ left-all 64 (drop a.i a.s.now)
