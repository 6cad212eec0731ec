-- `lines::ends::line_end_far` meets its contract: a block without an LF leaves the end where it is, and one with an LF tells it.
use Rattle.std.proofs.Common.{ℕ, ◌-◌, ◌≤◌, ◌<◌, ◌≡◌, sym, ◌∙◌, List, arith, length, take, drop, take_all}
use Rattle.lines.specs.FirstLf.{left_le, left-some, end-past, end-here}
use Rattle.lines.proofs.ends.line_end_far.Goals as goal
use Rattle.lines.proofs.ends.line_end_far.Goals.{After-left_at_lf}

-- a slice is the part of itself that begins at 0
whole : (s : List ℕ) → take (length s - 0) s ≡ s
whole s = take_all (length s - 0) s (omega arith)

pub returns-then-s-lt64 : goal.returns-then-s-lt64
returns-then-s-lt64 c = rw whole at c.line_end_rest.ensures

pub returns-then-last-at : goal.returns-then-last-at
returns-then-last-at c = rw whole at c.line_end_rest-then-last-at.ensures

-- the block has an LF, so some of its bytes are left there
found : (c : After-left_at_lf) → (0 < c.left_at_lf.result) × (c.left_at_lf.result ≤ 64)
found c =
    let block = drop c.loop-i.i c.args.s.now in
    rw c.left_at_lf.ensures (left-some 64 block (sym c.lf_in_64.ensures ∙ c.if-lf_in_64.true), left_le 64 block)

pub overflow_sub-result : goal.overflow_sub-result
overflow_sub-result c = omega (arith, found (goal.at.overflow_sub-result c).After-left_at_lf)

pub overflow_add-result : goal.overflow_add-result
overflow_add-result c = omega (arith, found (goal.at.overflow_add-result c).After-left_at_lf)

pub returns-then-lf_in_64 : goal.returns-then-lf_in_64
returns-then-lf_in_64 c =
    let e = c.left_at_lf.ensures in
    rw e (end-here c.args.s.now c.loop-i.i 64 (rw e at (found (goal.at.returns-then-lf_in_64 c).After-left_at_lf).0)) ∙ c.loop-i.invariant.1

pub loop-i-preserved : goal.loop-i-preserved
loop-i-preserved c =
    (omega arith, end-past c.args.s.now c.loop-i.i 64 (omega arith) (sym c.lf_in_64.ensures ∙ c.if-lf_in_64.false) ∙ c.loop-i.invariant.1)

pub returns : goal.returns
returns c = rw whole at c.line_end_rest-2.ensures ∙ c.loop-i.invariant.1
