-- `lines::alike::lines_one_by_one` meets its contract: the lines passed and those alike from the place on are all that are alike.
use Rattle.std.proofs.Common.{◌+◌, ◌-◌, ◌≤◌, ◌<◌, ◌≡◌, sym, ◌∙◌, true, arith, zero-add, length}
use native.Mathlib.Nat.{sub-zero}
use Rattle.lines.specs.Alike.{alike-flat}
use Rattle.lines.specs.Clear.{like-fits}
use Rattle.lines.specs.UpTo.{up_to_at, alike-past, alike-marked, alike-other, alike-more, alike-done}
use Rattle.lines.proofs.alike.lines_one_by_one.Goals as goal
use Rattle.lines.proofs.alike.lines_one_by_one.Goals.{After-is_like, After-struct_known-in-loop-n-1}

pub returns-then-s-at : goal.returns-then-s-at
returns-then-s-at c =
    let a = c.args in
    alike-past a.s.now a.like a.mark a.most a.at (omega arith)

pub returns-then-like-eq0 : goal.returns-then-like-eq0
returns-then-like-eq0 c = alike-flat _ _ c.if-like-eq0.true

pub loop-n-init : goal.loop-n-init
loop-n-init c =
    let a = c.args in
    (omega arith, omega arith, omega arith, rw (sub-zero a.most) (zero-add _))

pub is_like-requires : goal.is_like-requires
is_like-requires c = (c.loop-n.invariant.0, omega arith)

pub returns-then-not-is_like : goal.returns-then-not-is_like
returns-then-not-is_like c =
    let a = c.args in
    omega (arith, c.loop-n.invariant.3, alike-other a.s.now a.like a.mark (a.most - c.loop-n.n) c.loop-n.i (sym c.is_like.ensures ∙ c.if-not-is_like.true))

-- a line that is like the other ends in the file
fits : (c : After-is_like) → c.is_like.result ≡ true
    → (c.args.like.width ≤ length c.args.s.now - c.loop-n.i)
    × (0 < c.args.like.width)
fits c t =
    let a = c.args in
    let z : 0 < a.like.width = omega arith in
    (like-fits a.s.now c.loop-n.i a.like c.loop-n.invariant.0 z (sym c.is_like.ensures ∙ t), z)

pub bounds-s-i : goal.bounds-s-i
bounds-s-i c = omega (arith, fits (goal.at.bounds-s-i c).After-is_like c.if-not-is_like.false)

pub returns-then-s-i : goal.returns-then-s-i
returns-then-s-i c =
    let a = c.args in
    let f = fits (goal.at.returns-then-s-i c).After-is_like c.if-not-is_like.false in
    omega (arith, c.loop-n.invariant.3, alike-marked a.s.now a.like a.mark (a.most - c.loop-n.n) c.loop-n.i (omega arith) c.if-s-i.true)

-- the line at the place is like the other
like : (c : After-struct_known-in-loop-n-1) → c.is_like.result ≡ true
like c = c.if-not-is_like.false

pub overflow_add-i : goal.overflow_add-i
overflow_add-i c = omega (arith, fits (goal.at.overflow_add-i c).After-is_like (like (goal.at.overflow_add-i c).After-struct_known-in-loop-n-1))

pub loop-n-preserved : goal.loop-n-preserved
loop-n-preserved c =
    let a = c.args in
    let f = fits (goal.at.loop-n-preserved c).After-is_like (like (goal.at.loop-n-preserved c).After-struct_known-in-loop-n-1) in
    let t : c.loop-n.n < a.most = c.loop-n-test.true in
    let d : a.most - c.loop-n.n - 1 ≡ a.most - (c.loop-n.n + 1) = omega arith in (
      omega arith,
      omega arith,
      omega arith,
      rw (← d) (omega (arith, c.loop-n.invariant.3, alike-more a.s.now a.like a.mark (a.most - c.loop-n.n) c.loop-n.i (omega arith) f.1 (sym c.is_like.ensures ∙ like (goal.at.loop-n-preserved c).After-struct_known-in-loop-n-1) c.if-s-i.false (omega arith))),
    )

pub returns : goal.returns
returns c =
    let a = c.args in
    omega (arith, c.loop-n.invariant.3, alike-done a.like (a.most - c.loop-n.n) (up_to_at a.s.now a.mark c.loop-n.i) (omega arith))
