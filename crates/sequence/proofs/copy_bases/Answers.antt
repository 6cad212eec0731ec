-- `sequence::copy_bases` meets its contract: what a scan from `i` for the rest writes behind `to` bytes of the output as it is now,
-- equals what the whole scan writes into the output as it was.
use Rattle.std.proofs.Common.{ap, sym, ◌∙◌, rules, arith}
use native.Mathlib.Nat.{sub-zero}
use Rattle.copying.specs.Laws.{copy-whole}
use Rattle.sequence.specs.Scan.{scan_at}
use Rattle.sequence.specs.Laws.{Turn, piece-stop, piece-step, piece-full, filled, filled-start, filled-end, turn-fills}
use Rattle.sequence.proofs.copy_bases.Goals as goal
use Rattle.sequence.proofs.copy_bases.Goals.{Else-taken-eq0}

pub loop-to-init : goal.loop-to-init
loop-to-init c = let a = c.args in rw (sub-zero a.limit) (omega arith, omega arith, omega arith, filled-start a.out.now (scan_at a.s.now a.limit a.at))

pub shape_of-out-then-taken-eq0 : goal.shape_of-out-then-taken-eq0
shape_of-out-then-taken-eq0 c = c.loop-to.invariant.1

pub returns-then-taken-eq0 : goal.returns-then-taken-eq0
returns-then-taken-eq0 c =
    sym (filled-end _ _ _) ∙ ap (filled c.loop-to.to c.loop-to.out) (sym (piece-stop _ _ _ _ _ c.loop-to-test.true c.next_piece-piece.ensures c.if-taken-eq0.true)) ∙ c.loop-to.invariant.3

-- the piece that a turn finds
turn : (c : Else-taken-eq0)
    → Turn c.args.s.now c.args.limit c.loop-to.to c.loop-to.i c.next_piece-piece.result
turn c = piece-step _ _ _ _ _ c.loop-to-test.true c.next_piece-piece.ensures c.if-taken-eq0.false

pub overflow_add-to : goal.overflow_add-to
overflow_add-to c = let t = turn (goal.at.overflow_add-to c).Else-taken-eq0 in search rules

pub overflow_add-i : goal.overflow_add-i
overflow_add-i c = let t = turn (goal.at.overflow_add-i c).Else-taken-eq0 in search rules

pub loop-to-smaller : goal.loop-to-smaller
loop-to-smaller c = let t = turn (goal.at.loop-to-smaller c).Else-taken-eq0 in omega arith

pub loop-to-preserved : goal.loop-to-preserved
loop-to-preserved c =
    let t = turn (goal.at.loop-to-preserved c).Else-taken-eq0 in
    let w = copy-whole c.loop-to.out c.loop-to.to c.args.s.now c.next_piece-piece.result.start c.next_piece-piece.result.length (omega arith) (omega arith) in
    let f = turn-fills _ _ _ _ _ c.loop-to.out _ t (omega arith) (c.copy_run.ensures ∙ w) in
    (omega arith, f.0 ∙ c.loop-to.invariant.1, omega arith, f.1 ∙ c.loop-to.invariant.3)

pub shape_of-out : goal.shape_of-out
shape_of-out c = c.loop-to.invariant.1

pub returns : goal.returns
returns c =
    sym (filled-end _ _ _) ∙ ap (filled c.loop-to.to c.loop-to.out) (sym (piece-full _ _ _ _ c.loop-to-test.false)) ∙ c.loop-to.invariant.3
