-- `sequence::count_bases` meets its contract: `n` and what a scan from `i` for the rest gives make what the whole scan gives.
use Rattle.std.proofs.Common.{◌-◌, ◌≡◌, rules, arith, length}
use native.Mathlib.Nat.{sub-zero}
use Rattle.sequence.specs.Scan.{scan_at}
use Rattle.sequence.specs.Laws.{Turn, piece-stop, piece-step, piece-full}
use Rattle.sequence.proofs.count_bases.Goals as goal
use Rattle.sequence.proofs.count_bases.Goals.{Else-piece-eq0}

pub loop-n-init : goal.loop-n-init
loop-n-init c = (omega arith, rw (sub-zero c.args.limit) (omega arith))

-- the piece that a turn finds
turn : (c : Else-piece-eq0)
    → Turn c.args.s.now c.args.limit c.loop-n.n c.loop-n.i c.next_piece-piece.result
turn c = piece-step _ _ _ _ _ c.loop-n-test.true c.next_piece-piece.ensures c.if-piece-eq0.false

pub returns-then-piece-eq0 : goal.returns-then-piece-eq0
returns-then-piece-eq0 c = omega (arith, stopped)
  where
    stopped : length (scan_at c.args.s.now (c.args.limit - c.loop-n.n) c.loop-n.i).bases ≡ 0
    stopped = rw (piece-stop _ _ _ _ _ c.loop-n-test.true c.next_piece-piece.ensures c.if-piece-eq0.true)

pub overflow_add-n : goal.overflow_add-n
overflow_add-n c = let t = turn (goal.at.overflow_add-n c).Else-piece-eq0 in search rules

pub overflow_add-i : goal.overflow_add-i
overflow_add-i c = let t = turn (goal.at.overflow_add-i c).Else-piece-eq0 in search rules

pub loop-n-smaller : goal.loop-n-smaller
loop-n-smaller c = let t = turn (goal.at.loop-n-smaller c).Else-piece-eq0 in omega arith

pub loop-n-preserved : goal.loop-n-preserved
loop-n-preserved c = let t = turn (goal.at.loop-n-preserved c).Else-piece-eq0 in (omega arith, omega arith)

pub returns : goal.returns
returns c = omega (arith, full)
  where
    full : length (scan_at c.args.s.now (c.args.limit - c.loop-n.n) c.loop-n.i).bases ≡ 0
    full = rw (piece-full _ _ _ _ c.loop-n-test.false)
