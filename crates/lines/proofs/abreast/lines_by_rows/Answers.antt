-- `lines::abreast::lines_by_rows` meets its contract: each run of lines that is passed is alike, and begins where the one before it ends.
use Rattle.std.proofs.Common.{◌*◌, refl, arith}
use Rattle.lines.specs.Abreast.{all_none, all_join, rows-reach}
use Rattle.lines.proofs.abreast.lines_by_rows.Goals as goal

pub loop-n-init : goal.loop-n-init
loop-n-init c = let a = c.args in (refl, refl, omega arith, omega arith, omega arith, all_none a.s.now a.like a.mark a.at)

pub loop-n-preserved : goal.loop-n-preserved
loop-n-preserved c =
    let a = c.args in
    let r = c.rows_are_like.ensures c.if-not-rows_are_like.false in (
      c.loop-n.invariant.0,
      c.loop-n.invariant.1,
      omega arith,
      rw c.loop-n.invariant.0 (omega (arith, rows-reach c.loop-n.n a.rows a.like.width)),
      omega arith,
      rw c.loop-n.invariant.0 (all_join a.s.now a.like a.mark c.loop-n.n (4 * a.rows) a.at (omega arith) c.loop-n.invariant.5 (rw c.loop-n.invariant.3 at r)),
    )
