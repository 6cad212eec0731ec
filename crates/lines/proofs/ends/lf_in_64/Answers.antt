-- `lines::ends::lf_in_64` meets its contract: at each place `any` says whether the bytes so far hold an LF.
use Rattle.std.proofs.Common.{◌≡◌, refl, sym, arith, drop}
use Rattle.lines.specs.Clear.{lf-none}
use Rattle.lines.specs.Blocks.{lf-more}
use Rattle.lines.proofs.ends.lf_in_64.Goals as goal

pub loop-k-init : goal.loop-k-init
loop-k-init c = sym (lf-none 0 (drop c.args.i c.args.s.now) refl)

pub loop-k-preserved : goal.loop-k-preserved
loop-k-preserved c =
    let a = c.args in
    rw c.loop-k.invariant (sym (lf-more a.s.now a.i c.loop-k.k (omega arith)))

pub returns : goal.returns
returns c = let e : c.loop-k.k ≡ 64 = omega arith in rw e at c.loop-k.invariant
