-- `lines::alike::lf_among_many` meets its contract: no LF is among the bytes passed, and the last block begins in them.
use Rattle.std.proofs.Common.{◌+◌, ◌-◌, ◌*◌, ◌≡◌, refl, sym, ◌∙◌, arith, drop}
use Rattle.lines.specs.Clear.{lf-none}
use Rattle.lines.specs.Blocks.{either-row, blocks-hit, blocks-on, blocks_last}
use Rattle.lines.proofs.alike.lf_among_many.Goals as goal

pub loop-k-init : goal.loop-k-init
loop-k-init c = lf-none 0 (drop c.args.at c.args.s.now) refl

pub returns-then-lf_in_either : goal.returns-then-lf_in_either
returns-then-lf_in_either c =
    let a = c.args in
    let k = 128 * c.loop-k.k in
    blocks-hit a.s.now a.at a.n k 128 (omega arith) (sym (either-row a.s.now (a.at + k) 64) ∙ sym c.lf_in_either.ensures ∙ c.if-lf_in_either.true)

pub loop-k-preserved : goal.loop-k-preserved
loop-k-preserved c =
    let a = c.args in
    let k = 128 * c.loop-k.k in
    let q : 128 * (c.loop-k.k + 1) ≡ k + 128 = omega arith in
    rw q (blocks-on a.s.now a.at a.n k 128 c.loop-k.invariant (sym (either-row a.s.now (a.at + k) 64) ∙ sym c.lf_in_either.ensures ∙ c.if-lf_in_either.false))

pub returns : goal.returns
returns c =
    let a = c.args in
    c.lf_in_either-2.ensures ∙ either-row a.s.now (a.at + (a.n - 128)) 64 ∙ blocks_last a.s.now a.at a.n (128 * c.loop-k.k) 128 c.loop-k.invariant (omega arith) (omega arith)
