-- `comparing::same_many` meets its contract. The loop's invariant: the bytes passed are the same; so the last block decides.
use Rattle.std.proofs.Common.{◌≡◌, ◌-◌, ◌+◌, ◌*◌, sym, ◌∙◌, arith, length}
use Rattle.std.proofs.lemmas.List.{take_rest}
use Rattle.comparing.specs.Laws.{other_block, block_on, last_says}
use Rattle.comparing.proofs.same_many.Goals as goal

pub returns-then-not-same_8 : goal.returns-then-not-same_8
returns-then-not-same_8 c =
    let a = c.args.a.now in
    let b = c.args.b.now in
    let i = 8 * c.loop-k.k in
    other_block a b i 8 (sym (rw (take_rest a i, take_rest b i) at c.same_8.ensures) ∙ c.if-not-same_8.true)

pub loop-k-preserved : goal.loop-k-preserved
loop-k-preserved c =
    let a = c.args.a.now in
    let b = c.args.b.now in
    let i = 8 * c.loop-k.k in
    let q : 8 * (c.loop-k.k + 1) ≡ i + 8 = omega arith in
    rw q (block_on a b i c.loop-k.invariant 8 (sym (rw (take_rest a i, take_rest b i) at c.same_8.ensures) ∙ c.if-not-same_8.false))

pub returns : goal.returns
returns c =
    let a = c.args.a.now in
    let b = c.args.b.now in
    let last = length a - 8 in
    rw (take_rest a last, take_rest b last) at c.same_8-2.ensures
    ∙ last_says a b (8 * c.loop-k.k) c.loop-k.invariant last 8 (omega arith) (omega arith) (omega arith)
