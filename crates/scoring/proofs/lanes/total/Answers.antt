-- `scoring::lanes::total` meets its contract: the words are the sum of their bytes, and times 255.
use Rattle.std.proofs.Common.{◌+◌, ◌*◌, ◌≡◌, arith, get_or}
use lib.Arith.{digits_mod}
use Rattle.scoring.specs.Lanes.{sum_to, sum-most}
use Rattle.scoring.specs.Bits.{word_sum, word_small}
use Rattle.scoring.proofs.lanes.total.Goals as goal

pub loop-i-init : goal.loop-i-init
unfolding sum_to
loop-i-init c = (omega arith, (0, omega arith))

pub overflow_add-x : goal.overflow_add-x
overflow_add-x c = omega (arith, word_small c.args.lanes.now (8 * c.loop-i.i) (omega arith) c.requires, c.word-x.ensures)

pub loop-i-preserved : goal.loop-i-preserved
loop-i-preserved c =
    let s = c.args.lanes.now in
    let d = word_sum s (8 * c.loop-i.i) in
    let e : 8 * (c.loop-i.i + 1) ≡ 8 * c.loop-i.i + 8 = omega arith in (
      omega (arith, word_small s (8 * c.loop-i.i) (omega arith) c.requires, c.word-x.ensures),
      (c.loop-i.invariant.1.0 + d.0, rw e (omega (arith, d.1, c.loop-i.invariant.1.1, c.word-x.ensures))),
    )

pub returns : goal.returns
returns c =
    let s = c.args.lanes.now in
    let e : 8 * c.loop-i.i ≡ 32 = omega arith in
    let x : c.loop-i.x ≡ c.loop-i.invariant.1.0 * 255 + sum_to (λ i. get_or s i 0) 32 = omega (arith, rw e at c.loop-i.invariant.1.1) in
    rw x (digits_mod c.loop-i.invariant.1.0 {m = 255} {r = sum_to (λ i. get_or s i 0) 32} (omega (arith, sum-most (λ i. get_or s i 0) 32 c.requires)))
