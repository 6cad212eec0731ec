-- `primer::mask_of`: from the last letter to the first, a mask is twice the one before and one bit more.
use Rattle.std.proofs.Common.{◌-◌, ◌≡◌, arith}
use Rattle.letters.specs.Sets.{bit-lt, inside}
use Rattle.primer.specs.Live.{mask-by-small, mask-by-none, mask-by-more}
use Rattle.primer.proofs.mask_of.Goals as goal

pub loop-j-init : goal.loop-j-init
loop-j-init c = mask-by-none c.args.primer.now c.args.set

pub overflow_mul-mask : goal.overflow_mul-mask
overflow_mul-mask c = omega (arith, mask-by-small c.args.primer.now c.args.set c.loop-j.j c.requires.1)

pub set_of-requires : goal.set_of-requires
set_of-requires c = c.requires.0

pub overflow_add-mask : goal.overflow_add-mask
overflow_add-mask c =
    omega (arith, c.inside_bit.ensures, bit-lt (inside c.args.set c.set_of.result), mask-by-small c.args.primer.now c.args.set c.loop-j.j c.requires.1)

pub loop-j-preserved : goal.loop-j-preserved
loop-j-preserved c =
    let a = c.args in
    rw (c.loop-j.invariant, c.inside_bit.ensures, c.set_of.ensures) (mask-by-more a.primer.now a.set (c.loop-j.j - 1) c.loop-j.j (omega arith) (omega arith))

pub returns : goal.returns
returns c = let z : c.loop-j.j ≡ 0 = omega arith in rw z at c.loop-j.invariant
