-- `table::numbers::to_bytes` meets its contract: the bytes written, with those that are left, are the number's.
use Rattle.std.proofs.Common.{refl, ◌∙◌, arith, length-set}
use native.Mathlib.Nat.{sub-zero}
use Rattle.table.specs.NumberLaws.{to-more, to-all}
use Rattle.table.proofs.numbers.to_bytes.Goals as goal

pub loop-i-init : goal.loop-i-init
loop-i-init c = (refl, omega arith, rw sub-zero)

pub loop-i-preserved : goal.loop-i-preserved
loop-i-preserved c =
    (simp length-set c.loop-i.invariant.0, omega arith, to-more c.loop-i.bytes c.loop-i.i _ c.loop-i.left c.loop-i.invariant.0 (omega arith) ∙ c.loop-i.invariant.2)

pub shape_of-bytes : goal.shape_of-bytes
shape_of-bytes c = c.loop-i.invariant.0

pub returns : goal.returns
returns c =
    to-all c.loop-i.bytes _ c.loop-i.i _ c.loop-i.left c.loop-i.invariant.0 (omega arith) c.loop-i.invariant.2
