-- `record::fitting` meets its contract: where a product or a sum is over 64 bits the offset is, and else it is the sum that is made.
use Rattle.std.proofs.Common.{◌≡◌, ◌+◌, ◌*◌, arith}
use Rattle.record.specs.Laws.{offset_at, offset-over}
use Rattle.record.proofs.fitting.Goals as goal

pub returns-in_err-skipped : goal.returns-in_err-skipped
returns-in_err-skipped c =
    rw c.from_residual.ensures (offset-over _ (omega (arith, c.in_err-skipped.ensures)))

pub returns-in_err-front : goal.returns-in_err-front
returns-in_err-front c =
    rw c.from_residual-in_err-front.ensures (offset-over _ (omega (arith, c.in_err-front.ensures, c.in_ok-skipped.ensures)))

pub returns-in_err-at : goal.returns-in_err-at
returns-in_err-at c =
    rw c.from_residual-in_err-at.ensures (offset-over _ (omega (arith, c.in_err-at.ensures, c.in_ok-skipped.ensures, c.in_ok-front.ensures)))

pub returns : goal.returns
returns c =
    let e : c.in_ok-at.at ≡ c.args.position + c.args.line * c.args.width + c.args.column = omega (arith, c.in_ok-at.ensures, c.in_ok-front.ensures, c.in_ok-skipped.ensures) in
    rw e (offset_at _ (omega (arith, c.in_ok-at.ensures, e)))
