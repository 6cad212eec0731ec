-- `complement::PairedKind::partner` meets its contract: at each base that has a complement the bits of its pair give it, and they fit a byte.
use Rattle.std.proofs.Common.{◌+◌, ◌≤◌, arith}
use Rattle.complement.specs.Flips.{flips-give, flips-fit}
use Rattle.complement.proofs.PairedKind.partner.Goals as goal

-- all of the bits together
fit : (c : goal.After-bits_if-bv) → c.bits_if-at.result + c.bits_if-cg.result + c.bits_if-km.result + c.bits_if-ry.result + c.bits_if-dh.result + c.bits_if-bv.result ≤ 255
fit c = omega (arith, flips-fit c.args.flips.are_flips, c.bits_if-at.ensures.1, c.bits_if-cg.ensures.1, c.bits_if-km.ensures.1, c.bits_if-ry.ensures.1, c.bits_if-dh.ensures.1, c.bits_if-bv.ensures.1)

pub overflow_add-result-2 : goal.overflow_add-result-2
overflow_add-result-2 c = record { fits = omega (arith, fit c) }

pub overflow_add-result-3 : goal.overflow_add-result-3
overflow_add-result-3 c = record { fits = omega (arith, fit c) }

pub overflow_add-result-4 : goal.overflow_add-result-4
overflow_add-result-4 c = record { fits = omega (arith, fit c) }

pub overflow_add-result-5 : goal.overflow_add-result-5
overflow_add-result-5 c = record { fits = omega (arith, fit c) }

pub returns : goal.returns
returns c =
    rw (c.bits_if-at.ensures.0, c.bits_if-cg.ensures.0, c.bits_if-km.ensures.0, c.bits_if-ry.ensures.0, c.bits_if-dh.ensures.0, c.bits_if-bv.ensures.0)
    (flips-give c.args.flips.are_flips _ c.requires)
