-- `lines::abreast::rows_are_like` meets its contract: each row passed adds a line in each place, and the four runs in a row are one.
use Rattle.std.proofs.Common.{◌≡◌, arith}
use Rattle.lines.specs.Abreast.{all_none, all-four, row_more, row_within, row-reach}
use Rattle.lines.proofs.abreast.rows_are_like.Goals as goal

pub loop-n-init : goal.loop-n-init
loop-n-init c =
    let a = c.args in
    let none = all_none a.s.now a.like a.mark in
    (omega arith, record { first = none _; second = none _; third = none _; fourth = none _ })

pub row_is_like-requires : goal.row_is_like-requires
row_is_like-requires c =
    let a = c.args in
    (omega arith, omega arith, omega (arith, row_within c.loop-n.n a.rows a.like.width (omega arith)))

pub overflow_add-i : goal.overflow_add-i
overflow_add-i c =
    let a = c.args in
    omega (arith, row_within c.loop-n.n a.rows a.like.width (omega arith))

pub loop-n-preserved : goal.loop-n-preserved
loop-n-preserved c =
    let a = c.args in
    let w = row_within c.loop-n.n a.rows a.like.width (omega arith) in (
      omega (arith, row-reach c.loop-n.n a.like.width),
      row_more a.s.now a.like a.mark c.loop-n.n a.at c.loop-n.i a.apart (omega arith) c.loop-n.invariant.0 (omega (arith, w)) c.loop-n.invariant.1 (c.row_is_like.ensures c.if-not-row_is_like.false),
    )

pub returns : goal.returns
returns c = λ e.
    let a = c.args in
    let q : c.loop-n.n ≡ a.rows = omega arith in
    all-four a.s.now a.like a.mark a.rows a.apart a.at (omega arith) c.requires.2 (rw q at c.loop-n.invariant.1)
