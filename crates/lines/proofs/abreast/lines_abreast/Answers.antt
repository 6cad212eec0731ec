-- `lines::abreast::lines_abreast` meets its contract: lines passed by many, and lines passed by few behind them, are lines in a row.
use Rattle.std.proofs.Common.{◌+◌, ◌*◌, ◌≤◌, sym, arith, length}
use Rattle.lines.specs.Alike.{alike-none}
use Rattle.lines.specs.Abreast.{all_join, all-within}
use Rattle.lines.proofs.abreast.lines_abreast.Goals as goal
use Rattle.lines.proofs.abreast.lines_abreast.Goals.{After-lines_by_rows-n}

pub returns-then-s-at : goal.returns-then-s-at
returns-then-s-at c = (omega arith, sym (alike-none _))

pub returns-then-like-lt33 : goal.returns-then-like-lt33
returns-then-like-lt33 c = (omega arith, sym (alike-none _))

pub returns-then-like-gt129 : goal.returns-then-like-gt129
returns-then-like-gt129 c = (omega arith, sym (alike-none _))

pub lines_by_rows-n-requires : goal.lines_by_rows-n-requires
lines_by_rows-n-requires c = (omega arith, omega arith, omega arith, omega arith, omega arith, omega arith, omega arith, omega arith)

-- the lines passed end in the file
within : (c : After-lines_by_rows-n) → c.args.at + c.lines_by_rows-n.result * c.args.like.width
    ≤ length c.args.s.now
within c =
    let a = c.args in
    all-within a.s.now a.like a.mark c.lines_by_rows-n.result a.at (omega arith) c.lines_by_rows-n.ensures.1

pub overflow_mul-n : goal.overflow_mul-n
overflow_mul-n c = omega (arith, within (goal.at.overflow_mul-n c).After-lines_by_rows-n)

pub overflow_add-at : goal.overflow_add-at
overflow_add-at c = omega (arith, within (goal.at.overflow_add-at c).After-lines_by_rows-n)

pub overflow_sub-most : goal.overflow_sub-most
overflow_sub-most c = omega (arith, c.lines_by_rows-n.ensures.0)

pub lines_by_rows-requires : goal.lines_by_rows-requires
lines_by_rows-requires c = (omega arith, omega arith, omega arith, omega arith, omega arith, omega arith, omega arith, omega (arith, within (goal.at.lines_by_rows-requires c).After-lines_by_rows-n))

pub overflow_add-result : goal.overflow_add-result
overflow_add-result c = omega (arith, c.lines_by_rows-n.ensures.0, c.lines_by_rows.ensures.0)

pub returns : goal.returns
returns c =
    let a = c.args in (
      omega (arith, c.lines_by_rows-n.ensures.0, c.lines_by_rows.ensures.0),
      (all_join a.s.now a.like a.mark c.lines_by_rows-n.result c.lines_by_rows.result a.at (omega arith) c.lines_by_rows-n.ensures.1 c.lines_by_rows.ensures.1).all,
    )
