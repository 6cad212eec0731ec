-- `lines::alike::lines_at_once` meets its contract: the lines alike are those that many at once tell, and the ones alike behind them.
use Rattle.std.proofs.Common.{ℕ, ◌+◌, ◌-◌, ◌*◌, ◌≤◌, ◌≡◌, sym, ◌∙◌, ap, arith, length, take}
use Rattle.lines.specs.Alike.{alike}
use Rattle.lines.specs.UpTo.{up_to_at, alike-past, whole-most}
use Rattle.lines.specs.Abreast.{all-add, all-within}
use Rattle.lines.proofs.alike.lines_at_once.Goals as goal
use Rattle.lines.proofs.alike.lines_at_once.Goals.{After-lines_abreast-n}

pub returns-then-s-at : goal.returns-then-s-at
returns-then-s-at c =
    let a = c.args in
    alike-past a.s.now a.like a.mark a.most a.at (omega arith)

-- the lines told at once end in the file
within : (c : After-lines_abreast-n) → c.args.at + c.lines_abreast-n.result * c.args.like.width ≤ length c.args.s.now
within c =
    let a = c.args in
    all-within a.s.now a.like a.mark c.lines_abreast-n.result a.at (omega arith) (record { all = c.lines_abreast-n.ensures.1 })

pub overflow_mul-n : goal.overflow_mul-n
overflow_mul-n c = omega (arith, within (goal.at.overflow_mul-n c).After-lines_abreast-n)

pub overflow_add-at : goal.overflow_add-at
overflow_add-at c = omega (arith, within (goal.at.overflow_add-at c).After-lines_abreast-n)

pub overflow_sub-most : goal.overflow_sub-most
overflow_sub-most c = omega (arith, c.lines_abreast-n.ensures.0)

pub overflow_add-result : goal.overflow_add-result
overflow_add-result c =
    let a = c.args in
    omega (arith, c.lines_abreast-n.ensures.0, c.lines_one_by_one.ensures, whole-most a.s.now a.like a.mark (a.most - c.lines_abreast-n.result) (a.at + c.lines_abreast-n.result * a.like.width) (within (goal.at.overflow_add-result c).After-lines_abreast-n))

pub returns : goal.returns
returns c =
    let a = c.args in
    let q : c.lines_abreast-n.result + (a.most - c.lines_abreast-n.result) ≡ a.most = omega (arith, c.lines_abreast-n.ensures.0) in
    ap (λ (k : ℕ). c.lines_abreast-n.result + k) c.lines_one_by_one.ensures
    ∙ sym (all-add a.s.now a.like a.mark c.lines_abreast-n.result (a.most - c.lines_abreast-n.result) a.at (omega arith) (record { all = c.lines_abreast-n.ensures.1 }))
    ∙ ap (λ (k : ℕ). alike a.like (take k (up_to_at a.s.now a.mark a.at))) q
