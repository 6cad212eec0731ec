-- `index_line::writing::write_line` meets its contract: the row and its name are judged by `named`, and `write_text` writes its name and numbers.
use Rattle.std.proofs.Common.{◌+◌, ◌-◌, ◌≤◌, ◌≡◌, sym, ◌∙◌, arith, length, length-take, drop, ltb-false, Ok, Err, rules}
use native.Mathlib.Nat.{add-sub_cancel_left}
use Rattle.refusal.specs.Numbers.{over_limit}
use Rattle.table.specs.Rows.{named_of}
use Rattle.table.specs.RowLaws.{named-of}
use Rattle.columns.specs.Writing.{within_both, not-over}
use Rattle.index_line.specs.Columns.{name_in}
use Rattle.index_line.proofs.writing.write_line.Goals as goal
use Rattle.index_line.proofs.writing.write_line.Goals.{Else-over_limit, In_ok-x}

pub returns-then-over_limit : goal.returns-then-over_limit
returns-then-over_limit g c = rw (sym c.over_limit.ensures ∙ c.if-over_limit.true)

-- the names are within the limit
small : (g : _) (c : Else-over_limit g) → length c.args.names.now ≤ 1099511627776
unfolding over_limit
small g c = ltb-false 1099511627776 _ (sym c.over_limit.ensures ∙ c.if-over_limit.false)

-- the row holds the record, whose name lies inside them
held : (g : _) (c : In_ok-x g)
    → (let a = c.args in
    named_of (length a.names.now) a.row ≡ Ok c.in_ok-x.x)
held g c = sym c.named.ensures ∙ c.in_ok-x.was

inside : (g : _) (c : In_ok-x g)
    → c.in_ok-x.x.name_start + c.in_ok-x.x.name_length ≤ length c.args.names.now
inside g c = (named-of _ _ _ (held g c)).1

pub overflow_add-end : goal.overflow_add-end
overflow_add-end g c = omega (arith, inside g (goal.at.overflow_add-end g c).In_ok-x, small g (goal.at.overflow_add-end g c).Else-over_limit)

pub slice_bounds-write_text-end : goal.slice_bounds-write_text-end
slice_bounds-write_text-end g c = omega (arith, inside g (goal.at.slice_bounds-write_text-end g c).In_ok-x)

pub returns-in_err-x : goal.returns-in_err-x
returns-in_err-x g c =
    let e : c.from_residual.result ≡ Err c.in_err-x.field-0.0 = search rules in
    rw (sym c.over_limit.ensures ∙ c.if-over_limit.false, sym c.named.ensures ∙ c.in_err-x.was, e)

pub returns : goal.returns
unfolding name_in
returns g c =
    rw (sym c.over_limit.ensures ∙ c.if-over_limit.false, held g (goal.at.returns g c).In_ok-x, ← c.of.ensures, ← add-sub_cancel_left c.in_ok-x.x.name_start c.in_ok-x.x.name_length)
    (c.write_text.ensures ∙ sym (within_both _ _ _ (not-over _ (omega (arith, length-take (c.in_ok-x.x.name_start + c.in_ok-x.x.name_length - c.in_ok-x.x.name_start) (drop c.in_ok-x.x.name_start c.args.names.now), inside g (goal.at.returns g c).In_ok-x, small g (goal.at.returns g c).Else-over_limit))) (not-over _ (omega (arith, g.met.W.Numbers.few)))))
