-- `columns::fields::field_length` meets its contract: if no tab cuts, the field is all that is left. The loop's invariant: the first tab from here is
-- the first.
use Rattle.std.proofs.Common.{◌+◌, ◌∙◌, arith, zero-add, eq-eqb, ne_eqb}
use Rattle.columns.specs.Bytes.{is, first_where, first-hit, first-miss, first-end}
use Rattle.columns.specs.Among.{two-on, two-within}
use Rattle.columns.specs.Reading.{len-all, len-tab}
use Rattle.columns.proofs.fields.field_length.Goals as goal

pub returns-then-tabs-eq0 : goal.returns-then-tabs-eq0
returns-then-tabs-eq0 c = len-all _ _ c.if-tabs-eq0.true

pub first_split-i-requires : goal.first_split-i-requires
first_split-i-requires c = omega arith

pub loop-i-init : goal.loop-i-init
loop-i-init c =
    let s = c.args.l.now in
    let e = c.first_split-i.ensures in
    (two-within s 9 10 0 (first_where (is 9) s) (zero-add _) _ e (omega arith), two-on s 9 10 0 (first_where (is 9) s) (zero-add _) _ e)

pub bounds-l-i : goal.bounds-l-i
bounds-l-i c = omega arith

pub returns-then-l-i-eq-TAB : goal.returns-then-l-i-eq-TAB
returns-then-l-i-eq-TAB c =
    first-hit (is 9) _ _ _ c.loop-i.invariant.1 c.loop-i-test.true (eq-eqb _ _ c.if-l-i-eq-TAB.true) ∙ len-tab _ _ c.if-tabs-eq0.false

pub overflow_add-i : goal.overflow_add-i
overflow_add-i c = omega arith

pub first_split-i-requires-in-loop-i : goal.first_split-i-requires-in-loop-i
first_split-i-requires-in-loop-i c = omega arith

pub loop-i-smaller : goal.loop-i-smaller
loop-i-smaller c = omega (arith, c.first_split-i-in-loop-i.ensures)

pub loop-i-preserved : goal.loop-i-preserved
loop-i-preserved c =
    let s = c.args.l.now in
    let e = c.first_split-i-in-loop-i.ensures in
    let h = first-miss (is 9) s c.loop-i.i _ c.loop-i.invariant.1 c.loop-i-test.true (ne_eqb _ _ c.if-l-i-eq-TAB.false) in
    (two-within s 9 10 (c.loop-i.i + 1) (first_where (is 9) s) h _ e (omega arith), two-on s 9 10 (c.loop-i.i + 1) (first_where (is 9) s) h _ e)

pub returns : goal.returns
returns c =
    first-end (is 9) _ _ _ c.loop-i.invariant.1 c.loop-i-test.false ∙ len-tab _ _ c.if-tabs-eq0.false
