-- `columns::fields::read_each` meets its contract. The loop's invariant: the numbers read, and what the fields behind the tab say,
-- together are what all fields say. Each way on is a law of specs/Reading.antt.
use Rattle.std.proofs.Common.{◌+◌, ◌-◌, ◌≡◌, sym, ◌∙◌, arith, add-one, length, take, drop, length-set, take_all, take-suc-set, Ok}
use Rattle.columns.specs.Bytes.{take_rest}
use Rattle.columns.specs.Fields.{field_says}
use Rattle.columns.specs.Reading.{field_len, on-end, on-absent, on-refused, on-within, on-good}
use Rattle.columns.proofs.fields.read_each.Goals as goal
use Rattle.columns.proofs.fields.read_each.Goals.{After-number_field, In-Ok}

pub returns-then-content-tab : goal.returns-then-content-tab
returns-then-content-tab c = on-absent _ _ _ _ _ _ _ _ c.loop-i.invariant.1 (omega arith) c.if-content-tab.true

-- what the field behind the tab says
said : (c : After-number_field)
    → (let a = c.args in
    let r = drop (c.loop-i.tab + 1) a.content.now in
    c.number_field.result ≡ field_says a.line (c.loop-i.i + 2) (take (field_len (length a.numbers.now - c.loop-i.i - 1) r) r))
said c =
    let a = c.args in
    rw (← c.loop-i.invariant.0, ← take_rest (c.loop-i.tab + 1) a.content.now) c.number_field.ensures

pub returns-in-Err : goal.returns-in-Err
returns-in-Err c =
    on-refused _ _ _ _ _ _ _ _ c.loop-i.invariant.1 (omega arith) c.if-content-tab.false _ (sym c.in-Err.is ∙ said (goal.at.returns-in-Err c).After-number_field)

-- the field behind the tab is good
good : (c : In-Ok)
    → (let a = c.args in
    let r = drop (c.loop-i.tab + 1) a.content.now in
    Ok c.in-Ok.f ≡ field_says a.line (c.loop-i.i + 2) (take (field_len (length a.numbers.now - c.loop-i.i - 1) r) r))
good c =
    let a = c.args in
    sym c.in-Ok.is ∙ rw (← c.loop-i.invariant.0, ← take_rest (c.loop-i.tab + 1) a.content.now) c.number_field.ensures

pub overflow_add-tab-in-Ok-2 : goal.overflow_add-tab-in-Ok-2
overflow_add-tab-in-Ok-2 c =
    omega (arith, on-within _ _ _ _ _ _ _ _ c.loop-i.invariant.1 (omega arith) c.if-content-tab.false _ (good (goal.at.overflow_add-tab-in-Ok-2 c).In-Ok))

pub loop-i-preserved : goal.loop-i-preserved
loop-i-preserved c =
    let k : length c.args.numbers.now - (c.loop-i.i + 1) ≡ length c.args.numbers.now - c.loop-i.i - 1 = omega arith in
    let p : c.loop-i.i + 1 + 2 ≡ c.loop-i.i + 2 + 1 = omega arith in (
      simp length-set (omega arith),
      rw (k, p, add-one c.loop-i.i, take-suc-set c.loop-i.numbers c.loop-i.i _ (omega arith))
          (on-good _ _ _ _ _ _ _ _ c.loop-i.invariant.1 (omega arith) c.if-content-tab.false _ (good (goal.at.loop-i-preserved c).In-Ok)),
    )

pub returns : goal.returns
returns c =
    rw (← take_all c.loop-i.i c.loop-i.numbers (omega arith)) (on-end _ _ _ c.args.content.now c.loop-i.tab _ _ _ c.loop-i.invariant.1 (omega arith))
