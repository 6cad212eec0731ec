-- `writer::write_record` meets its contract: each test decides as the definition's, and the two parts are put one behind the other.
use Rattle.std.proofs.Common.{◌+◌, ◌≤◌, ◌<◌, ◌≡◌, sym, ap, ◌∙◌, length, arith, eq-eqb, ne_eqb}
use Rattle.columns.specs.Bytes.{overlaid-length}
use Rattle.writer.specs.Text.{record_text, record_written}
use Rattle.writer.specs.Laws.{short-enough, text-within, definition-within, told-text, told-unfit, told-within, record-size, front-no-room, record-put}
use Rattle.writer.proofs.write_record.Goals as goal
use Rattle.writer.proofs.write_record.Goals.{After-sequence_length, After-write_definition-end, Else-any_barred}

pub returns-then-too_long : goal.returns-then-too_long
unfolding record_written
returns-then-too_long c = rw (sym c.too_long.ensures ∙ c.if-too_long.true)

pub returns-then-width-eq0 : goal.returns-then-width-eq0
unfolding record_written
returns-then-width-eq0 c = rw (sym c.too_long.ensures ∙ c.if-too_long.false, eq-eqb _ _ c.if-width-eq0.true)

pub returns-then-name_unfit : goal.returns-then-name_unfit
unfolding record_written
returns-then-name_unfit c = rw (sym c.too_long.ensures ∙ c.if-too_long.false, ne_eqb _ _ c.if-width-eq0.false, sym c.name_unfit.ensures ∙ c.if-name_unfit.true)

pub returns-then-description_unfit : goal.returns-then-description_unfit
unfolding record_written
returns-then-description_unfit c = rw (sym c.too_long.ensures ∙ c.if-too_long.false, ne_eqb _ _ c.if-width-eq0.false, sym c.name_unfit.ensures ∙ c.if-name_unfit.false, sym (c.description_unfit.ensures ∙ told-unfit _ _ _ c.then_some-told.ensures) ∙ c.if-description_unfit.true)

pub returns-then-any_barred : goal.returns-then-any_barred
unfolding record_written
returns-then-any_barred c = rw (sym c.too_long.ensures ∙ c.if-too_long.false, ne_eqb _ _ c.if-width-eq0.false, sym c.name_unfit.ensures ∙ c.if-name_unfit.false, sym (c.description_unfit.ensures ∙ told-unfit _ _ _ c.then_some-told.ensures) ∙ c.if-description_unfit.false, sym c.any_barred.ensures ∙ c.if-any_barred.true)

-- what is written is within the limit
short : (c : Else-any_barred) → (let a = c.args in (length a.name.now ≤ 1099511627776) × ((length a.description.now ≤ 1099511627776) × (length a.bases.now ≤ 1099511627776)))
short c = short-enough _ _ _ (sym c.too_long.ensures ∙ c.if-too_long.false)

pub definition_length-requires : goal.definition_length-requires
definition_length-requires c = record { name_len_bound = (short (goal.at.definition_length-requires c).Else-any_barred).0; description_len_bound = omega (arith, (short (goal.at.definition_length-requires c).Else-any_barred).1.0, told-within _ _ _ c.then_some-told.ensures) }

pub sequence_length-requires : goal.sequence_length-requires
sequence_length-requires c = record { bases_len_bound = (short (goal.at.sequence_length-requires c).Else-any_barred).1.1; width_nonzero = omega (arith, c.if-width-eq0.false) }

-- so its size is far from the largest
small : (c : After-sequence_length) → c.definition_length.result + c.sequence_length.result ≤ 4398046511110
small c =
    let a = c.args in
    let w = (let short : (let a = c.args in (length a.name.now ≤ 1099511627776) × ((length a.description.now ≤ 1099511627776) × (length a.bases.now ≤ 1099511627776))) = short-enough _ _ _ (sym c.too_long.ensures ∙ c.if-too_long.false) in short) in
    let z : 0 < a.width = omega (arith, c.if-width-eq0.false) in
    omega (arith, c.definition_length.ensures, ap length (told-text _ _ _ c.then_some-told.ensures c.args.name.now), c.sequence_length.ensures, w.0, w.1.0, w.1.1, definition-within a.name.now a.described a.description.now, text-within a.width z a.bases.now)

-- and it is what is needed
needed : (c : After-sequence_length)
    → (let a = c.args in
    c.definition_length.result + c.sequence_length.result ≡ length (record_text a.name.now a.described a.description.now a.bases.now a.width))
needed c =
    let a = c.args in
    omega (arith, c.definition_length.ensures, ap length (told-text _ _ _ c.then_some-told.ensures c.args.name.now), c.sequence_length.ensures, record-size a.name.now a.described a.description.now a.bases.now a.width)

pub overflow_add-needed : goal.overflow_add-needed
overflow_add-needed c = omega (arith, small (goal.at.overflow_add-needed c).After-sequence_length)

pub returns-then-out-needed : goal.returns-then-out-needed
unfolding record_written
returns-then-out-needed c =
    let a = c.args in
    rw (sym c.too_long.ensures ∙ c.if-too_long.false, ne_eqb _ _ c.if-width-eq0.false, sym c.name_unfit.ensures ∙ c.if-name_unfit.false, sym (c.description_unfit.ensures ∙ told-unfit _ _ _ c.then_some-told.ensures) ∙ c.if-description_unfit.false, sym c.any_barred.ensures ∙ c.if-any_barred.false) (front-no-room (record_text a.name.now a.described a.description.now a.bases.now a.width) a.out.now _ (needed (goal.at.returns-then-out-needed c).After-sequence_length) (omega arith))

pub write_definition-end-requires : goal.write_definition-end-requires
write_definition-end-requires c = omega (arith, c.definition_length.ensures, ap length (told-text _ _ _ c.then_some-told.ensures c.args.name.now), c.if-out-needed.false)

-- the output has its length
first : (c : After-write_definition-end) → length c.write_definition-end.new.out ≡ length c.args.out.now
first c = ap length c.write_definition-end.ensures.holds ∙ overlaid-length _ 0 _ (omega (arith, c.definition_length.ensures, ap length (told-text _ _ _ c.then_some-told.ensures c.args.name.now), c.if-out-needed.false))

pub write_lines-requires : goal.write_lines-requires
write_lines-requires c = record { width_nonzero = omega (arith, c.if-width-eq0.false); bases_in_bounds = omega (arith, c.definition_length.ensures, ap length (told-text _ _ _ c.then_some-told.ensures c.args.name.now), c.sequence_length.ensures, c.if-out-needed.false, c.write_definition-end.ensures.place, first (goal.at.write_lines-requires c).After-write_definition-end) }

pub shape_of-out : goal.shape_of-out
shape_of-out c =
    ap length c.write_lines.ensures
    ∙ (overlaid-length _ _ _ (omega (arith, c.definition_length.ensures, ap length (told-text _ _ _ c.then_some-told.ensures c.args.name.now), c.sequence_length.ensures, c.if-out-needed.false, c.write_definition-end.ensures.place, first (goal.at.shape_of-out c).After-write_definition-end)) ∙ first (goal.at.shape_of-out c).After-write_definition-end)

pub returns : goal.returns
unfolding record_written
returns c =
    let a = c.args in
    rw (sym c.too_long.ensures ∙ c.if-too_long.false, ne_eqb _ _ c.if-width-eq0.false, sym c.name_unfit.ensures ∙ c.if-name_unfit.false, sym (c.description_unfit.ensures ∙ told-unfit _ _ _ c.then_some-told.ensures) ∙ c.if-description_unfit.false, sym c.any_barred.ensures ∙ c.if-any_barred.false) (record-put a.name.now a.described a.description.now a.bases.now a.width a.out.now _ _ _ _ (rw (told-text _ _ _ c.then_some-told.ensures a.name.now) at c.write_definition-end.ensures) c.write_lines.ensures (needed (goal.at.returns c).After-sequence_length) (omega arith))
