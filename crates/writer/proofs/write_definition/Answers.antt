-- `writer::write_definition` meets its contract: the parts of the line, one behind another.
use Rattle.std.proofs.Common.{◌+◌, ◌≤◌, ◌≡◌, ap, ◌∙◌, length, length-set, arith, is_some}
use Rattle.columns.specs.Bytes.{overlaid-length}
use Rattle.writer.specs.Text.{described_text, lent}
use Rattle.writer.specs.Laws.{line-parts, name-length, definition-put}
use Rattle.writer.proofs.write_definition.Goals as goal
use Rattle.writer.proofs.write_definition.Goals.{After-put_bytes, After-write_description-end, Start}

-- there is room for the parts
room : (c : Start) → length c.args.name.now + length (described_text (is_some c.args.description) (lent c.args.description)) + 2 ≤ length c.args.out.now
room c = rw (← line-parts c.args.name.now (is_some c.args.description) (lent c.args.description)) c.requires

-- the output has its length after each step
named : (c : After-put_bytes) → length c.put_bytes.new.out ≡ length c.args.out.now
named c =
    ap length c.put_bytes.ensures ∙ name-length c.args.name.now (is_some c.args.description) (lent c.args.description) c.args.out.now c.requires

described : (c : After-write_description-end) → length c.write_description-end.new.out ≡ length c.args.out.now
described c =
    ap length c.write_description-end.ensures.holds ∙ (overlaid-length _ _ _ (omega (arith, (let room : length c.args.name.now + length (described_text (is_some c.args.description) (lent c.args.description)) + 2 ≤ length c.args.out.now = rw (← line-parts c.args.name.now (is_some c.args.description) (lent c.args.description)) c.requires in room), (let named : length c.put_bytes.new.out ≡ length c.args.out.now = ap length c.put_bytes.ensures ∙ name-length c.args.name.now (is_some c.args.description) (lent c.args.description) c.args.out.now c.requires in named))) ∙ (let named : length c.put_bytes.new.out ≡ length c.args.out.now = ap length c.put_bytes.ensures ∙ name-length c.args.name.now (is_some c.args.description) (lent c.args.description) c.args.out.now c.requires in named))

pub bounds-out-0 : goal.bounds-out-0
bounds-out-0 c = omega (arith, room (goal.at.bounds-out-0 c).Start)

pub put_bytes-requires : goal.put_bytes-requires
put_bytes-requires c = simp length-set (omega (arith, room (goal.at.put_bytes-requires c).Start))

pub write_description-end-requires : goal.write_description-end-requires
write_description-end-requires c = omega (arith, room (goal.at.write_description-end-requires c).Start, named (goal.at.write_description-end-requires c).After-put_bytes)

pub bounds-out-end : goal.bounds-out-end
bounds-out-end c = omega (arith, room (goal.at.bounds-out-end c).Start, described (goal.at.bounds-out-end c).After-write_description-end, c.write_description-end.ensures.place)

pub overflow_add-result : goal.overflow_add-result
overflow_add-result c = omega (arith, room (goal.at.overflow_add-result c).Start, described (goal.at.overflow_add-result c).After-write_description-end, c.write_description-end.ensures.place)

pub shape_of-out : goal.shape_of-out
shape_of-out c = simp length-set (described (goal.at.shape_of-out c).After-write_description-end)

pub returns : goal.returns
returns c =
    definition-put c.args.name.now (is_some c.args.description) (lent c.args.description) c.args.out.now c.requires _ _ _ c.put_bytes.ensures c.write_description-end.ensures
