-- `feeder::records::take_record` meets its contract: the lines of a whole record give its row, and it leaves any other record.
use Rattle.std.proofs.Common.{arith, sym, ◌∙◌}
use Rattle.lines.specs.Laws.{line_end-le}
use Rattle.feeder.specs.Turns.{record-full, record-small, record-kept}
use Rattle.feeder.proofs.records.take_record.Goals as goal

pub slice_bounds-parse_line-end : goal.slice_bounds-parse_line-end
slice_bounds-parse_line-end c = omega (arith, c.line_end-e.ensures, line_end-le c.args.p.now c.args.i (omega (arith, c.requires.0)))

pub whole_sequence-requires : goal.whole_sequence-requires
whole_sequence-requires c = (omega (arith, c.line_end-e.ensures, line_end-le c.args.p.now c.args.i (omega (arith, c.requires.0))), c.requires.1)

pub overflow_add-end : goal.overflow_add-end
overflow_add-end c = omega (arith, c.requires.1, c.requires.2, c.line_end-e.ensures, line_end-le c.args.p.now c.args.i (omega (arith, c.requires.0)))

pub row-x-requires : goal.row-x-requires
row-x-requires c = record-small c.args.at c.args.rows c.args.p.now c.args.i c.requires.0 c.args.table.now c.requires.1 c.requires.2 _ c.line_end-e.ensures _ (sym c.parse_line.ensures ∙ c.in-Ok.is)

pub returns-in-Ok-store : goal.returns-in-Ok-store
returns-in-Ok-store c = record-kept _ _ _ _ c.requires.0 _ c.requires.1 c.requires.2 _ c.line_end-e.ensures _ (sym c.parse_line.ensures ∙ c.in-Ok.is) _ (rw c.in-Some.is at c.whole_sequence.ensures) _ _ _ c.row-x.ensures c.store.ensures c.in-Ok-store.is

pub returns-in-Err : goal.returns-in-Err
returns-in-Err c = record-full _ _ _ _ c.requires.0 _ _ _ _ _ c.store.ensures c.in-Err.is
