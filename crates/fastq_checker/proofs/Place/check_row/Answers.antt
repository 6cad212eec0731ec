-- `fastq_checker::Place::check_row` meets its contract: the line at the place is the first that is left.
use Rattle.std.proofs.Common.{arith}
use Rattle.lines.specs.Laws.{line_end-le}
use Rattle.fastq_checker.specs.JudgeLaws.{row-refused, row_next}
use Rattle.fastq_checker.proofs.Place.check_row.Goals as goal

pub slice_bounds-judge_record-count : goal.slice_bounds-judge_record-count
slice_bounds-judge_record-count c = omega (arith, c.parse_at-found.ensures.end)

pub slice_bounds-judge_record-end : goal.slice_bounds-judge_record-end
slice_bounds-judge_record-end c =
    omega (arith, c.parse_at-found.ensures.end, line_end-le c.args.index.now c.args.self.index (omega arith))

pub judge_record-requires : goal.judge_record-requires
judge_record-requires c = (c.requires.2, c.parse_at-found.ensures.read)

pub returns-in-Err : goal.returns-in-Err
returns-in-Err c =
    row-refused _ _ _ _ _ _ c.requires.1 c.parse_at-found.ensures.end _ c.judge_record.ensures _ _ c.in-Err.is

pub returns-in-Ok : goal.returns-in-Ok
returns-in-Ok c =
    row_next _ _ _ _ _ _ c.requires.1 c.parse_at-found.ensures.end _ c.judge_record.ensures _ c.in-Ok.is
