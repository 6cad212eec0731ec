-- `checker::Place::check_record` meets its contract: the record at the place is its definition line and the sequence lines behind it, and
-- the line at the place is the first that is left.
use Rattle.std.proofs.Common.{arith, ◌≡◌, Err, rules}
use Rattle.lines.specs.Laws.{line_end-le}
use Rattle.checker.specs.Steps.{line-span, stepped-refused, stepped-next}
use Rattle.checker.proofs.Place.check_record.Goals as goal

pub slice_bounds-judge_record-end : goal.slice_bounds-judge_record-end
slice_bounds-judge_record-end c =
    omega (arith, c.line_end-start.ensures, line_end-le c.args.fasta.now c.args.self.fasta (omega arith))

pub slice_bounds-judge_record-end-2 : goal.slice_bounds-judge_record-end-2
slice_bounds-judge_record-end-2 c =
    omega (arith, c.line_end-behind.ensures, line_end-le c.args.index.now c.args.self.index (omega arith))

pub judge_record-requires : goal.judge_record-requires
judge_record-requires c =
    let h = c.requires.1 in
    rw (c.line_end-start.ensures, line-span c.args.fasta.now c.args.self.fasta h) (line_end-le c.args.fasta.now c.args.self.fasta (omega arith))

pub returns-in_err-next : goal.returns-in_err-next
returns-in_err-next c =
    let e : c.from_residual.result ≡ Err c.in_err-next.field-0.0 = search rules in
    rw e (stepped-refused _ _ _ c.requires.1 c.requires.2 _ _ c.line_end-start.ensures c.line_end-behind.ensures _ c.judge_record.ensures _ c.in_err-next.was)

pub returns : goal.returns
returns c =
    stepped-next _ _ _ c.requires.1 c.requires.2 _ _ c.line_end-start.ensures c.line_end-behind.ensures _ c.judge_record.ensures _ c.in_ok-next.was
