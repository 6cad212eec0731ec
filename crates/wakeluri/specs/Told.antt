-- What a call answers a host, and what it leaves in the bytes that are lent to it: an output, or a table.
use Rattle.std.specs.Prelude.{ℕ, List, cond, length, Result}
use Rattle.refusal.specs.declared.Refusal.{Refusal}
use Rattle.lines.specs.declared.Cursor.{Cursor}
use Rattle.refusal.specs.declared.Refusal.TheVariants.{TooLong}
use Rattle.refusal.specs.Numbers.{numbers_of, over_limit}
use Rattle.lines.specs.Lines.{read_line}
use Rattle.record.specs.declared.Record.{Record}
use Rattle.table.specs.Rows.{with_rows}
use Rattle.output.specs.Outcome.{Outcome, leaves}
use Rattle.table.specs.Fill.{Found}
use Rattle.table.specs.Numbers.{numbers_in, with_numbers}
use Rattle.wakeluri.specs.declared.answer.Answer.{Answer}
use Rattle.wakeluri.specs.declared.answer.RowAnswer.{RowAnswer}
use Rattle.wakeluri.specs.declared.answer.SpanAnswer.{SpanAnswer}
use Rattle.wakeluri.specs.Answer.{no_span, span_of, written_answer, sequence_answer, filled_answer, line_answer}

-- so many bytes, or a refusal
unfoldable pub written_told : Outcome (Result ℕ Refusal) → Outcome Answer
written_told o = leaves (written_answer o.answer) o.output

-- a read of a sequence
unfoldable pub sequence_told : Outcome (Result (ℕ × Cursor) Refusal) → Outcome Answer
sequence_told o = leaves (sequence_answer o.answer) o.output

-- a table filled with rows, from its first
unfoldable pub filled_told : Found → List ℕ → Outcome Answer
filled_told f t = leaves (filled_answer (length f.rows) f.stop) (with_numbers t (with_rows (numbers_in t) 0 f.rows))

-- a line read: the size limit first
unfoldable pub line_told : List ℕ → ℕ → SpanAnswer
line_told s at = cond (over_limit (length s)) (span_of (numbers_of TooLong) 0 no_span 0) (line_answer (read_line s (record { at = at })))

-- the numbers of a row, as a host gets them
abbrev pub told_row : RowAnswer → Record
told_row a = record {
  name_start = a.name_start;
  name_length = a.name_length;
  length = a.length;
  position = record { 0 = a.position };
  line_bases = a.line_bases;
  line_width = a.line_width;
  description_start = a.description_start;
  description_length = a.description_length;
}
