-- Each call's answer as a host gets it: the refusal's number and its two numbers, 0 if there is none, and what was found. What
-- was not found is 0.
use Rattle.std.specs.Prelude.{ℕ, ◌+◌, Bool, cond, not, eqb, Option, Some, None, Result, Ok, Err, ⊤}
use Rattle.refusal.specs.declared.Refusal.{Refusal}
use Rattle.record.specs.declared.Position.{Position}
use Rattle.lines.specs.declared.Cursor.{Cursor}
use Rattle.definition.specs.declared.Definition.{Definition}
use Rattle.index_line.specs.declared.Entry.{Entry}
use Rattle.refusal.specs.declared.Numbers.{Numbers}
use Rattle.refusal.specs.Numbers.{numbers_of}
use Rattle.lines.specs.declared.Span.{Span}
use Rattle.record.specs.declared.Record.{Record}
use Rattle.indexer.specs.declared.Step as step
use Rattle.wakeluri.specs.declared.answer.Answer.{Answer}
use Rattle.wakeluri.specs.declared.answer.DefinitionAnswer.{DefinitionAnswer}
use Rattle.wakeluri.specs.declared.answer.SpanAnswer.{SpanAnswer}
use Rattle.wakeluri.specs.declared.answer.RowAnswer.{RowAnswer}

-- ---- what a host gives

-- what has a flag is absent if it is 0, and given otherwise
unfoldable pub given_by : ℕ → Bool
given_by flag = not (eqb flag 0)

-- a bound is absent if its flag is 0, and given otherwise, whatever its number
unfoldable pub bound_of : ℕ → ℕ → Option Position
bound_of flag p = cond (eqb flag 0) None (Some (record { 0 = p }))

-- ---- what a host gets

-- no refusal; no bytes; no record
abbrev pub fine : Numbers
fine = record { refusal = 0; first = 0; second = 0 }

abbrev pub no_span : Span
no_span = record { start = 0; length = 0 }

abbrev pub no_record : Record
no_record = record { name_start = 0; name_length = 0; length = 0; position = record { 0 = 0 }; line_bases = 0; line_width = 0; description_start = 0; description_length = 0 }

-- 1 for yes, 0 for no
abbrev pub flag_of : Bool → ℕ
flag_of b = cond b 1 0

-- the four structs, field by field
abbrev pub answer_of : Numbers → ℕ → ℕ → Answer
answer_of n count next = record { refusal = n.refusal; first = n.first; second = n.second; count = count; next = next }

abbrev pub definition_of : Numbers → Span → Span → DefinitionAnswer
definition_of n name description = record {
  refusal = n.refusal;
  first = n.first;
  second = n.second;
  name_start = name.start;
  name_length = name.length;
  description_start = description.start;
  description_length = description.length;
}

abbrev pub span_of : Numbers → ℕ → Span → ℕ → SpanAnswer
span_of n found span next =
    record { refusal = n.refusal; first = n.first; second = n.second; found = found; start = span.start; length = span.length; next = next }

abbrev pub row_told : Numbers → ℕ → ℕ → ℕ → Record → RowAnswer
row_told n found next plain x = record {
  refusal = n.refusal;
  first = n.first;
  second = n.second;
  found = found;
  next = next;
  plain = plain;
  name_start = x.name_start;
  name_length = x.name_length;
  length = x.length;
  position = x.position.0;
  line_bases = x.line_bases;
  line_width = x.line_width;
  description_start = x.description_start;
  description_length = x.description_length;
}

-- ---- a count and a place

-- how many bytes were written; which row was found
unfoldable pub written_answer : Result ℕ Refusal → Answer
written_answer (Ok n) = answer_of fine n 0
written_answer (Err f) = answer_of (numbers_of f) 0 0

unfoldable pub found_answer : Result ℕ Refusal → Answer
found_answer (Ok r) = answer_of fine r 0
found_answer (Err f) = answer_of (numbers_of f) 0 0

-- how many bases were read, and the place where the read stopped
unfoldable pub sequence_answer : Result (ℕ × Cursor) Refusal → Answer
sequence_answer (Ok (n, c)) = answer_of fine n c.at
sequence_answer (Err f) = answer_of (numbers_of f) 0 0

-- how many rows the table has now, after a refusal too
unfoldable pub filled_answer : ℕ → Result ⊤ Refusal → Answer
filled_answer rows (Ok tt) = answer_of fine rows 0
filled_answer rows (Err f) = answer_of (numbers_of f) rows 0

-- whether an index was accepted
unfoldable pub verdict_answer : Result ⊤ Refusal → Answer
verdict_answer (Ok tt) = answer_of fine 0 0
verdict_answer (Err f) = answer_of (numbers_of f) 0 0

-- ---- spans

-- what a definition line says
unfoldable pub definition_answer : Result Definition Refusal → DefinitionAnswer
definition_answer (Ok d) = definition_of fine d.name d.description
definition_answer (Err f) = definition_of (numbers_of f) no_span no_span

-- a line's content, and the place behind the line
unfoldable pub line_answer : Option (Span × Cursor) → SpanAnswer
line_answer (Some (s, c)) = span_of fine 1 s c.at
line_answer None = span_of fine 0 no_span 0

-- a run of bases, and the place behind it
unfoldable pub run_answer : Result Span Refusal → SpanAnswer
run_answer (Ok s) = span_of fine 1 s (s.start + s.length)
run_answer (Err f) = span_of (numbers_of f) 0 no_span 0

-- ---- rows

-- an index line's record, and whether the line is plain
unfoldable pub entry_answer : Result Entry Refusal → RowAnswer
entry_answer (Ok e) = row_told fine 1 0 (flag_of e.plain) e.«record»
entry_answer (Err f) = row_told (numbers_of f) 0 0 0 no_record

-- a record's row, and the place behind the record
abbrev pub indexed_answer : ℕ → Result (Option Record) Refusal → RowAnswer
indexed_answer next (Ok (Some x)) = row_told fine 1 next 0 x
indexed_answer next (Ok None) = row_told fine 0 0 0 no_record
indexed_answer next (Err f) = row_told (numbers_of f) 0 0 0 no_record

unfoldable pub step_answer : step.Step → RowAnswer
step_answer s = indexed_answer s.next.at s.answer
