-- A written record (request K3) where a host meets it: at the entry points. If wakeluri_write_record answers 0 and what it wrote, the first
-- `count` bytes of the output, is within the limit, then of these bytes:
--
-- `written-defines`: wakeluri_definition_line, of the definition line at their front, answers the places of the name and of the description.
--
-- `written-sequence`: wakeluri_read_sequence, from behind that line, with room for them, gives just the bases, and leaves the end.
--
-- `written_row`, `written-end`: if there are bases, wakeluri_index_record of offset 0 answers one row, that of their count and the width, and that
-- the record ends where the bytes do; asked there, it answers the end.
use Prim.Native.Nat.{ℕ, ◌≤◌, ◌<◌}
use Rattle.std.specs.Prelude.{◌≡◌, take, drop, Ok}
use Rattle.std.proofs.Math.Path.{ap}
use Rattle.std.proofs.Common.{◌∙◌, arith}
use mathlib.Core.List.{List, ◌++◌}
use Rattle.std.proofs.Math.ListN.{length}
use borrow.Author.Tests.{le-ltb, le-leb}
use Rattle.refusal.specs.Numbers.{over_limit}
use Rattle.output.specs.Outcome.{leaves}
use Rattle.sequence.specs.Read.{read_whole, poured, written as poured-all}
use Rattle.checker.specs.Accepts.{limit}
use Rattle.writer.specs.Text.{definition_text, record_text}
use Rattle.writer.specs.Reads.{definition_of, call-put}
use Rattle.written.specs.Indexed.{row_worked}
use Rattle.written.specs.Scans.{written-scans}
use Rattle.written.specs.Calls.{call-reads, call-indexed}
use Rattle.wakeluri.specs.declared.answer.Answer.{Answer}
use Rattle.wakeluri.specs.declared.answer.DefinitionAnswer.{DefinitionAnswer}
use Rattle.wakeluri.specs.declared.answer.RowAnswer.{RowAnswer}
use Rattle.wakeluri.specs.Answer.{fine, no_record, answer_of, given_by, definition_answer, sequence_answer, step_answer, row_told}
use Rattle.wakeluri.specs.Told.{sequence_told}
use Rattle.demands.specs.Calls.{WriteRecord, DefinitionLine, IndexRecord, ReadSequence}
use Rattle.demands.specs.WritingLaws.{zero-wrote}

module _ (name : List ℕ) (has-description : ℕ) (description bases : List ℕ) (width : ℕ) (out out' : List ℕ) (written : Answer)
    (write : WriteRecord name has-description description bases width out written out') (zero : written.refusal ≡ 0) (small : written.count ≤ limit) where
  pub written-defines : (a : DefinitionAnswer) → DefinitionLine (definition_text name (given_by has-description) description) a
      → a ≡ definition_answer (Ok (definition_of name (given_by has-description) description))
  written-defines a told =
      told ∙ ap definition_answer (call-reads name (given_by has-description) description bases width out written.count out' (zero-wrote _ written out' write zero) small).0

  pub written_row : 0 < length bases → (a : RowAnswer) → IndexRecord (take written.count out') 0 a
      → a ≡ row_told fine 1 written.count 0 (row_worked 0 name (given_by has-description) description bases width)
  unfolding step_answer
  written_row some a told =
      told ∙ ap step_answer (call-indexed name (given_by has-description) description bases width out written.count out' (zero-wrote _ written out' write zero) small some).0

  pub written-end : 0 < length bases → (a : RowAnswer) → IndexRecord (take written.count out') written.count a → a ≡ row_told fine 0 0 0 no_record
  unfolding step_answer
  written-end some a told =
      told ∙ ap step_answer (call-indexed name (given_by has-description) description bases width out written.count out' (zero-wrote _ written out' write zero) small some).1

  pub written-sequence : (room room' : List ℕ) (a : Answer) → length bases ≤ length room
      → ReadSequence (take written.count out') (length (definition_text name (given_by has-description) description)) room a room'
      → leaves a room' ≡ leaves (answer_of fine (length bases) written.count) (bases ++ drop (length bases) room)
  unfolding read_whole over_limit poured poured-all sequence_told sequence_answer
  written-sequence room room' a fits told =
      let p = call-put name (given_by has-description) description bases width out written.count out' (zero-wrote _ written out' write zero) in
      let text : List ℕ = record_text name (given_by has-description) description bases width in
      let n : length text ≤ limit = omega (arith, p.size) in
      told
      ∙ rw (p.front, le-ltb 1099511627776 (length text) n, written-scans name (given_by has-description) description bases width p.writable, le-leb (length bases) (length room) fits, p.size)
