-- What each entry point promises a host, as a relation between the bytes that are lent, the answer, and the bytes that are left. Each is the
-- `ensures` of the call in crates/wakeluri/src, word for word; ../src/lib.rt makes the call and is proved to meet it by that alone.
use Rattle.std.specs.Prelude.{ℕ, ◌≡◌, List}
use Rattle.table.specs.Rows.{row_count}
use Rattle.definition.specs.Definition.{line_read}
use Rattle.sequence.specs.Read.{read_whole}
use Rattle.index_line.specs.IndexLine.{written_as}
use Rattle.writer.specs.Text.{record_written}
use Rattle.indexer.specs.Index.{record_read}
use Rattle.index.specs.Index.{index_in}
use Rattle.index.specs.Find.{row_read}
use Rattle.fitting.specs.declared.Rule.{Rule}
use Rattle.fitting.specs.Rules.{rows_in}
use Rattle.region.specs.Exact.{exact_read}
use Rattle.region.specs.Raw.{raw_read}
use Rattle.region.specs.Window.{window_read, needed_read}
use Rattle.checker.specs.Check.{check_of}
use Rattle.exercise.specs.Writing as exercise
use Rattle.scorer.specs.Scorer.{scorer_of}
use Rattle.table.specs.Numbers.{numbers_in}
use Rattle.wakeluri.specs.declared.answer.Answer.{Answer}
use Rattle.wakeluri.specs.declared.answer.DefinitionAnswer.{DefinitionAnswer}
use Rattle.wakeluri.specs.declared.answer.RowAnswer.{RowAnswer}
use Rattle.wakeluri.specs.declared.window.PartAnswer.{PartAnswer}
use Rattle.wakeluri.specs.Window.{part_answer}
use Rattle.wakeluri.specs.declared.course.ScoreAnswer.{ScoreAnswer}
use Rattle.wakeluri.specs.Answer.{bound_of, given_by, verdict_answer, found_answer, definition_answer, step_answer}
use Rattle.output.specs.Outcome.{leaves}
use Rattle.wakeluri.specs.Told.{filled_told, written_told, sequence_told}
use Rattle.wakeluri.specs.Course.{scored_told}
use Rattle.wakeluri.specs.declared.feeding.Feed.{Feed}
use Rattle.wakeluri.specs.Feeding.{rule_by, feeder_by, feed_told, call_told}
use Rattle.feeder.specs.Calls.{begun_by, piece_of, end_of}

-- wakeluri_check(file, index) answers a
abbrev pub Check : List ℕ → List ℕ → Answer → Type 0
Check file index a = a ≡ verdict_answer (check_of file index)

-- wakeluri_read_index(index, table) answers a, and leaves table'
abbrev pub ReadIndex : List ℕ → List ℕ → Answer → List ℕ → Type 0
ReadIndex index table a table' = leaves a table' ≡ filled_told (index_in index (row_count (numbers_in table))) table

-- wakeluri_index_file(file, table), by the ported rule, and wakeluri_index_complete(file, table), by the complete one
abbrev pub IndexFile : Rule → List ℕ → List ℕ → Answer → List ℕ → Type 0
IndexFile rule file table a table' = leaves a table' ≡ filled_told (rows_in rule file (row_count (numbers_in table))) table

-- wakeluri_write_index_line(names, table, in_use, row, out)
abbrev pub WriteIndexLine : List ℕ → List ℕ → ℕ → ℕ → List ℕ → Answer → List ℕ → Type 0
WriteIndexLine names table in_use row out a out' = leaves a out' ≡ written_told (written_as names (numbers_in table) in_use row out)

-- wakeluri_find(names, table, in_use, name)
abbrev pub Find : List ℕ → List ℕ → ℕ → List ℕ → Answer → Type 0
Find names table in_use name a = a ≡ found_answer (row_read names (numbers_in table) in_use name)

-- wakeluri_read_exact(file, table, in_use, row, has_start, start, has_end, end, out), and wakeluri_read_raw of the same
abbrev pub ReadExact : List ℕ → List ℕ → ℕ → ℕ → ℕ → ℕ → ℕ → ℕ → List ℕ → Answer → List ℕ → Type 0
ReadExact file table in_use row has-start start has_end end out a out' =
    leaves a out' ≡ written_told (exact_read file (numbers_in table) in_use row (bound_of has-start start) (bound_of has_end end) out)

abbrev pub ReadRaw : List ℕ → List ℕ → ℕ → ℕ → ℕ → ℕ → ℕ → ℕ → List ℕ → Answer → List ℕ → Type 0
ReadRaw file table in_use row has-start start has_end end out a out' =
    leaves a out' ≡ written_told (raw_read file (numbers_in table) in_use row (bound_of has-start start) (bound_of has_end end) out)

-- wakeluri_needed_bytes(length, room, table, in_use, row, has_start, start, has_end, end)
abbrev pub NeededBytes : ℕ → ℕ → List ℕ → ℕ → ℕ → ℕ → ℕ → ℕ → ℕ → PartAnswer → Type 0
NeededBytes length room table in_use row has-start start has_end end p =
    p ≡ part_answer (needed_read length room (numbers_in table) in_use row (bound_of has-start start) (bound_of has_end end))

-- wakeluri_read_window(length, window, from, table, in_use, row, has_start, start, has_end, end, out)
abbrev pub ReadWindow : ℕ → List ℕ → ℕ → List ℕ → ℕ → ℕ → ℕ → ℕ → ℕ → ℕ → List ℕ → Answer → List ℕ → Type 0
ReadWindow length window from table in_use row has-start start has_end end out a out' =
    leaves a out' ≡ written_told (window_read length window from (numbers_in table) in_use row (bound_of has-start start) (bound_of has_end end) out)

-- wakeluri_write_record(name, has_description, description, bases, width, out)
abbrev pub WriteRecord : List ℕ → ℕ → List ℕ → List ℕ → ℕ → List ℕ → Answer → List ℕ → Type 0
WriteRecord name has-description description bases width out a out' =
    leaves a out' ≡ written_told (record_written name (given_by has-description) description bases width out)

-- wakeluri_definition_line(line)
abbrev pub DefinitionLine : List ℕ → DefinitionAnswer → Type 0
DefinitionLine line a = a ≡ definition_answer (line_read line)

-- wakeluri_index_record(file, at)
abbrev pub IndexRecord : List ℕ → ℕ → RowAnswer → Type 0
IndexRecord file at a = a ≡ step_answer (record_read file (record { at = at }))

-- wakeluri_read_sequence(file, at, out)
abbrev pub ReadSequence : List ℕ → ℕ → List ℕ → Answer → List ℕ → Type 0
ReadSequence file at out a out' = leaves a out' ≡ sequence_told (read_whole file (record { at = at }) out)

-- wakeluri_write_exercise(name, start, end, edition, out)
abbrev pub WriteExercise : List ℕ → ℕ → ℕ → ℕ → List ℕ → Answer → List ℕ → Type 0
WriteExercise name start end edition out a out' = leaves a out' ≡ written_told (exercise.written_as 2 name start end edition out)

-- wakeluri_score_exercise(exercise, typed, file, names, table, in_use, room)
abbrev pub ScoreExercise : List ℕ → List ℕ → List ℕ → List ℕ → List ℕ → ℕ → List ℕ → ScoreAnswer → List ℕ → Type 0
ScoreExercise exercise typed file names table in_use room a room' = leaves a room' ≡ scored_told (scorer_of exercise typed file names (numbers_in table) in_use room)

-- wakeluri_feed_start(complete), wakeluri_feed_piece(feed, piece, table) and wakeluri_feed_end(feed, table)
abbrev pub FeedStart : ℕ → Feed → Type 0
FeedStart complete a = a ≡ feed_told (begun_by (rule_by complete))

abbrev pub FeedPiece : Feed → List ℕ → List ℕ → Feed → List ℕ → Type 0
FeedPiece feed piece table a table' = leaves a table' ≡ call_told (piece_of (feeder_by feed) piece (numbers_in table)) table

abbrev pub FeedEnd : Feed → List ℕ → Feed → List ℕ → Type 0
FeedEnd feed table a table' = leaves a table' ≡ call_told (end_of (feeder_by feed) (numbers_in table)) table
