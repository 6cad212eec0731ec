-- A plain line, as a host meets it: it puts the answer of wakeluri_index_line in a row of a table of bytes, and wakeluri_write_index_line writes
-- that row with the same bytes.
use Rattle.std.specs.Prelude.{ℕ, ◌≤◌, ◌<◌, ◌≡◌, List, ◌++◌, length, drop}
use Rattle.std.proofs.Common.{◌∙◌}
use Rattle.table.specs.Rows.{row_count, row_at}
use Rattle.index_line.specs.IndexLine.{read_line, written_as}
use Rattle.index_line.specs.PlainAgain.{plain_row}
use Rattle.table.specs.Numbers.{numbers_in}
use Rattle.wakeluri.specs.Answer.{fine, answer_of, entry_answer, written_answer}
use Rattle.output.specs.Outcome.{leaves}
use Rattle.wakeluri.specs.Told.{written_told}
use Rattle.wakeluri.specs.Told.{told_row}
use Rattle.wakeluri.specs.PlainAgainLaws.{told-plain}

-- the bytes of a table with n rows in use, with the answered numbers in row r; there is room for the line
pub plain-again : (line table : List ℕ) (n r : ℕ) (out : List ℕ) → (entry_answer (read_line line)).plain ≡ 1
    → n ≤ row_count (numbers_in table) → r < n → row_at (numbers_in table) r ≡ told_row (entry_answer (read_line line)) → length line ≤ length out
    → written_told (written_as line (numbers_in table) n r out) ≡ leaves (answer_of fine (length line) 0) (line ++ drop (length line) out)
unfolding written_told written_answer
plain-again line table n r out h some used row room =
    let x = told-plain line h in
    rw (plain_row line x.entry (numbers_in table) n r out x.reads x.plain some used (row ∙ x.same) room)
