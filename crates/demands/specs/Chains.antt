-- The calls one after another: what one leaves is what the next needs.
use Rattle.std.specs.Prelude.{ℕ, ◌*◌, ◌≤◌, ◌<◌, ◌≡◌, List, length}
use Rattle.std.proofs.Common.{ap, ◌∙◌, arith, zero-add}
use Rattle.lines.specs.Lines.{lines}
use Rattle.lines.specs.Groups.{groups}
use Rattle.table.specs.Rows.{row_count}
use Rattle.table.specs.Fill.{Found}
use Rattle.output.specs.Outcome.{leaves, pours}
use Rattle.index.specs.Index.{index_in}
use Rattle.fitting.specs.declared.Rule.{Rule}
use Rattle.fitting.specs.Rules.{rule_of, rows_in}
use Rattle.checker.specs.Accepts.{limit, Accepts}
use Rattle.table.specs.Numbers.{numbers_in}
use Rattle.wakeluri.specs.declared.answer.Answer.{Answer}
use Rattle.wakeluri.specs.Told.{written_told}
use Rattle.mission.specs.IndexedLaws.{Along, taken}
use Rattle.mission.specs.Leading.{line_in, row_in, LeadsTo, index_text, leading-accepted}
use Rattle.mission.specs.TableOf.{record_count, Gives, TableOf}
use Rattle.mission.specs.TableLaws.{accepted-gives}
use Rattle.mission.specs.Tables.{indexed-gives, indexed-leads}
use Rattle.demands.specs.Calls.{ReadIndex, IndexFile, WriteIndexLine}
use Rattle.demands.specs.Host.{AreBytes, row_bytes, Filled, LineNeeds, joined}
use Rattle.demands.specs.TableBytes.{rows-room}
use Rattle.demands.specs.Laws.{found-ended, left-answer, left-numbers, left-table, joined-lines, front-is, front-needs, row-fronted}

-- how many rows a lent table has, and what the calls that fill it find
abbrev size : List ℕ → ℕ
size table = row_count (numbers_in table)

abbrev index_rows : List ℕ → List ℕ → Found
index_rows index table = index_in index (row_count (numbers_in table))

abbrev file_rows : Rule → List ℕ → List ℕ → Found
file_rows rule file table = rows_in rule file (row_count (numbers_in table))

-- a call has filled a table with a file's records: its answer, and the table
pub record Ready (file table' : List ℕ) (filled : Answer) : Type 0 where
  pub small : length file ≤ limit
  pub told : Filled file filled
  pub table : TableOf file (numbers_in table') filled.count

-- an accepted index is read
pub index-ready : (file index table table' : List ℕ) (filled : Answer) → AreBytes table → Accepts file index → record_count file * row_bytes ≤ length table → ReadIndex index table filled table'
    → Ready file table' filled
index-ready file index table table' filled bytes accepted room read =
    let g : Gives file (index_rows index table) (size table) = accepted-gives file index accepted (size table) (rows-room table (record_count file) room) in
    let a = left-answer file table table' (index_rows index table) filled bytes g read in
    record {
      small = g.small;
      told = record { refusal = a.0; count = a.1 ∙ g.rows.count };
      table = left-table file table table' (index_rows index table) filled bytes g read;
    }

-- a file is indexed
module _ (rule : Rule) (file table table' : List ℕ) (filled : Answer) (bytes : AreBytes table) (indexed : IndexFile rule file table filled table') (zero : filled.refusal ≡ 0) where
  found : Gives file (file_rows rule file table) (size table)
  found = indexed-gives rule file (size table) (found-ended filled table table' (file_rows rule file table) indexed zero)

  count : filled.count ≡ length (file_rows rule file table).rows
  count = (left-answer file table table' (file_rows rule file table) filled bytes found indexed).1

  pub file-ready : Ready file table' filled
  file-ready =
      record {
        small = found.small;
        told = record { refusal = zero; count = count ∙ found.rows.count };
        table = left-table file table table' (file_rows rule file table) filled bytes found indexed;
      }

  leads : Along (LeadsTo file) 0 (groups (lines file)) (file_rows rule file table).rows (file_rows rule file table).stop
  leads = rw (taken (rule_of rule) file (size table) found.stop).whole (indexed-leads rule file)

  -- and the line of each row is written
  abbrev line : ℕ → List ℕ
  line row = line_in file (row_in (file_rows rule file table).rows row)

  fronted : (row : ℕ) → row < filled.count → (out out' : List ℕ) (written : Answer) → WriteIndexLine file table' filled.count row out written out'
      → leaves written out' ≡ written_told (pours (line row) out)
  fronted row h out out' written write =
      let v = left-numbers file table table' (file_rows rule file table) filled bytes found indexed in
      let c = count in
      (rw (v, c) at write)
      ∙ ap written_told
      (row-fronted file (numbers_in table) (file_rows rule file table).rows (file_rows rule file table).stop leads found.small found.room row (omega arith) out)

  pub line-needs : (row : ℕ) → row < filled.count → LineNeeds file table' filled row
  line-needs row h = record { needed = length (line row); always = λ out out' written write. front-needs written (line row) out out' (fronted row h out out' written write) }

  -- joined, they are an index that is accepted
  module _ (outs outs' : ℕ → List ℕ) (written : ℕ → Answer)
      (write : (row : ℕ) → row < filled.count → WriteIndexLine file table' filled.count row (outs row) (written row) (outs' row))
      (all : (row : ℕ) → row < filled.count → (written row).refusal ≡ 0) where
    lines_are : joined written outs' 0 filled.count ≡ index_text file (file_rows rule file table).rows
    lines_are =
        let c = count in
        rw c
        (joined-lines file (file_rows rule file table).rows written outs' 0
        (λ j m. rw (zero-add j)
        (front-is (written j) (line j) (outs j) (outs' j) (fronted j (omega arith) (outs j) (outs' j) (written j) (write j (omega arith))) (all j (omega arith)))))

    pub lines-accepted : length (joined written outs' 0 filled.count) ≤ limit → Accepts file (joined written outs' 0 filled.count)
    lines-accepted small =
        rw lines_are
        (leading-accepted file (file_rows rule file table).rows (file_rows rule file table).stop leads found.stop found.small (rw lines_are at small))
