-- Demand 3 where a host meets it: at the entry points, over the bytes that it lends. Whatever the calls answer and leave, if it meets their
-- contracts (Calls.antt), then:
--
-- `check-exactly`: wakeluri_check answers 0 exactly if the index is accepted (`Accepts`, which says it without the checker's walk).
--
-- `checked-index`, `checked-read`: if it answers 0, then wakeluri_read_index into a table with room for the file's records answers 0, and how
-- many they are. With the table as that call left it, wakeluri_read_exact of a row below that count, by bounds inside the record, given or
-- absent, with room in the output, gives just those bases.
--
-- `indexed-index`, `indexed-read`: the same of the table that wakeluri_index_file or wakeluri_index_complete leaves, if that answers 0,
-- with no index text between.
--
-- `indexed-line`, `indexed-checked`: wakeluri_write_index_line of a row of that table answers 0, or 14 and how much room its line needs. If it
-- answers 0 for each row, then the lines, one after another, are an index for which wakeluri_check answers 0, if they are within the limit.
use Rattle.std.specs.Prelude.{ℕ, ◌*◌, ◌≤◌, ◌<◌, ◌≡◌, List, length}
use Rattle.fitting.specs.declared.Rule.{Rule}
use Rattle.checker.specs.Accepts.{limit}
use Rattle.checker.specs.Check.{check_of}
use Rattle.checker.specs.Exactly.{accepted-if, accepted-only-if}
use Rattle.table.specs.Numbers.{numbers_in}
use Rattle.wakeluri.specs.declared.answer.Answer.{Answer}
use Rattle.wakeluri.specs.Answer.{bound_of}
use Rattle.mission.specs.TableOf.{record_count}
use Rattle.mission.specs.Asked.{Asked}
use Rattle.demands.specs.Calls.{Check, ReadIndex, IndexFile, WriteIndexLine, ReadExact}
use Rattle.demands.specs.Host.{AreBytes, row_bytes, Exactly, Filled, JustThose, LineNeeds, joined}
use Rattle.demands.specs.Laws.{accepted-zero, zero-accepted, table-told}
use Rattle.demands.specs.Chains.{Ready, index-ready, file-ready, line-needs, lines-accepted}

-- ---- check

pub check-exactly : (file index : List ℕ) (checked : Answer) → Check file index checked → Exactly file index checked
check-exactly file index checked check =
    record {
      only_if = λ zero. accepted-only-if file index (zero-accepted (check_of file index) (rw check at zero));
      if' = λ accepted. rw check (accepted-zero (check_of file index) (accepted-if file index accepted));
    }

-- ---- read bases from a table that is ready

ready_read : (file table' : List ℕ) (filled : Answer) → Ready file table' filled → (row has-start start has_end end : ℕ) (out out' : List ℕ) (answer : Answer)
    → Asked file row (bound_of has-start start) (bound_of has_end end) out → ReadExact file table' filled.count row has-start start has_end end out answer out'
    → JustThose file row (bound_of has-start start) (bound_of has_end end) out answer out'
ready_read file table' filled ready row has-start start has_end end out out' answer asked exact =
    table-told file (numbers_in table') filled.count row (bound_of has-start start) (bound_of has_end end) out answer out' ready.table ready.small asked exact

-- ---- check, read the index, read bases

module _ (file index table table' : List ℕ) (checked filled : Answer) (bytes : AreBytes table) (check : Check file index checked) (zero : checked.refusal ≡ 0)
    (room : record_count file * row_bytes ≤ length table) (read : ReadIndex index table filled table') where
  ready : Ready file table' filled
  ready = index-ready file index table table' filled bytes ((check-exactly file index checked check).only_if zero) room read

  pub checked-index : Filled file filled
  checked-index = ready.told

  pub checked-read : (row has-start start has_end end : ℕ) (out out' : List ℕ) (answer : Answer)
      → Asked file row (bound_of has-start start) (bound_of has_end end) out → ReadExact file table' filled.count row has-start start has_end end out answer out'
      → JustThose file row (bound_of has-start start) (bound_of has_end end) out answer out'
  checked-read = ready_read file table' filled ready

-- ---- index, read bases; index, write the lines, check them

module _ (rule : Rule) (file table table' : List ℕ) (filled : Answer) (bytes : AreBytes table) (indexed : IndexFile rule file table filled table') (zero : filled.refusal ≡ 0) where
  pub indexed-index : Filled file filled
  indexed-index = (file-ready rule file table table' filled bytes indexed zero).told

  pub indexed-read : (row has-start start has_end end : ℕ) (out out' : List ℕ) (answer : Answer)
      → Asked file row (bound_of has-start start) (bound_of has_end end) out → ReadExact file table' filled.count row has-start start has_end end out answer out'
      → JustThose file row (bound_of has-start start) (bound_of has_end end) out answer out'
  indexed-read = ready_read file table' filled (file-ready rule file table table' filled bytes indexed zero)

  pub indexed-line : (row : ℕ) → row < filled.count → LineNeeds file table' filled row
  indexed-line = line-needs rule file table table' filled bytes indexed zero

  pub indexed-checked : (outs outs' : ℕ → List ℕ) (written : ℕ → Answer) (checked : Answer)
      → ((row : ℕ) → row < filled.count → WriteIndexLine file table' filled.count row (outs row) (written row) (outs' row))
      → ((row : ℕ) → row < filled.count → (written row).refusal ≡ 0)
      → length (joined written outs' 0 filled.count) ≤ limit → Check file (joined written outs' 0 filled.count) checked → checked.refusal ≡ 0
  indexed-checked outs outs' written checked write all small check =
      (check-exactly file (joined written outs' 0 filled.count) checked check).if'
      (lines-accepted rule file table table' filled bytes indexed zero outs outs' written write all small)
