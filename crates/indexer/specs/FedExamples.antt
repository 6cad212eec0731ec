-- The fed indexer on small files, cut between CR and LF, in a name, behind an LF and byte by byte. Each has the rows before the end call, and
-- those after it: one table, one proof.
use Rattle.std.specs.Prelude.{ℕ, ◌≡◌, refl, List, [], ◌∷◌, map, Result, Ok, Err, ⊤}
use Rattle.refusal.specs.declared.Refusal.{Refusal}
use Prim.Native.String.{String}
use Rattle.ascii.specs.Text.{text}
use Rattle.refusal.specs.declared.Refusal.TheVariants.{NoBases, TableFull}
use Rattle.lines.specs.Lines.{lines, chop, ends}
use Rattle.lines.specs.Feeding.{FedSum, absorb_sum, absorb_sums, feed_sum, feed_sums, finish_sum}
use Rattle.definition.specs.Definition.{is_space, run, keep}
use Rattle.table.specs.Rows.{words_of, words}
use Rattle.indexer.specs.Index.{fits_last}
use Rattle.indexer.specs.ByLines.{definition_out, first_out, line_out, State, start, found}
use Rattle.indexer.specs.LineSums.{Sum, skip, sum_of, grow, sum_says, step_sum, sums}

record Answer : Type 0 where
  before : List ℕ
  numbers : List ℕ
  stop : Result ⊤ Refusal

abbrev fed : ℕ → List String → FedSum State Sum
fed all ps = feed_sums (sums all) (record { state = start all; waiting = sum_of [] }) (map text ps)

abbrev answer_of : ℕ → List String → Answer
answer_of all ps = record {
  before = words (fed all ps).state.rows;
  numbers = words (found (finish_sum (sums all) (fed all ps))).rows;
  stop = (found (finish_sum (sums all) (fed all ps))).stop;
}

unfoldable files : List (List String)
files =
    (">s\nACGT\r" ∷ "\nAC" ∷ [])
    ∷ (">s" ∷ "q x\nA\n" ∷ "" ∷ ">t\nC\n" ∷ [])
    -- the missing line shows with the byte behind the LF
    ∷ (">s\n" ∷ ">" ∷ [])
    ∷ (">" ∷ "s" ∷ "\n" ∷ "A" ∷ "\n" ∷ ">" ∷ "t" ∷ "\n" ∷ "C" ∷ [])
    ∷ []

unfoldable answers : List Answer
answers =
    record { before = []; numbers = 1 ∷ 1 ∷ 6 ∷ 3 ∷ 4 ∷ 6 ∷ 0 ∷ 0 ∷ []; stop = Ok tt }
    ∷ record { before = 1 ∷ 2 ∷ 1 ∷ 6 ∷ 1 ∷ 2 ∷ 4 ∷ 1 ∷ []; numbers = 1 ∷ 2 ∷ 1 ∷ 6 ∷ 1 ∷ 2 ∷ 4 ∷ 1 ∷ []; stop = Err (TableFull 1) }
    ∷ record { before = []; numbers = []; stop = Err (NoBases 3) }
    ∷ record { before = 1 ∷ 1 ∷ 1 ∷ 3 ∷ 1 ∷ 2 ∷ 0 ∷ 0 ∷ []; numbers = 1 ∷ 1 ∷ 1 ∷ 3 ∷ 1 ∷ 2 ∷ 0 ∷ 0 ∷ []; stop = Err (TableFull 1) }
    ∷ []

fed-marked : map (answer_of 1) files ≡ answers
unfolding files answers lines chop ends absorb_sum absorb_sums feed_sum feed_sums finish_sum is_space run keep skip words_of words fits_last definition_out first_out line_out sum_of grow sum_says step_sum
fed-marked = refl
