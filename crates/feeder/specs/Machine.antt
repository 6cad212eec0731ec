-- The indexer as a machine over lines, by either rule, with the table that it fills. With each line it learns whether the sequence ends behind
-- it: the next byte is '>', or the file ends.
use Rattle.std.specs.Prelude.{ℕ, ◌+◌, ◌-◌, ◌≡◌, List, Bool, cond, eqb, ltb, Option, Some, None, Result, Ok, Err}
use Rattle.record.specs.declared.Offset.{Offset}
use Rattle.record.specs.declared.Position.{Position}
use Rattle.definition.specs.declared.Fault.{Fault}
use Rattle.refusal.specs.Numbers.{numbers_of}
use Rattle.refusal.specs.declared.Refusal.{Refusal}
use Rattle.refusal.specs.declared.Refusal.TheVariants.{NoBases, LineBases, LineWidth, TableFull, NoIndexFits}
use Rattle.lines.specs.declared.Line.{Line}
use Rattle.lines.specs.Lines.{up_from}
use Rattle.lines.specs.Feeding.{FedSum, Summing, absorb_sum, feed_sum}
use Rattle.definition.specs.declared.Definition as definition
use Rattle.definition.specs.Definition.{refusal_at}
use Rattle.record.specs.declared.Record.{Record}
use Rattle.table.specs.Numbers.{numbers_in, rest_of}
use Rattle.table.specs.Rows.{row_count, with_row}
use Rattle.indexer.specs.Rule.{row_for}
use Rattle.indexer.specs.Index.{fits_last}
use Rattle.indexer.specs.LineSums.{sum_says}
use Rattle.walking.specs.Places.{first_elsewhere}
use Rattle.fitting.specs.declared.Numbers.{Numbers}
use Rattle.fitting.specs.declared.Rule.{Rule}
use Rattle.fitting.specs.declared.Rule.TheVariants.{Strict, Complete}
use Rattle.fitting.specs.Complete.{place_by}
use Rattle.feeder.specs.declared.Waiting.{Waiting}
use Rattle.feeder.specs.declared.Opened.{Opened}
use Rattle.feeder.specs.declared.SoFar.{SoFar}
use Rattle.feeder.specs.declared.SoFar.TheVariants.{Blank, Run, Rows}
use Rattle.feeder.specs.declared.Phase.{Phase}
use Rattle.feeder.specs.declared.Phase.TheVariants.{Definition, Lines, Halted, Ended}
use Rattle.feeder.specs.declared.Out.{Out}
use Rattle.feeder.specs.declared.Out.TheVariants.{Keeps, Emits}
use Rattle.feeder.specs.declared.Settled.{Settled}
use Rattle.feeder.specs.declared.Fed.{Fed}
use Rattle.feeder.specs.Waiting.{unpack, waiting_of, grow_by}

-- ---- what a line gives

-- the row of a record with m bases
abbrev pub row_of : Opened → Numbers → ℕ → Record
row_of d n m = row_for d.at d.said m n.position n.bases n.width

-- the numbers of a line that begins at an offset, and a line of some numbers
abbrev pub numbers_of_line : ℕ → Line → Numbers
numbers_of_line z x = record { position = z; bases = x.bases; width = x.width }

abbrev pub line_by : Numbers → Line
line_by n = record { width = n.width; bases = n.bases }

-- a refusal, and nothing more
abbrev pub halt : Refusal → Out
halt f = Keeps (Halted (numbers_of f))

-- a record without sequence lines
unfoldable pub close_alone : Rule → Opened → Out
close_alone Strict d = halt (NoBases d.end)
close_alone Complete d = Emits (row_of d (record { position = d.end; bases = 1; width = 2 }) 0) d.end

-- a definition line of w bytes
abbrev pub opened_at : ℕ → ℕ → definition.Definition → Opened
opened_at at w said = record { at = at; end = at + w; said = said }

unfoldable pub definition_out : Rule → ℕ → ℕ → Bool → Result definition.Definition Fault → Out
definition_out rule at w last (Ok said) = cond last (close_alone rule (opened_at at w said)) (Keeps (Lines (opened_at at w said) Blank (at + w)))
definition_out rule at w last (Err f) = halt (refusal_at f at)

-- by the ported rule, a record's first sequence line
unfoldable pub first_out : Opened → ℕ → Line → Bool → Out
first_out d z x last =
    cond (eqb x.bases 0) (halt (NoBases (z + x.width)))
    (cond last (Emits (row_of d (numbers_of_line z x) x.bases) (z + x.width)) (Keeps (Lines d (Rows (numbers_of_line z x) x.bases) (z + x.width))))

-- a further one, behind m bases
unfoldable pub further_out : Opened → Numbers → ℕ → ℕ → Line → Bool → Out
further_out d n m z x last =
    cond (fits_last last x (line_by n)) (Emits (row_of d n (m + x.bases)) (z + x.width))
    (cond (eqb x.bases n.bases)
    (cond (eqb x.width n.width) (Keeps (Lines d (Rows n (m + x.bases)) (z + x.width))) (halt (LineWidth x.width n.width)))
    (halt (LineBases x.bases n.bases)))

unfoldable pub strict_out : Opened → SoFar → ℕ → Line → Bool → Out
strict_out d Blank z x last = first_out d z x last
strict_out d (Run n) z x last = further_out d n n.bases z x last
strict_out d (Rows n m) z x last = further_out d n m z x last

-- by the complete rule, the row of a record by what its lines say
unfoldable pub told_row : Opened → SoFar → Record
told_row d Blank = row_of d (record { position = d.end; bases = 1; width = 2 }) 0
told_row d (Run n) = row_of d n n.bases
told_row d (Rows n m) = row_of d n m

-- a line that fits: the record goes on at z, or ends there
unfoldable pub passed_out : Opened → SoFar → ℕ → Bool → Out
passed_out d t z last = cond last (Emits (told_row d t) z) (Keeps (Lines d t z))

-- a line with bases beside rows, behind m bases: each lies where the rows say, or the first that does not is refused
abbrev pub placed_out : Opened → Numbers → ℕ → ℕ → Bool → Option (Position × Offset) → Out
placed_out d n m z last None = passed_out d (Rows n m) z last
placed_out d n m z last (Some (p, o)) = halt (NoIndexFits o.0 p.0)

unfoldable pub rows_out : Opened → Numbers → ℕ → ℕ → Line → Bool → Out
rows_out d n m z x last = placed_out d n (m + x.bases) (z + x.width) last (first_elsewhere (place_by n) m (up_from z x.bases))

-- a line with bases
unfoldable pub bases_out : Opened → SoFar → ℕ → Line → Bool → Out
bases_out d Blank z x last = passed_out d (Run (numbers_of_line z x)) (z + x.width) last
bases_out d (Run n) z x last = rows_out d (record { position = n.position; bases = n.bases; width = z - n.position }) n.bases z x last
bases_out d (Rows n m) z x last = rows_out d n m z x last

unfoldable pub complete_out : Opened → SoFar → ℕ → Line → Bool → Out
complete_out d t z x last = cond (eqb x.bases 0) (passed_out d t (z + x.width) last) (bases_out d t z x last)

-- a line of a sequence, which begins at z
unfoldable pub line_out : Rule → Opened → SoFar → ℕ → Line → Bool → Out
line_out Strict d t z x last = strict_out d t z x last
line_out Complete d t z x last = complete_out d t z x last

-- a line, by what the machine awaits
unfoldable pub out_of : Rule → Phase → Waiting → Bool → Out
out_of rule (Definition at) t last = definition_out rule at t.width last (sum_says (unpack t))
out_of rule (Lines d so z) t last = line_out rule d so z (record { width = t.width; bases = t.bases }) last
out_of rule (Halted n) t last = Keeps (Halted n)
out_of rule Ended t last = Keeps Ended

-- ---- with the table

-- what the machine awaits, how many rows are written, and the numbers of the table
pub record Filling : Type 0 where
  pub phase : Phase
  pub rows : ℕ
  pub table : List ℕ

abbrev pub filling : Phase → ℕ → List ℕ → Filling
filling p n t = record { phase = p; rows = n; table = t }

-- a row goes behind those that are written, if the table has a row there
unfoldable pub applied : ℕ → List ℕ → Out → Filling
applied n t (Keeps p) = filling p n t
applied n t (Emits x z) = cond (ltb n (row_count t)) (filling (Definition z) (n + 1) (with_row t n x)) (filling (Halted (numbers_of (TableFull (row_count t)))) n t)

unfoldable pub step_by : Rule → Filling → Waiting → Bool → Filling
step_by rule st t last = applied st.rows st.table (out_of rule st.phase t last)

-- the machine: what is kept of a line, judging it by that, and further bytes
abbrev pub machine : Rule → Summing Filling Waiting
machine rule = record { sum = waiting_of; judge = step_by rule; whole = λ t. t.whole; empty = λ t. eqb t.width 0; grow = grow_by }

-- ---- what each part of the code leaves

abbrev pub fed_in : Fed → List ℕ → FedSum Filling Waiting
fed_in f t = record { state = filling f.phase f.rows t; waiting = f.waiting }

pub record SettleDone (out : Out) (n : ℕ) (before : List ℕ) (r : Settled) (after : List ℕ) : Type 0 where
  pub is : filling r.phase r.rows (numbers_in after) ≡ applied n (numbers_in before) out
  pub rest : rest_of after ≡ rest_of before

pub record AbsorbDone (rule : Rule) (f : Fed) (l before : List ℕ) (r : Fed) (after : List ℕ) : Type 0 where
  pub is : fed_in r (numbers_in after) ≡ absorb_sum (machine rule) (fed_in f (numbers_in before)) l
  pub rest : rest_of after ≡ rest_of before

pub record FeedDone (rule : Rule) (f : Fed) (p before : List ℕ) (r : Fed) (after : List ℕ) : Type 0 where
  pub is : fed_in r (numbers_in after) ≡ feed_sum (machine rule) (fed_in f (numbers_in before)) p
  pub rest : rest_of after ≡ rest_of before
