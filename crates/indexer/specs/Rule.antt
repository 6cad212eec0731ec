-- What a record and a whole file give by a rule: a row for each record, up to the first refusal. A rule judges a record's sequence lines
-- and gives the row of good ones. The ported rule stands in Index.antt; the crate `fitting` has the complete one.
use Rattle.std.specs.Prelude.{ℕ, ◌+◌, List, [], ◌∷◌, cond, length, drop, Option, Some, None, Result, Ok, Err}
use Rattle.definition.specs.declared.Fault.{Fault}
use Rattle.refusal.specs.Numbers.{over_limit}
use Rattle.refusal.specs.declared.Refusal.{Refusal}
use Rattle.refusal.specs.declared.Refusal.TheVariants.{TooLong}
use Rattle.lines.specs.Lines.{lines, seq_of, sum_widths}
use Rattle.lines.specs.Groups.{Group, groups}
use Rattle.definition.specs.declared.Definition.{Definition}
use Rattle.definition.specs.Definition.{definition_says, refusal_at}
use Rattle.record.specs.declared.Record.{Record}
use Rattle.record.specs.Description.{described_at}
use Rattle.table.specs.Fill.{Found, nothing, with_first, held_in}
use Rattle.indexer.specs.declared.Step.{Step}

-- whether a record's lines are good, or the first refusal
pub data Verdict : Type 0 where
  good : Verdict
  bad : Refusal → Verdict

pub record SequenceRule : Type 0 where
  -- the verdict on sequence lines, which begin at an offset
  pub judge : ℕ → List (List ℕ) → Verdict
  -- the row of a record, by where its definition begins, the bytes of that line, what it says, and the sequence lines
  pub row : ℕ → ℕ → Definition → List (List ℕ) → Record

-- the row of a record whose definition begins at an offset, by what the definition says, the length, the position, the line bases and the line
-- width. Name and description are spans of the file
abbrev pub row_for : ℕ → Definition → ℕ → ℕ → ℕ → ℕ → Record
row_for at d n p b w =
    record {
      name_start = at + d.name.start;
      name_length = d.name.length;
      length = n;
      position = record { 0 = p };
      line_bases = b;
      line_width = w;
      description_start = described_at (at + d.description.start) d.description.length;
      description_length = d.description.length;
    }

-- ---- one record

-- an answer, with the place behind the record, or the place where it was
abbrev pub judged_by : SequenceRule → ℕ → ℕ → Definition → List (List ℕ) → Verdict → Step
judged_by rule at n d ls good = record { answer = Ok (Some (rule.row at n d ls)); next = record { at = at + n + sum_widths ls } }
judged_by rule at n d ls (bad x) = record { answer = Err x; next = record { at = at } }

-- a record whose definition line has been read
unfoldable pub sequence_by : SequenceRule → ℕ → ℕ → Definition → List (List ℕ) → Step
sequence_by rule at n d ls = judged_by rule at n d ls (rule.judge (at + n) ls)

abbrev pub defined_by : SequenceRule → ℕ → ℕ → List (List ℕ) → Result Definition Fault → Step
defined_by rule at n ls (Ok d) = sequence_by rule at n d ls
defined_by rule at n ls (Err f) = record { answer = Err (refusal_at f at); next = record { at = at } }

-- the record whose definition is the first of some lines, which begin at an offset
abbrev pub first_by : SequenceRule → ℕ → List (List ℕ) → Step
first_by rule at [] = record { answer = Ok None; next = record { at = at } }
first_by rule at (d ∷ ls) = defined_by rule at (length d) (seq_of ls) (definition_says d)

-- the record at an offset of a file
unfoldable pub record_by : SequenceRule → List ℕ → ℕ → Step
record_by rule s at = first_by rule at (lines (drop at s))

-- ---- a whole file

-- one record's answer, with what the file from an offset on gives behind it
abbrev pub onwards : Result (Option Record) Refusal → Found → Found
onwards (Ok (Some x)) f = with_first x f
onwards (Ok None) f = nothing (Ok tt)
onwards (Err y) f = nothing (Err y)

abbrev pub stepped : Step → (ℕ → Found) → Found
stepped x f = onwards x.answer (f x.next.at)

-- what a group, which begins at an offset, gives
abbrev pub group_by : SequenceRule → ℕ → Group → Step
group_by rule at g = defined_by rule at (length g.def) g.seq (definition_says g.def)

-- the rows of some groups; the first begins at an offset
unfoldable pub groups_by : SequenceRule → List Group → ℕ → Found
groups_by rule [] at = nothing (Ok tt)
groups_by rule (g ∷ gs) at = stepped (group_by rule at g) (groups_by rule gs)

-- the rows of a file from an offset on
unfoldable pub file_by : SequenceRule → List ℕ → ℕ → Found
file_by rule s at = groups_by rule (groups (lines (drop at s))) at

-- the call, with a table of so many rows: the size limit first
unfoldable pub call_by : SequenceRule → List ℕ → ℕ → Found
call_by rule s n = cond (over_limit (length s)) (nothing (Err TooLong)) (held_in n n (file_by rule s 0))
