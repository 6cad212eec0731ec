-- What each refusal of the checker means: the first fault in the order of R43 (docs/RULES.md), record by record. That the checker refuses exactly
-- so is in Faults.antt.
use Rattle.std.specs.Prelude.{ℕ, suc, ◌+◌, ◌≤◌, ◌<◌, ◌≡◌, List, [], ◌∷◌, length, drop, Ok, Err}
use Rattle.refusal.specs.declared.Refusal.{Refusal}
use Rattle.refusal.specs.declared.Refusal.TheVariants.{TooLong, LineAbsent, BytesLeft, NameDiffers, LengthDiffers, BaseElsewhere}
use Rattle.lines.specs.Lines.{lines, sum_bases}
use Rattle.lines.specs.Groups.{Group, groups}
use Rattle.definition.specs.Definition.{refusal_in}
use Rattle.definition.specs.Definition as definition
use Rattle.definition.specs.declared.Definition.{Definition}
use Rattle.definition.specs.declared.Fault.{Fault}
use Rattle.index_line.specs.IndexLine as index
use Rattle.checker.specs.Accepts.{record_at, definition_at, BothRead, SameName, SameLength, InPlace, limit, Fit, MatchesAt}

-- what is wrong between record n, whose definition line reads and whose sequence begins at an offset, and its line
pub data LineFault (n start : ℕ) (g : Group) (l : List ℕ) : Refusal → Type 0 where
  -- 9 to 12: the line does not read
  bad-line : (x : Refusal) → index.index_line_says n l ≡ Err x → LineFault n start g l x
  -- 21: it reads, and has another name
  other_name : (b : BothRead n g l) → (SameName b → ⊥) → LineFault n start g l (NameDiffers n)
  -- 22: it has the same name, and another count of bases
  other_length : (b : BothRead n g l) → SameName b → (SameLength b → ⊥) → LineFault n start g l (LengthDiffers n)
  -- 23: it has the same name and count, and base j + 1 is the first that is not in its place
  other_place : (b : BothRead n g l) → SameName b → SameLength b → (j : ℕ) → j < sum_bases g.seq → ((m : ℕ) → m < j → InPlace b start m) → (InPlace b start j → ⊥)
      → LineFault n start g l (BaseElsewhere n (suc j))

-- what is wrong with record n, which begins at an offset, where some lines of the index are left
pub data RecordFault (n at : ℕ) (g : Group) : List (List ℕ) → Refusal → Type 0 where
  -- 2 to 4: its definition line does not read; the refusal has the record, and the offset at which reading failed
  bad-definition : {left : List (List ℕ)} → (e : Fault) → definition.definition_says g.def ≡ Err e → RecordFault n at g left (refusal_in e n at)
  -- 19: it reads, and no line is left
  no-line : (d : Definition) → definition.definition_says g.def ≡ Ok d → RecordFault n at g [] (LineAbsent n)
  -- it reads, and the next line is wrong
  wrong-line : {l : List ℕ} {left : List (List ℕ)} {x : Refusal} → (d : Definition) → definition.definition_says g.def ≡ Ok d → LineFault n (at + length g.def) g l x → RecordFault n at g (l ∷ left) x

-- a file and an index have a first fault
pub data FirstFault (f i : List ℕ) : Refusal → Type 0 where
  -- 1: for the file, then for the index
  long-fasta : limit < length f → FirstFault f i TooLong
  long-index : length f ≤ limit → limit < length i → FirstFault f i TooLong
  -- 2 to 4, 19, 9 to 12, 21, 22, 23: record r is wrong, and all before it match
  wrong-record : {x : Refusal} → Fit f i → (r : ℕ) → r < length (groups (lines f)) → ((k : ℕ) → k < r → MatchesAt f i k)
      → RecordFault (suc r) (definition_at (groups (lines f)) r) (record_at (groups (lines f)) r) (drop r (lines i)) x → FirstFault f i x
  -- 20: all records match, and lines are left
  lines_left : Fit f i → ((k : ℕ) → k < length (groups (lines f)) → MatchesAt f i k) → length (groups (lines f)) < length (lines i)
      → FirstFault f i (BytesLeft (length (groups (lines f))))
