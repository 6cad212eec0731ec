-- What each refusal of the checker of FASTQ means: the first fault in the order of R88 (docs/RULES.md). That the checker refuses exactly so is in
-- Exactly.antt.
use Rattle.std.specs.Prelude.{ℕ, suc, ◌≤◌, ◌<◌, ◌≡◌, List, [], ◌∷◌, length, drop, get_or, Ok, Err}
use Rattle.refusal.specs.declared.Refusal.{Refusal}
use Rattle.refusal.specs.declared.Refusal.TheVariants.{TooLong, LineAbsent, BytesLeft, NameDiffers, LengthDiffers, BaseElsewhere}
use Rattle.lines.specs.Lines.{lines}
use Rattle.record.specs.Place.{place_in}
use Rattle.index_line.specs.IndexLine.{name_in}
use Rattle.fastq.specs.Parts.{part_of}
use Rattle.fastq.specs.declared.Part.{Part}
use Rattle.fastq.specs.declared.Part.TheVariants.{Bases, Qualities}
use Rattle.fastq.specs.declared.QualityRow.{QualityRow}
use Rattle.fastq_line.specs.SixColumns.{six_line_says, name_of}
use Rattle.fastq_line.specs.declared.Entry.{Entry}
use Rattle.fastq_index.specs.File.{rows_at}
use Rattle.checker.specs.Accepts.{limit, Fit}
use Rattle.fastq_checker.specs.Check.{offsets_of}
use Rattle.fastq_checker.specs.Accepts.{records_of, record_at, MatchesAt}

-- base, or quality, j + 1 of record x of a file is where row y says
abbrev pub InPlace : List ℕ → QualityRow → QualityRow → Part → ℕ → Type 0
InPlace f x y p j = get_or (offsets_of f x p) j 0 ≡ place_in (part_of p y) j

-- all are
abbrev pub AllInPlace : List ℕ → QualityRow → QualityRow → Part → Type 0
AllInPlace f x y p = (j : ℕ) → j < length (offsets_of f x p) → InPlace f x y p j

-- number j + 1 is the first that is not
pub record FirstElsewhere (f : List ℕ) (x y : QualityRow) (p : Part) (j : ℕ) : Type 0 where
  pub within : j < length (offsets_of f x p)
  pub before : (m : ℕ) → m < j → InPlace f x y p m
  pub here : InPlace f x y p j → ⊥

-- line l reads, as line number n, and has the name of record x of a file
pub record SameName (n : ℕ) (f : List ℕ) (x : QualityRow) (l : List ℕ) (e : Entry) : Type 0 where
  pub reads : six_line_says n l ≡ Ok e
  pub name : name_in f x.«record» ≡ name_of l

-- and its count of bases
pub record SameCount (n : ℕ) (f : List ℕ) (x : QualityRow) (l : List ℕ) (e : Entry) : Type 0 where
  pub named : SameName n f x l e
  pub count : x.«record».length ≡ e.row.«record».length

-- what is wrong between record x of a file, which is number n, and its line
pub data LineFault (n : ℕ) (f : List ℕ) (x : QualityRow) (l : List ℕ) : Refusal → Type 0 where
  -- 9 to 12: the line does not read
  bad-line : (y : Refusal) → six_line_says n l ≡ Err y → LineFault n f x l y
  -- 21: it reads, and has another name
  other_name : (e : Entry) → six_line_says n l ≡ Ok e → (name_in f x.«record» ≡ name_of l → ⊥) → LineFault n f x l (NameDiffers n)
  -- 22: it has the same name, and another count of bases
  other_length : (e : Entry) → SameName n f x l e → (x.«record».length ≡ e.row.«record».length → ⊥) → LineFault n f x l (LengthDiffers n)
  -- 23: it has the same name and count, and a base is the first that is not in its place
  other-base : (e : Entry) → SameCount n f x l e → (j : ℕ) → FirstElsewhere f x e.row Bases j → LineFault n f x l (BaseElsewhere n (suc j))
  -- 23: every base is in its place too, and a quality is the first that is not
  other-quality : (e : Entry) → SameCount n f x l e → AllInPlace f x e.row Bases → (j : ℕ) → FirstElsewhere f x e.row Qualities j
      → LineFault n f x l (BaseElsewhere n (suc j))

-- what is wrong with record x of a file, where some lines of the index are left
pub data RecordFault (n : ℕ) (f : List ℕ) (x : QualityRow) : List (List ℕ) → Refusal → Type 0 where
  -- 19: no line is left
  no-line : RecordFault n f x [] (LineAbsent n)
  -- the next line is wrong
  wrong-line : {l : List ℕ} {left : List (List ℕ)} {y : Refusal} → LineFault n f x l y → RecordFault n f x (l ∷ left) y

-- a file and an index have a first fault
pub data FirstFault (f i : List ℕ) : Refusal → Type 0 where
  -- 1: for the file, then for the index
  long-file : limit < length f → FirstFault f i TooLong
  long-index : length f ≤ limit → limit < length i → FirstFault f i TooLong
  -- what the indexer refuses
  bad-file : Fit f i → (y : Refusal) → (rows_at f 0).stop ≡ Err y → FirstFault f i y
  -- 19, 9 to 12, 21, 22, 23: record r is wrong, and all before it match
  wrong-record : {y : Refusal} → Fit f i → (rows_at f 0).stop ≡ Ok tt → (r : ℕ) → r < length (records_of f) → ((k : ℕ) → k < r → MatchesAt f i k)
      → RecordFault (suc r) f (record_at (records_of f) r) (drop r (lines i)) y → FirstFault f i y
  -- 20: all records match, and lines are left
  lines_left : Fit f i → (rows_at f 0).stop ≡ Ok tt → ((k : ℕ) → k < length (records_of f) → MatchesAt f i k) → length (records_of f) < length (lines i)
      → FirstFault f i (BytesLeft (length (records_of f)))
