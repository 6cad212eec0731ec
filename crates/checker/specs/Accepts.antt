-- What it means that an index is accepted for a file, over the file's records and the index's lines, and without the checker's walk.
-- That the checker accepts exactly these pairs is in Exactly.antt.
use Rattle.std.specs.Prelude.{ℕ, suc, ◌+◌, ◌≤◌, ◌<◌, ◌≡◌, List, [], ◌∷◌, length, take, get_or, Ok}
use Rattle.lines.specs.Lines.{lines, sum_bases, sum_widths, bases_at}
use Rattle.lines.specs.Groups.{Group, groups}
use Rattle.definition.specs.Definition as definition
use Rattle.definition.specs.declared.Definition.{Definition}
use Rattle.record.specs.Place.{place_in}
use Rattle.index_line.specs.IndexLine.{name_of}
use Rattle.index_line.specs.IndexLine as index
use Rattle.index_line.specs.declared.Entry.{Entry}
use Rattle.checker.specs.Check.{span_of}

-- ---- the records of a file, from 0, and their places

-- how many bytes some records have
unfoldable pub bytes_of : List Group → ℕ
bytes_of [] = 0
bytes_of (g ∷ gs) = length g.def + sum_widths g.seq + bytes_of gs

-- record k of some; beyond them, nothing
abbrev pub record_at : List Group → ℕ → Group
record_at gs k = get_or gs k (record { def = []; seq = [] })

-- where record k begins, which is where its definition line does: behind the records before it
abbrev pub definition_at : List Group → ℕ → ℕ
definition_at gs k = bytes_of (take k gs)

-- where the sequence of record k begins: behind its definition line
abbrev pub sequence_at : List Group → ℕ → ℕ
sequence_at gs k = definition_at gs k + length (record_at gs k).def

-- ---- a record and its line

-- the definition line of a record reads, and line number n of the index reads
pub record BothRead (n : ℕ) (g : Group) (l : List ℕ) : Type 0 where
  pub said : Definition
  pub defined : definition.definition_says g.def ≡ Ok said
  pub entry : Entry
  pub reads : index.index_line_says n l ≡ Ok entry

-- they have the same name bytes
abbrev pub SameName : {n : ℕ} {g : Group} {l : List ℕ} → BothRead n g l → Type 0
SameName {n} {g} {l} b = span_of g.def b.said.name ≡ name_of l

-- and the same count of bases
abbrev pub SameLength : {n : ℕ} {g : Group} {l : List ℕ} → BothRead n g l → Type 0
SameLength {n} {g} {l} b = sum_bases g.seq ≡ b.entry.«record».length

-- the offset of base j + 1 by the line rule, where the sequence begins at an offset, is the one that the line's numbers give
abbrev pub InPlace : {n : ℕ} {g : Group} {l : List ℕ} → BothRead n g l → ℕ → ℕ → Type 0
InPlace {n} {g} {l} b start j = get_or (bases_at start g.seq) j 0 ≡ place_in b.entry.«record» j

-- the line describes the record, down to the place of every base
pub record Matches (n start : ℕ) (g : Group) (l : List ℕ) : Type 0 where
  pub both : BothRead n g l
  pub name : SameName both
  pub count : SameLength both
  pub places : (j : ℕ) → j < sum_bases g.seq → InPlace both start j

-- ---- a file and its index

-- no more than 1 TiB
abbrev pub limit : ℕ
limit = 1099511627776

-- both are within the limit
pub record Fit (f i : List ℕ) : Type 0 where
  pub fasta : length f ≤ limit
  pub index : length i ≤ limit

-- line k of the index matches record k of the file
abbrev pub MatchesAt : List ℕ → List ℕ → ℕ → Type 0
MatchesAt f i k = Matches (suc k) (sequence_at (groups (lines f)) k) (record_at (groups (lines f)) k) (get_or (lines i) k [])

-- an index is accepted for a file: both are within the limit, there are as many lines as records, and every line matches its record
pub record Accepts (f i : List ℕ) : Type 0 where
  pub limits : Fit f i
  pub count : length (lines i) ≡ length (groups (lines f))
  pub each : (k : ℕ) → k < length (groups (lines f)) → MatchesAt f i k
