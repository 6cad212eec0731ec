-- The index lines of rows that lead to their records: each is one line, reads back, and matches its record.
use Rattle.std.specs.Prelude.{ℕ, zero, suc, ◌^◌, ◌<◌, ◌≡◌, length, get_or, Ok}
use Rattle.std.proofs.Math.Path.{refl, sym}
use Rattle.std.proofs.Common.{ap, ◌∙◌, arith}
use mathlib.Core.List.{List, [], ◌∷◌, ◌++◌, append-nil}
use Rattle.lines.specs.Lines.{lines}
use Rattle.definition.specs.Definition.{is_space}
use Rattle.columns.specs.Bytes.{is}
use Rattle.columns.specs.Lacks.{Lacks}
use Rattle.record.specs.Place.{place_in}
use Rattle.index_line.specs.IndexLine.{name_in}
use Rattle.mission.specs.NameLaws.{spaceless-lacks}
use Rattle.mission.specs.IndexedLaws.{text-first, text-name}
use Rattle.fastq.specs.Parts.{part_of}
use Rattle.fastq.specs.declared.Part.{Part}
use Rattle.fastq.specs.declared.Part.TheVariants.{Bases, Qualities}
use Rattle.fastq.specs.declared.QualityRow.{QualityRow}
use Rattle.fastq_line.specs.SixColumns.{six_line_says, name_of}
use Rattle.fastq_line.specs.RoundTrip.{five_of, six_line_of, entry_of, written-reads}
use Rattle.fastq_checker.specs.Accepts.{record_at, Matches}
use Rattle.fastq_mission.specs.Leads.{Leads}
use Rattle.fastq_line.specs.Sound.{line-sound}

-- the index line of a row, whose name is a span of a file
abbrev pub line_in : List ℕ → QualityRow → List ℕ
line_in f x = six_line_of (name_in f x.«record») x

-- the index lines of some rows, one after another
unfoldable pub index_text : List ℕ → List QualityRow → List ℕ
index_text f [] = []
index_text f (x ∷ xs) = line_in f x ++ index_text f xs

-- each of some rows leads to its record
abbrev pub AllLead : List ℕ → List QualityRow → Type 0
AllLead f xs = (k : ℕ) → k < length xs → Leads f (record_at xs k)

pub lead-behind : (f : List ℕ) (x : QualityRow) (xs : List QualityRow) → AllLead f (x ∷ xs) → AllLead f xs
lead-behind f x xs a k h = a (suc k) (omega arith)

module _ (f : List ℕ) (x : QualityRow) (d : Leads f x) where
  -- a name has no tab and no LF
  untabbed : Lacks (is 9) (name_in f x.«record»)
  unfolding is_space
  untabbed = spaceless-lacks 9 refl (name_in f x.«record») d.unbroken

  -- so the line of a row, in front of others, is the first line
  pub line-of : (r : List ℕ) → lines (line_in f x ++ r) ≡ line_in f x ∷ lines r
  unfolding is_space six_line_of
  line-of r = text-first (name_in f x.«record») (five_of x) r (spaceless-lacks 10 refl (name_in f x.«record») d.unbroken)

  module _ (small : length f < 2 ^ 64) where
    fits : x.qualities.0 < 2 ^ 64
    unfolding part_of
    fits = omega (arith, (d.front Qualities).inside)

    -- and reads back, whichever its number
    pub reads : (n : ℕ) → six_line_says n (line_in f x) ≡ Ok (entry_of (length (name_in f x.«record»)) x)
    reads n = written-reads n (name_in f x.«record») x untabbed (d.lined small) fits

    name-read : name_in f x.«record» ≡ name_of (line_in f x)
    unfolding entry_of six_line_of
    name-read =
        let s = line-sound 1 (line_in f x) (entry_of (length (name_in f x.«record»)) x) (reads 1) in
        sym (rw append-nil at (text-name (name_in f x.«record») (five_of x) [])) ∙ s.name

    placed : (p : Part) (j : ℕ) → place_in (part_of p x) j ≡ place_in (part_of p (entry_of (length (name_in f x.«record»)) x).row) j
    unfolding entry_of part_of
    placed Bases j = refl
    placed Qualities j = refl

    -- so it matches its record
    pub matched : (n : ℕ) → Matches n f x (line_in f x)
    matched n =
        record {
          entry = entry_of (length (name_in f x.«record»)) x;
          reads = reads n;
          name = name-read;
          count = unfold entry_of in refl;
          places = λ p j h. d.places p j h ∙ placed p j;
        }

-- ---- all of them

-- line k is that of row k, and there is a line for each row
pub line_at : (f : List ℕ) (xs : List QualityRow) → AllLead f xs → (k : ℕ) → k < length xs → get_or (lines (index_text f xs)) k [] ≡ line_in f (record_at xs k)
unfolding index_text
line_at f [] a k h = absurd (omega arith)
line_at f (x ∷ xs) a zero h = rw (line-of f x (a 0 (omega arith)) (index_text f xs))
line_at f (x ∷ xs) a (suc k) h = rw (line-of f x (a 0 (omega arith)) (index_text f xs)) (line_at f xs (lead-behind f x xs a) k (omega arith))

pub line-count : (f : List ℕ) (xs : List QualityRow) → AllLead f xs → length (lines (index_text f xs)) ≡ length xs
unfolding index_text lines
line-count f [] a = refl
line-count f (x ∷ xs) a = rw (line-of f x (a 0 (omega arith)) (index_text f xs)) (ap suc (line-count f xs (lead-behind f x xs a)))
