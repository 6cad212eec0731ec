-- A FASTQ record's row in a table of numbers, seven to a row: its words, reading it, and the table with it stored. Of a table of bytes, these
-- are about its numbers (`numbersIn`).
use Rattle.std.specs.Prelude.{ℕ, ◌+◌, ◌*◌, ◌/◌, ◌≡◌, refl, List, [], ◌∷◌, ◌++◌, cond, length, get_or, ltb, Result, Ok}
use Rattle.std.proofs.Common.{lit<}
use Rattle.refusal.specs.declared.Refusal.{Refusal}
use Rattle.record.specs.declared.Record.{Record}
use Rattle.record.specs.declared.Offset.{Offset}
use Rattle.table.specs.Rows.{no_row}
use Rattle.table.specs.Kinds
use Rattle.fastq.specs.declared.QualityRow.{QualityRow}
use Rattle.fastq.specs.declared.Part.{Part}
use Rattle.fastq.specs.Parts.{part_of}

-- how many numbers a row has
abbrev pub row_words : ℕ
row_words = 7

-- a row's numbers: those of an index line with its name's span in front, the quality position last
unfoldable pub words_of : QualityRow → List ℕ
words_of x =
    x.«record».name_start ∷ x.«record».name_length ∷ x.«record».length ∷ x.«record».position.0 ∷ x.«record».line_bases ∷ x.«record».line_width ∷ x.qualities.0 ∷ []

-- the numbers of some rows, one after another
unfoldable pub words : List QualityRow → List ℕ
words [] = []
words (x ∷ xs) = words_of x ++ words xs

-- the row of the numbers at an index and behind it; it has no description
abbrev pub numbers_at : List ℕ → ℕ → QualityRow
numbers_at t i = record {
  «record» = record {
    name_start = get_or t i 0;
    name_length = get_or t (i + 1) 0;
    length = get_or t (i + 2) 0;
    position = record { 0 = get_or t (i + 3) 0 };
    line_bases = get_or t (i + 4) 0;
    line_width = get_or t (i + 5) 0;
    description_start = 0;
    description_length = 0;
  };
  qualities = record { 0 = get_or t (i + 6) 0 };
}

-- how many whole rows a table has
unfoldable pub row_count : List ℕ → ℕ
row_count t = length t / row_words

-- row r
unfoldable pub row_at : List ℕ → ℕ → QualityRow
row_at t r = numbers_at t (r * row_words)

-- ---- rows of FASTQ as a kind of row

pub row_sized : (x : QualityRow) → length (words_of x) ≡ row_words
unfolding words_of
row_sized x = refl

pub no_words : words [] ≡ []
unfolding words
no_words = refl

pub more-words : (x : QualityRow) (xs : List QualityRow) → words (x ∷ xs) ≡ words_of x ++ words xs
unfolding words
more-words x xs = refl

pub rows-counted : (t : List ℕ) → row_count t ≡ length t / row_words
unfolding row_count
rows-counted t = refl

abbrev pub quality_rows : Kinds.Kind QualityRow
quality_rows =
    record {
      size = row_words;
      words_of = words_of;
      words = words;
      row_count = row_count;
      some = lit< tt;
      sized = row_sized;
      no_words = no_words;
      more-words = more-words;
      counted = rows-counted;
    }

-- the table with some rows in rows n, n + 1, ..
abbrev pub with_rows : List ℕ → ℕ → List QualityRow → List ℕ
with_rows = Kinds.with_rows quality_rows

-- ---- reading a row

-- the bases, or the qualities, of row r of a table with n rows in use: if it has fewer rows than n, the first that it lacks is refused,
-- whichever is asked
unfoldable pub used_at : List ℕ → ℕ → ℕ → Part → Result (ℕ × Record) Refusal
used_at t n r p = cond (ltb (row_count t) n) (no_row (row_count t)) (cond (ltb r n) (Ok (r, (part_of p (row_at t r)))) (no_row r))

-- where the qualities of row r begin; 0 where the table has no such row
unfoldable pub qualities_at : List ℕ → ℕ → Offset
qualities_at t r = cond (ltb r (row_count t)) (row_at t r).qualities (record { 0 = 0 })
