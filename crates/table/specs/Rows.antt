-- A record's row in a table of numbers: its words, reading it, and the table with it stored. Of a table of bytes, these are about its
-- numbers (`numbersIn`).
use Rattle.std.specs.Prelude.{ℕ, ◌+◌, ◌*◌, ◌/◌, ◌≡◌, refl, List, [], ◌∷◌, ◌++◌, cond, length, get_or, eqb, ltb, Result, Ok, Err, ⊤}
use Rattle.std.proofs.Common.{lit<}
use Rattle.refusal.specs.declared.Refusal.{Refusal}
use Rattle.refusal.specs.declared.Refusal.TheVariants.{BadRow}
use Rattle.record.specs.declared.Record.{Record}
use Rattle.table.specs.Kinds

-- ---- the words of a row

-- how many numbers a row has
abbrev pub row_words : ℕ
row_words = 8

-- a record's numbers
unfoldable pub words_of : Record → List ℕ
words_of x =
    x.name_start ∷ x.name_length ∷ x.length ∷ x.position.0 ∷ x.line_bases ∷ x.line_width ∷ x.description_start ∷ x.description_length ∷ []

-- the numbers of some records, one after another
unfoldable pub words : List Record → List ℕ
words [] = []
words (x ∷ xs) = words_of x ++ words xs

-- the record of the numbers at an index and behind it
abbrev pub numbers_at : List ℕ → ℕ → Record
numbers_at t i = record {
  name_start = get_or t i 0;
  name_length = get_or t (i + 1) 0;
  length = get_or t (i + 2) 0;
  position = record { 0 = get_or t (i + 3) 0 };
  line_bases = get_or t (i + 4) 0;
  line_width = get_or t (i + 5) 0;
  description_start = get_or t (i + 6) 0;
  description_length = get_or t (i + 7) 0;
}

-- how many whole rows a table has
unfoldable pub row_count : List ℕ → ℕ
row_count t = length t / row_words

-- the record of row r
unfoldable pub row_at : List ℕ → ℕ → Record
row_at t r = numbers_at t (r * row_words)

-- ---- rows of records as a kind of row

pub record-sized : (x : Record) → length (words_of x) ≡ row_words
unfolding words_of
record-sized x = refl

pub no_words : words [] ≡ []
unfolding words
no_words = refl

pub more-words : (x : Record) (xs : List Record) → words (x ∷ xs) ≡ words_of x ++ words xs
unfolding words
more-words x xs = refl

pub rows-counted : (t : List ℕ) → row_count t ≡ length t / row_words
unfolding row_count
rows-counted t = refl

abbrev pub records : Kinds.Kind Record
records =
    record {
      size = row_words;
      words_of = words_of;
      words = words;
      row_count = row_count;
      some = lit< tt;
      sized = record-sized;
      no_words = no_words;
      more-words = more-words;
      counted = rows-counted;
    }

-- the table with some records in rows n, n + 1, ..
abbrev pub with_rows : List ℕ → ℕ → List Record → List ℕ
with_rows = Kinds.with_rows records

-- ---- reading a row

-- there is no row r in use
abbrev pub no_row : ℕ → Result (ℕ × Record) Refusal
no_row r = Err (BadRow r)

-- row r of a table with n rows in use: if it has fewer rows than n, the first that it lacks is refused, whichever is asked
unfoldable pub used_at : List ℕ → ℕ → ℕ → Result (ℕ × Record) Refusal
used_at t n r = cond (ltb (row_count t) n) (no_row (row_count t)) (cond (ltb r n) (Ok (r, row_at t r)) (no_row r))

-- row r is refused
abbrev pub bad_row : ℕ → Result Record Refusal
bad_row r = Err (BadRow r)

-- row r holds a record: its line bases and line width are not 0
unfoldable pub sound_row : ℕ → Record → Result Record Refusal
sound_row r x = cond (eqb x.line_bases 0) (bad_row r) (cond (eqb x.line_width 0) (bad_row r) (Ok x))

-- what a row in use holds
unfoldable pub held_of : Result (ℕ × Record) Refusal → Result Record Refusal
held_of (Ok (r, x)) = sound_row r x
held_of (Err f) = Err f

-- row r, if it holds a record, whose name and description have to lie inside so many bytes
unfoldable pub named_in : ℕ → ℕ → Result Record Refusal → Result Record Refusal
named_in bytes r (Ok x) =
    cond (ltb bytes (x.name_start + x.name_length)) (bad_row r) (cond (ltb bytes (x.description_start + x.description_length)) (bad_row r) (Ok x))
named_in bytes r (Err f) = Err f

-- what a row in use holds, for a call that uses its name
unfoldable pub named_of : ℕ → Result (ℕ × Record) Refusal → Result Record Refusal
named_of bytes (Ok (r, x)) = named_in bytes r (sound_row r x)
named_of bytes (Err f) = Err f

-- both of row r of a table with n rows in use
unfoldable pub held_at : List ℕ → ℕ → ℕ → Result Record Refusal
held_at t n r = held_of (used_at t n r)

unfoldable pub named_at : List ℕ → ℕ → ℕ → ℕ → Result Record Refusal
named_at t n r bytes = named_of bytes (used_at t n r)

-- ---- storing a row

-- the answer: refusal 8, with the table's whole rows, where it has no row r
abbrev pub stored_of : List ℕ → ℕ → Result ⊤ Refusal
stored_of = Kinds.stored_of records

-- the table with a record in row r; as it was, where it has no row r
abbrev pub with_row : List ℕ → ℕ → Record → List ℕ
with_row = Kinds.with_row records

-- what storing a record in row r tells, and the table afterwards
abbrev pub StoredAt : List ℕ → ℕ → Record → Result ⊤ Refusal → List ℕ → Type 0
StoredAt = Kinds.StoredAt records
