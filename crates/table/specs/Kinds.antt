-- A table of rows of any kind: a row stored in it, the rows that a file or an index gives, a turn of filling it, and the table filled. A row of
-- FASTA has eight numbers and one of FASTQ seven: each is a kind, and what is said and proved here is said of both.
use Rattle.std.specs.Prelude.{ℕ, ◌*◌, ◌/◌, ◌<◌, ◌≡◌, List, [], ◌∷◌, ◌++◌, cond, length, take, ltb, Option, Some, None, Result, Ok, Err, ⊤}
use Rattle.std.proofs.lemmas.List.Edits.{sets}
use Rattle.refusal.specs.declared.Refusal.{Refusal}
use Rattle.refusal.specs.declared.Refusal.TheVariants.{BadRow, TableFull, TooLong}
use Rattle.refusal.specs.Numbers.{over_limit}
use Rattle.table.specs.declared.Filled.{Filled}
use Rattle.table.specs.Numbers.{numbers_in, rest_of, with_numbers}

-- ---- a kind of row

-- of rows of a type: how many numbers one has, and which; those of some rows, one after another; and how many whole rows a table has
pub record Kind (Row : Type 0) : Type 0 where
  pub size : ℕ
  pub words_of : Row → List ℕ
  pub words : List Row → List ℕ
  pub row_count : List ℕ → ℕ
  pub some : 0 < size
  pub sized : (x : Row) → length (words_of x) ≡ size
  pub no_words : words [] ≡ []
  pub more-words : (x : Row) (xs : List Row) → words (x ∷ xs) ≡ words_of x ++ words xs
  pub counted : (t : List ℕ) → row_count t ≡ length t / size

-- ---- rows that are found

-- rows, and why there are no more
pub record FoundOf (Row : Type 0) : Type 0 where
  pub rows : List Row
  pub stop : Result ⊤ Refusal

-- no row
abbrev pub nothing : {Row : Type 0} → Result ⊤ Refusal → FoundOf Row
nothing x = record { rows = []; stop = x }

-- a row in front of others
abbrev pub with_first : {Row : Type 0} → Row → FoundOf Row → FoundOf Row
with_first x f = record { rows = x ∷ f.rows; stop = f.stop }

-- what a table holds of some rows, by how many of its rows are free: a good row that finds none is refused, with all the table's rows
unfoldable pub held_in : {Row : Type 0} → ℕ → ℕ → FoundOf Row → FoundOf Row
held_in free all f = cond (ltb free (length f.rows)) (record { rows = take free f.rows; stop = Err (TableFull all) }) f

-- the rows of so many bytes: the size limit first
abbrev pub limited : {Row : Type 0} → ℕ → FoundOf Row → FoundOf Row
limited bytes f = cond (over_limit bytes) (nothing (Err TooLong)) f

-- no more rows: that there are none, or why
abbrev pub no_more : {A : Type 0} → Result ⊤ Refusal → Result (Option A) Refusal
no_more (Ok _) = Ok None
no_more (Err f) = Err f

-- the next row and the place behind it; or why there is none
pub data Turn (Row : Type 0) : Type 0 where
  next : Row → ℕ → Turn Row
  none : Result ⊤ Refusal → Turn Row

-- what the code has as the next of the rows
abbrev pub turn_of : {Row : Type 0} → Result (Option (Row × ℕ)) Refusal → Turn Row
turn_of (Ok (Some (y, b))) = next y b
turn_of (Ok None) = none (Ok tt)
turn_of (Err f) = none (Err f)

module _ {Row : Type 0} (k : Kind Row) where
  -- ---- reading a row

  -- row r of a table with n rows in use, by a reader of the numbers at an index and behind it: if it has fewer rows than n, the first that it
  -- lacks is refused, whichever is asked
  abbrev pub used_in : (List ℕ → ℕ → Row) → List ℕ → ℕ → ℕ → Result (ℕ × Row) Refusal
  used_in read t n r =
      cond (ltb (k.row_count t) n) (Err (BadRow (k.row_count t))) (cond (ltb r n) (Ok (r, read t (r * k.size))) (Err (BadRow r)))

  -- ---- storing a row

  -- the table with some rows in rows n, n + 1, ..
  abbrev pub with_rows : List ℕ → ℕ → List Row → List ℕ
  with_rows t n xs = sets t (n * k.size) (k.words xs)

  -- the answer: refusal 8, with the table's whole rows, where it has no row r
  unfoldable pub stored_of : List ℕ → ℕ → Result ⊤ Refusal
  stored_of t r = cond (ltb r (k.row_count t)) (Ok tt) (Err (TableFull (k.row_count t)))

  -- the table with row r; as it was, where it has none
  unfoldable pub with_row : List ℕ → ℕ → Row → List ℕ
  with_row t r x = cond (ltb r (k.row_count t)) (sets t (r * k.size) (k.words_of x)) t

  -- what storing row r tells, and the table afterwards
  pub record StoredAt (before : List ℕ) (r : ℕ) (x : Row) (told : Result ⊤ Refusal) (after : List ℕ) : Type 0 where
    pub answer : told ≡ stored_of before r
    pub table : after ≡ with_row before r x

  -- ---- filling

  -- what a call that fills a table from its first row tells, and what it leaves there
  pub record FilledAs (f : FoundOf Row) (before after : List ℕ) (r : Filled) : Type 0 where
    pub rows : r.rows ≡ length f.rows
    pub stop : r.stop ≡ f.stop
    pub table : after ≡ with_rows before 0 f.rows

  -- the next of the rows that there are from a place on, which is before an end: a row, with those from the place behind it, or why none
  pub record NextOf (here : FoundOf Row) (behind : ℕ → FoundOf Row) (at end : ℕ) (x : Turn Row) : Type 0 where
    pub row : (y : Row) (b : ℕ) → x ≡ next y b → (here ≡ with_first y (behind b)) × (at < end) × (at < b)
    pub stop : (s : Result ⊤ Refusal) → x ≡ none s → here ≡ nothing s

  -- the answer of a turn that puts the next row in row n: it goes on behind it, if the table has the row
  unfoldable pub kept_of : List ℕ → ℕ → Turn Row → Result (Option ℕ) Refusal
  kept_of t n (next y b) = cond (ltb n (k.row_count t)) (Ok (Some b)) (no_more (Err (TableFull (k.row_count t))))
  kept_of t n (none s) = no_more s

  -- the table afterwards
  unfoldable pub with_next : List ℕ → ℕ → Turn Row → List ℕ
  with_next t n (next y b) = with_row t n y
  with_next t n (none s) = t

  pub record KeptAs (before : List ℕ) (n : ℕ) (x : Turn Row) (told : Result (Option ℕ) Refusal) (after : List ℕ) : Type 0 where
    pub answer : told ≡ kept_of before n x
    pub table : after ≡ with_next before n x

  -- ---- a table that is lent as bytes

  -- what storing row r tells, and the table afterwards: that of its numbers, and its rest as it was
  pub record StoredIn (before : List ℕ) (r : ℕ) (x : Row) (told : Result ⊤ Refusal) (after : List ℕ) : Type 0 where
    pub stored : StoredAt (numbers_in before) r x told (numbers_in after)
    pub rest : rest_of after ≡ rest_of before

  -- the same of a turn of filling
  pub record KeptIn (before : List ℕ) (n : ℕ) (x : Turn Row) (told : Result (Option ℕ) Refusal) (after : List ℕ) : Type 0 where
    pub kept : KeptAs (numbers_in before) n x told (numbers_in after)
    pub rest : rest_of after ≡ rest_of before

  -- what a call that fills a table from its first row tells, and what it leaves there: the numbers are filled as a table of numbers
  -- is, and every byte is a number's, or one of the rest, which is as it was
  pub record FilledBytes (f : FoundOf Row) (before after : List ℕ) (r : Filled) : Type 0 where
    pub filled : FilledAs f (numbers_in before) (numbers_in after) r
    pub bytes : after ≡ with_numbers before (numbers_in after)
