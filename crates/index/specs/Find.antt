-- Looking a name up: row by row 25, then the row's name; 15 after the last.
use Rattle.std.specs.Prelude.{ℕ, zero, suc, List, Bool, cond, length, Result, Ok, Err, true, false}
use Rattle.refusal.specs.declared.Refusal.{Refusal}
use Rattle.refusal.specs.Numbers.{over_limit}
use Rattle.refusal.specs.declared.Refusal.TheVariants.{TooLong, NameUnknown}
use Rattle.lines.specs.Same.{same_bytes}
use Rattle.record.specs.declared.Record.{Record}
use Rattle.table.specs.Rows.{named_at}
use Rattle.index_line.specs.IndexLine.{name_in}

-- is a record's name, a span of some bytes, the one looked for
unfoldable pub named : List ℕ → Record → List ℕ → Bool
named names x name = same_bytes (name_in names x) name

-- does a row have the name: it is refused, or its name is compared
unfoldable pub compared_of : List ℕ → List ℕ → Result Record Refusal → Result Bool Refusal
compared_of names name (Err f) = Err f
compared_of names name (Ok x) = cond (named names x name) (Ok true) (Ok false)

-- row r, with what the rows behind it say
abbrev pub judged : List ℕ → List ℕ → ℕ → Result Record Refusal → Result ℕ Refusal → Result ℕ Refusal
judged names name r (Ok x) f = cond (named names x name) (Ok r) f
judged names name r (Err y) f = Err y

-- the first of k rows from r on, of a table with n rows in use, that has the name
unfoldable pub row_from : List ℕ → List ℕ → ℕ → List ℕ → ℕ → ℕ → Result ℕ Refusal
row_from names t n name zero r = Err NameUnknown
row_from names t n name (suc k) r = judged names name r (named_at t n r (length names)) (row_from names t n name k (suc r))

-- the first of all rows in use
unfoldable pub row_named : List ℕ → List ℕ → ℕ → List ℕ → Result ℕ Refusal
row_named names t n name = row_from names t n name n 0

-- the call: the size limit first, for the names and for the name
unfoldable pub row_read : List ℕ → List ℕ → ℕ → List ℕ → Result ℕ Refusal
row_read names t n name = cond (over_limit (length names)) (Err TooLong) (cond (over_limit (length name)) (Err TooLong) (row_named names t n name))
