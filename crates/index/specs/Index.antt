-- What a whole index says: a row for each of its lines, up to the first refusal.
use Rattle.std.specs.Prelude.{ℕ, suc, ◌+◌, List, [], ◌∷◌, cond, length, drop, Option, Some, None, Result, Ok, Err}
use Rattle.refusal.specs.declared.Refusal.{Refusal}
use Rattle.lines.specs.declared.Cursor.{Cursor}
use Rattle.index_line.specs.declared.Entry.{Entry}
use Rattle.refusal.specs.Numbers.{over_limit}
use Rattle.refusal.specs.declared.Refusal.TheVariants.{TooLong}
use Rattle.lines.specs.Lines.{lines}
use Rattle.record.specs.declared.Record.{Record}
use Rattle.table.specs.Fill.{Found, nothing, with_first, held_in}
use Rattle.index_line.specs.IndexLine.{index_line_says}

-- a line's record, its name a span of the whole text, in which the line begins at an offset
abbrev pub placed_at : ℕ → Record → Record
placed_at at x =
    record {
      name_start = at;
      name_length = x.name_length;
      length = x.length;
      position = x.position;
      line_bases = x.line_bases;
      line_width = x.line_width;
      description_start = x.description_start;
      description_length = x.description_length;
    }

-- what a line says, which begins at an offset and ends at another
abbrev pub row_as : ℕ → ℕ → Result Entry Refusal → Result (Option (Record × Cursor)) Refusal
row_as at e (Ok x) = Ok (Some ((placed_at at x.«record»), (record { at = e })))
row_as at e (Err f) = Err f

-- the row of the first of some lines, by its number and the offset where it begins
abbrev pub line_row : ℕ → ℕ → List (List ℕ) → Result (Option (Record × Cursor)) Refusal
line_row line at [] = Ok None
line_row line at (l ∷ ls) = row_as at (at + length l) (index_line_says line l)

-- the row of the line at an offset
unfoldable pub row_at : List ℕ → ℕ → ℕ → Result (Option (Record × Cursor)) Refusal
row_at text line at = line_row line at (lines (drop at text))

-- one line's row, with what the lines behind it say
abbrev pub onwards : Result (Option (Record × Cursor)) Refusal → Found → Found
onwards (Ok (Some (x, c))) f = with_first x f
onwards (Ok None) f = nothing (Ok tt)
onwards (Err y) f = nothing (Err y)

-- the rows of some lines, by the number of the first and the offset where it begins
unfoldable pub lines_say : ℕ → ℕ → List (List ℕ) → Found
lines_say line at [] = nothing (Ok tt)
lines_say line at (l ∷ ls) = onwards (line_row line at (l ∷ ls)) (lines_say (suc line) (at + length l) ls)

-- the rows of an index from a line on, which begins at an offset
unfoldable pub index_at : List ℕ → ℕ → ℕ → Found
index_at text line at = lines_say line at (lines (drop at text))

-- the call, with a table of so many rows: the size limit first
unfoldable pub index_in : List ℕ → ℕ → Found
index_in text n = cond (over_limit (length text)) (nothing (Err TooLong)) (held_in n n (index_at text 1 0))
