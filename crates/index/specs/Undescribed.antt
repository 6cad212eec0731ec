-- Rows read from an index hold 0 and 0 for the description: an index line has none.
use Rattle.std.specs.Prelude.{ℕ, zero, suc, ◌+◌, ◌<◌, ◌≡◌, refl, List, [], ◌∷◌, Bool, true, false, cond, length, take, get_or, ltb, Result, Ok, Err}
use Rattle.std.proofs.Common.{length-take, get_or-take, arith}
use Rattle.refusal.specs.declared.Refusal.{Refusal}
use Rattle.index_line.specs.declared.Entry.{Entry}
use Rattle.refusal.specs.Numbers.{over_limit}
use Rattle.refusal.specs.declared.Refusal.TheVariants.{TooLong, TableFull}
use Rattle.lines.specs.Lines.{lines}
use Rattle.record.specs.declared.Record.{Record}
use Rattle.index_line.specs.IndexLine.{index_line_says}
use Rattle.index_line.specs.Laws.{line-sound}
use Rattle.table.specs.Fill.{nothing, held_in}
use Rattle.index.specs.Index.{row_as, onwards, lines_say, index_at, index_in}

-- a row without a description
abbrev pub Undescribed : Record → Type 0
Undescribed x = (x.description_start ≡ 0) × (x.description_length ≡ 0)

lines-undescribed : (ls : List (List ℕ)) (line at k : ℕ) (d : Record) → k < length (lines_say line at ls).rows → Undescribed (get_or (lines_say line at ls).rows k d)
unfolding lines_say
lines-undescribed [] line at k d h = absurd (omega arith)
lines-undescribed (l ∷ ls) line at k d h = go (index_line_says line l) refl k h (lines-undescribed ls (suc line) (at + length l))
  where
    go : (r : Result Entry Refusal) → index_line_says line l ≡ r → (k : ℕ) → k < length (onwards (row_as at (at + length l) r) (lines_say (suc line) (at + length l) ls)).rows
        → ((k : ℕ) (d : Record) → k < length (lines_say (suc line) (at + length l) ls).rows → Undescribed (get_or (lines_say (suc line) (at + length l) ls).rows k d))
        → Undescribed (get_or (onwards (row_as at (at + length l) r) (lines_say (suc line) (at + length l) ls)).rows k d)
    go (Ok e) q zero m more = (line-sound line l e q).no-description
    go (Ok e) q (suc k) m more = more k d (omega arith)
    go (Err f) q k m more = absurd (omega arith)

-- each row that the call puts in a table of so many rows
pub rows-undescribed : (text : List ℕ) (n k : ℕ) (d : Record) → k < length (index_in text n).rows → Undescribed (get_or (index_in text n).rows k d)
unfolding index_in held_in index_at
rows-undescribed text n k d h = go (over_limit (length text)) (ltb n (length (lines_say 1 0 (lines text)).rows)) h
  where
    go : (t u : Bool)
        → k < length (cond t (nothing (Err TooLong)) (cond u (record { rows = take n (lines_say 1 0 (lines text)).rows; stop = Err (TableFull n) }) (lines_say 1 0 (lines text)))).rows
        → Undescribed (get_or (cond t (nothing (Err TooLong)) (cond u (record { rows = take n (lines_say 1 0 (lines text)).rows; stop = Err (TableFull n) }) (lines_say 1 0 (lines text)))).rows k d)
    go true u m = absurd (omega arith)
    go false true m =
        rw (get_or-take n (lines_say 1 0 (lines text)).rows k d (omega (arith, length-take n (lines_say 1 0 (lines text)).rows)))
        (lines-undescribed (lines text) 1 0 k d (omega (arith, length-take n (lines_say 1 0 (lines text)).rows)))
    go false false m = lines-undescribed (lines text) 1 0 k d m
