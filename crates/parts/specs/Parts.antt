-- A part of a file: the records that begin between two numbers (docs/RULES.md, R90). What a part gives is what the file up to the part's end
-- gives from the part's start on, so every offset is one of the file.
use Rattle.std.specs.Prelude.{ℕ, zero, suc, ◌+◌, List, cond, length, take, ltb, Result, Err, ⊤}
use Rattle.refusal.specs.declared.Refusal.{Refusal}
use Rattle.refusal.specs.Numbers.{over_limit}
use Rattle.refusal.specs.declared.Refusal.TheVariants.{TooLong}
use Rattle.lines.specs.Lines.{line_end, seq_at, sum_widths}
use Rattle.table.specs.Fill.{Found, nothing, held_in}
use Rattle.fitting.specs.declared.Rule.{Rule}
use Rattle.fitting.specs.Rules.{rows_by}
use Rattle.checker.specs.Check.{from_says}

-- ---- where a part begins

-- where the first line begins at a number or behind it: the start, or behind the next LF; the end where there is none
unfoldable pub line_start : List ℕ → ℕ → ℕ
line_start s zero = 0
line_start s (suc n) = cond (ltb n (length s)) (line_end s n) (length s)

-- where the first record begins at a number or behind it: the start, or behind the sequence lines that stand there
unfoldable pub record_start : List ℕ → ℕ → ℕ
record_start s zero = 0
record_start s (suc n) = line_start s (suc n) + sum_widths (seq_at s (line_start s (suc n)))

-- ---- indexing

-- the rows of the records that begin at a number or behind it, and before another
unfoldable pub part_by : Rule → List ℕ → ℕ → ℕ → Found
part_by rule s from to = rows_by rule (take (record_start s to) s) (record_start s from)

-- the call, with a table of so many rows: the size limit of the whole file first
unfoldable pub part_in : Rule → List ℕ → ℕ → ℕ → ℕ → Found
part_in rule s from to n = cond (over_limit (length s)) (nothing (Err TooLong)) (held_in n n (part_by rule s from to))

-- ---- checking

-- the records between two numbers against the index lines between two numbers, as if no record came before
unfoldable pub part_says : List ℕ → ℕ → ℕ → List ℕ → ℕ → ℕ → Result ⊤ Refusal
part_says f from to i first last = from_says (take (record_start f to) f) (record_start f from) (take (line_start i last) i) (line_start i first)

-- the call: the size limit of the whole file and of the whole index first
unfoldable pub part_checked : List ℕ → ℕ → ℕ → List ℕ → ℕ → ℕ → Result ⊤ Refusal
part_checked f from to i first last =
    cond (over_limit (length f)) (Err TooLong)
    (cond (over_limit (length i)) (Err TooLong) (part_says f from to i first last))
