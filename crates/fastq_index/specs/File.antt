-- The rows of a FASTQ file (docs/RULES.md, R87): a row for each record, up to the first refusal.
use Rattle.std.specs.Prelude.{ℕ, zero, suc, ◌-◌, List, cond, length, Option, Some, None, Result, Ok, Err}
use Rattle.refusal.specs.declared.Refusal.{Refusal}
use Rattle.fastq.specs.declared.QualityRow.{QualityRow}
use Rattle.refusal.specs.Numbers.{over_limit}
use Rattle.refusal.specs.declared.Refusal.TheVariants.{TooLong}
use Rattle.fastq.specs.Fastq.{record_at}
use Rattle.fastq_table.specs.Fill.{Found, nothing, with_first, held_in}

-- one record's answer, with what the file behind it gives
abbrev pub onwards : Result (Option QualityRow) Refusal → Found → Found
onwards (Ok (Some x)) f = with_first x f
onwards (Ok None) f = nothing (Ok tt)
onwards (Err y) f = nothing (Err y)

-- the rows of at most k records, from an offset on
unfoldable pub rows_of : ℕ → List ℕ → ℕ → Found
rows_of zero s at = nothing (Ok tt)
rows_of (suc k) s at = onwards (record_at s at).answer (rows_of k s (record_at s at).next)

-- the rows of a file from an offset on: it has no more records than bytes
unfoldable pub rows_at : List ℕ → ℕ → Found
rows_at s at = rows_of (suc (length s - at)) s at

-- the call, with a table of so many rows: the size limit first
unfoldable pub file_in : List ℕ → ℕ → Found
file_in s n = cond (over_limit (length s)) (nothing (Err TooLong)) (held_in n n (rows_at s 0))
