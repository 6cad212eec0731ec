-- The raw read, which is the port of `Reader::query`: a scan from where the region's first base lies, by the scanning rule. The
-- record's length does not matter, so a read may run into the next record, and give bytes of its definition line.
use Rattle.std.specs.Prelude.{ℕ, List, cond, length, Option, Some, None, Result, Ok, Err}
use Rattle.refusal.specs.declared.Refusal.{Refusal}
use Rattle.record.specs.declared.Record.{Record}
use Rattle.record.specs.declared.Offset.{Offset}
use Rattle.record.specs.declared.Position.{Position}
use Rattle.refusal.specs.Numbers.{over_limit}
use Rattle.refusal.specs.declared.Refusal.TheVariants.{TooLong, NotInFile}
use Rattle.record.specs.Place.{address_of}
use Rattle.table.specs.Rows.{held_at}
use Rattle.sequence.specs.Scan.{Scan, scan_at, scan_all}
use Rattle.output.specs.Outcome.{Outcome, refuses, pours}
use Rattle.region.specs.Region.{bounded_row, start_of, bases_to}

-- the scan from the offset of base a up to the end; without a limit if the end is absent
unfoldable pub scan_to : List ℕ → ℕ → ℕ → Option Position → Scan
scan_to s at a (Some e) = scan_at s (bases_to a e.0) at
scan_to s at a None = scan_all s at

-- the scan from where base a lies: 18 if its offset does not fit in 64 bits
unfoldable pub raw_at : List ℕ → Option Offset → ℕ → Option Position → List ℕ → Outcome (Result ℕ Refusal)
raw_at s None a e out = refuses (NotInFile a) out
raw_at s (Some o) a e out = pours (scan_to s o.0 a e).bases out

-- the scan of a row, if there is one
unfoldable pub raw_in : List ℕ → Result Record Refusal → Option Position → Option Position → List ℕ → Outcome (Result ℕ Refusal)
raw_in s (Err f) a e out = refuses f out
raw_in s (Ok x) a e out = raw_at s (address_of x (record { 0 = start_of a })) (start_of a) e out

-- the raw read: 16, then 25, then the rest
unfoldable pub raw_of : List ℕ → Result Record Refusal → Option Position → Option Position → List ℕ → Outcome (Result ℕ Refusal)
raw_of s h a e out = raw_in s (bounded_row a e h) a e out

-- the call: 1 first
unfoldable pub raw_held : List ℕ → Result Record Refusal → Option Position → Option Position → List ℕ → Outcome (Result ℕ Refusal)
raw_held s h a e out = cond (over_limit (length s)) (refuses TooLong out) (raw_of s h a e out)

-- the raw read of row r of a table with u rows in use
unfoldable pub raw_read : List ℕ → List ℕ → ℕ → ℕ → Option Position → Option Position → List ℕ → Outcome (Result ℕ Refusal)
raw_read s t u r a e out = raw_held s (held_at t u r) a e out
