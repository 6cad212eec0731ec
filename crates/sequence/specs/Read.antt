-- What the reads answer, and what they leave in the output that is lent to them.
use Rattle.std.specs.Prelude.{ℕ, List, ◌++◌, cond, length, drop, leb, Result, Ok, Err}
use Rattle.refusal.specs.declared.Refusal.{Refusal}
use Rattle.lines.specs.declared.Span.{Span}
use Rattle.lines.specs.declared.Cursor.{Cursor}
use Rattle.refusal.specs.Numbers.{over_limit}
use Rattle.refusal.specs.declared.Refusal.TheVariants.{TooLong, NoRoom}
use Rattle.output.specs.Outcome.{Outcome, leaves}
use Rattle.sequence.specs.Scan.{Scan, run_at, scan_at, scan_all}

-- the bases at the front of the output; the bytes behind them stay
unfoldable pub written : Scan → List ℕ → Outcome (Result (ℕ × Cursor) Refusal)
written c out = leaves (Ok ((length c.bases), (record { at = c.place }))) (c.bases ++ drop (length c.bases) out)

-- the bases, if there is room; else how many they are, and the output as it was
unfoldable pub poured : Scan → List ℕ → Outcome (Result (ℕ × Cursor) Refusal)
poured c out = cond (leb (length c.bases) (length out)) (written c out) (leaves (Err (NoRoom (length c.bases))) out)

-- a scan for so many bases from an offset, into an output
unfoldable pub scan_into : List ℕ → ℕ → ℕ → List ℕ → Outcome (Result (ℕ × Cursor) Refusal)
scan_into s limit at out = poured (scan_at s limit at) out

-- the limited read, and the whole one: a file that is too long is refused first
unfoldable pub read_limit : List ℕ → ℕ → Cursor → List ℕ → Outcome (Result (ℕ × Cursor) Refusal)
read_limit s limit c out = cond (over_limit (length s)) (leaves (Err TooLong) out) (poured (scan_at s limit c.at) out)

unfoldable pub read_whole : List ℕ → Cursor → List ℕ → Outcome (Result (ℕ × Cursor) Refusal)
read_whole s c out = cond (over_limit (length s)) (leaves (Err TooLong) out) (poured (scan_all s c.at) out)

-- one step, from a place
unfoldable pub read_run : List ℕ → Cursor → Result Span Refusal
read_run s c = cond (over_limit (length s)) (Err TooLong) (Ok (run_at s c.at))
