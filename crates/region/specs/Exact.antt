-- The exact read: the bytes at the offsets of a region's bases, or why not. It is a function of the record, the bounds, the
-- output, the file's length and the bytes at those offsets, and of nothing else.
use Rattle.std.specs.Prelude.{ℕ, suc, ◌+◌, ◌-◌, List, [], ◌∷◌, map, Bool, cond, ◌||◌, length, ltb, Option, Result, Ok, Err}
use Rattle.refusal.specs.declared.Refusal.{Refusal}
use Rattle.record.specs.declared.Position.{Position}
use Rattle.refusal.specs.Numbers.{over_limit}
use Rattle.refusal.specs.declared.Refusal.TheVariants.{TooLong, NoRoom, PastLength, NotInFile}
use Rattle.record.specs.declared.Record.{Record}
use Rattle.record.specs.Place.{places_from}
use Rattle.record.specs.Bases.{byte_at}
use Rattle.table.specs.Rows.{held_at}
use Rattle.output.specs.Outcome.{Outcome, refuses, gives}
use Rattle.region.specs.Region.{bounded_row, start_of, end_of, bases_to}

-- the offsets of n bases of a record, from base a on
abbrev pub offsets_of : Record → ℕ → ℕ → List ℕ
offsets_of x a n = places_from x.position.0 x.line_bases x.line_width (a - 1) n

-- how many of some offsets lie in a file of so many bytes, up to the first that does not
unfoldable pub in_file : ℕ → List ℕ → ℕ
in_file bytes [] = 0
in_file bytes (o ∷ os) = cond (ltb o bytes) (suc (in_file bytes os)) 0

-- does 17 refuse the bases from a to e of a record of so many
unfoldable pub past_length : ℕ → ℕ → ℕ → Bool
past_length bases a e = ltb bases a || ltb bases e

-- the bytes at some offsets, the first of which is base a's: 18 with the first base that is not in the file
unfoldable pub bytes_at : ℕ → (ℕ → ℕ) → ℕ → List ℕ → List ℕ → Outcome (Result ℕ Refusal)
bytes_at bytes byte a os out =
    cond (ltb (in_file bytes os) (length os)) (refuses (NotInFile (a + in_file bytes os)) out) (gives (map byte os) out)

-- n bases of a record from base a on: 14, then 18
unfoldable pub bases_from : ℕ → (ℕ → ℕ) → Record → ℕ → ℕ → List ℕ → Outcome (Result ℕ Refusal)
bases_from bytes byte x a n out = cond (ltb (length out) n) (refuses (NoRoom n) out) (bytes_at bytes byte a (offsets_of x a n) out)

-- the bases from a to e of a record: 17 first
unfoldable pub region_of : ℕ → (ℕ → ℕ) → Record → ℕ → ℕ → List ℕ → Outcome (Result ℕ Refusal)
region_of bytes byte x a e out =
    cond (past_length x.length a e) (refuses (PastLength x.length) out) (bases_from bytes byte x a (bases_to a e) out)

-- the region of a row, if there is one
unfoldable pub exact_in : ℕ → (ℕ → ℕ) → Result Record Refusal → Option Position → Option Position → List ℕ → Outcome (Result ℕ Refusal)
exact_in bytes byte (Err f) a e out = refuses f out
exact_in bytes byte (Ok x) a e out = region_of bytes byte x (start_of a) (end_of x.length e) out

-- of a file of so many bytes, by the byte at an offset: 16, then 25, then the rest
unfoldable pub exact_of : ℕ → (ℕ → ℕ) → Result Record Refusal → Option Position → Option Position → List ℕ → Outcome (Result ℕ Refusal)
exact_of bytes byte h a e out = exact_in bytes byte (bounded_row a e h) a e out

-- the exact read: 1 first
unfoldable pub exact_held : List ℕ → Result Record Refusal → Option Position → Option Position → List ℕ → Outcome (Result ℕ Refusal)
exact_held s h a e out = cond (over_limit (length s)) (refuses TooLong out) (exact_of (length s) (byte_at s) h a e out)

-- the exact read of row r of a table with u rows in use
unfoldable pub exact_read : List ℕ → List ℕ → ℕ → ℕ → Option Position → Option Position → List ℕ → Outcome (Result ℕ Refusal)
exact_read s t u r a e out = exact_held s (held_at t u r) a e out
