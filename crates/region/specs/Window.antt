-- Reading from a window (docs/RULES.md): the exact read's outcome for a file of the stated length, or 34 if a byte that it needs is not in the
-- window; and the part of a file that a region needs.
use Rattle.std.specs.Prelude.{ℕ, ◌+◌, List, map, cond, length, ltb, Option, Result, Ok, Err}
use Rattle.refusal.specs.declared.Refusal.{Refusal}
use Rattle.record.specs.declared.Position.{Position}
use Rattle.region.specs.declared.Part.{Part}
use Rattle.region.specs.declared.exact.Bases.{Bases}
use Rattle.refusal.specs.Numbers.{over_limit}
use Rattle.refusal.specs.declared.Refusal.TheVariants.{TooLong, NotInWindow, WindowPastEnd}
use Rattle.record.specs.declared.Record.{Record}
use Rattle.table.specs.Rows.{held_at}
use Rattle.output.specs.Outcome.{Outcome, refuses, gives}
use Rattle.region.specs.Region.{bounded_row, start_of, end_of, bases_to}
use Rattle.region.specs.Exact.{offsets_of, region_of}
use Rattle.region.specs.Copy.{byte_from}
use Rattle.region.specs.Part.{in_part, part_of}
use Rattle.region.specs.Judge.{region_judged}

-- ---- the read

abbrev after : Result ℕ Refusal → Outcome (Result ℕ Refusal) → Outcome (Result ℕ Refusal) → Outcome (Result ℕ Refusal)
after (Ok n) o p = p
after (Err f) o p = o

-- the second outcome, unless the first is a refusal
unfoldable pub unless_refused : Outcome (Result ℕ Refusal) → Outcome (Result ℕ Refusal) → Outcome (Result ℕ Refusal)
unless_refused o p = after o.answer o p

-- the bytes at some offsets, the first of which is base a's, of a window w that begins at offset f: 34 with the first base that is not in
-- it
unfoldable pub seen_at : ℕ → List ℕ → ℕ → List ℕ → List ℕ → Outcome (Result ℕ Refusal)
seen_at f w a os out =
    cond (ltb (in_part f (f + length w) os) (length os)) (refuses (NotInWindow (a + in_part f (f + length w) os)) out) (gives (map (byte_from f w) os) out)

-- the bases from a to e of a record: what the exact read refuses for a file of so many bytes, and then 34
unfoldable pub window_region : ℕ → ℕ → List ℕ → Record → ℕ → ℕ → List ℕ → Outcome (Result ℕ Refusal)
window_region bytes f w x a e out = unless_refused (region_of bytes (byte_from f w) x a e out) (seen_at f w a (offsets_of x a (bases_to a e)) out)

-- the region of a row, if there is one
unfoldable pub window_in : ℕ → ℕ → List ℕ → Result Record Refusal → Option Position → Option Position → List ℕ → Outcome (Result ℕ Refusal)
window_in bytes f w (Err g) a e out = refuses g out
window_in bytes f w (Ok x) a e out = window_region bytes f w x (start_of a) (end_of x.length e) out

-- 16, then 25, then the rest
unfoldable pub window_of : ℕ → ℕ → List ℕ → Result Record Refusal → Option Position → Option Position → List ℕ → Outcome (Result ℕ Refusal)
window_of bytes f w h a e out = window_in bytes f w (bounded_row a e h) a e out

-- the window read: 1 for the window, 1 for the stated length, and 35, first
unfoldable pub window_held : ℕ → List ℕ → ℕ → Result Record Refusal → Option Position → Option Position → List ℕ → Outcome (Result ℕ Refusal)
window_held bytes w f h a e out =
    cond (over_limit (length w)) (refuses TooLong out)
    (cond (over_limit bytes) (refuses TooLong out)
    (cond (ltb bytes (f + length w)) (refuses WindowPastEnd out) (window_of bytes f w h a e out)))

-- the window read of row r of a table with u rows in use
unfoldable pub window_read : ℕ → List ℕ → ℕ → List ℕ → ℕ → ℕ → Option Position → Option Position → List ℕ → Outcome (Result ℕ Refusal)
window_read bytes w f t u r a e out = window_held bytes w f (held_at t u r) a e out

-- ---- what a region needs

-- a judgement of a region from base a on gives the part from the smallest of its bases' offsets to the largest, or the refusal
unfoldable pub needed_by : Record → ℕ → Result Bases Refusal → Result Part Refusal
needed_by x a (Err g) = Err g
needed_by x a (Ok b) = Ok (part_of (offsets_of x a b.count))

-- of a row, if there is one: 17, 14, 18, as the exact read has them for an output of so much room
unfoldable pub needed_in : ℕ → ℕ → Result Record Refusal → Option Position → Option Position → Result Part Refusal
needed_in bytes room (Err g) a e = Err g
needed_in bytes room (Ok x) a e = needed_by x (start_of a) (region_judged bytes x (start_of a) (end_of x.length e) room)

-- 16, then 25, then the rest
unfoldable pub needed_of : ℕ → ℕ → Result Record Refusal → Option Position → Option Position → Result Part Refusal
needed_of bytes room h a e = needed_in bytes room (bounded_row a e h) a e

-- the call: 1 for the stated length first
unfoldable pub needed_held : ℕ → ℕ → Result Record Refusal → Option Position → Option Position → Result Part Refusal
needed_held bytes room h a e = cond (over_limit bytes) (Err TooLong) (needed_of bytes room h a e)

-- for row r of a table with u rows in use
unfoldable pub needed_read : ℕ → ℕ → List ℕ → ℕ → ℕ → Option Position → Option Position → Result Part Refusal
needed_read bytes room t u r a e = needed_held bytes room (held_at t u r) a e
