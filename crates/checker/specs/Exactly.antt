-- Demand 3, "exactly": the checker accepts a file and an index if and only if both are within the limit, every definition line reads,
-- there are as many index lines as records, each readable, and nothing is left over; for each record, in the file's order, the name
-- bytes and the count of bases are the same; and for every base of every record, the offset that the line's numbers give is that
-- base's offset by the line rule. Accepts.antt says so.
use Rattle.std.specs.Prelude.{ℕ, ◌≡◌, List, Ok}
use Rattle.checker.specs.Check.{check_of}
use Rattle.checker.specs.Accepts.{Accepts}
use Rattle.checker.specs.Said.{check-means, check-only}

pub accepted-only-if : (f i : List ℕ) → check_of f i ≡ Ok tt → Accepts f i
accepted-only-if f i h = rw h at (check-means f i)

pub accepted-if : (f i : List ℕ) → Accepts f i → check_of f i ≡ Ok tt
accepted-if f i a = check-only f i (Ok tt) a
