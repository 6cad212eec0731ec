-- A sheet: the exact reads of several regions, one after another in one output, and where each begins. All or nothing.
use Rattle.std.specs.Prelude.{ℕ, suc, ◌+◌, min, List, [], ◌∷◌, ◌++◌, cond, length, take, drop, ltb, Result, Ok, Err}
use Rattle.sheet.specs.declared.RegionRefused.{RegionRefused}
use Rattle.refusal.specs.Numbers.{over_limit}
use Rattle.refusal.specs.declared.Refusal.{Refusal}
use Rattle.refusal.specs.declared.Refusal.TheVariants.{TooLong, NoRoom, TooManyRegions, TooFewStarts}
use Rattle.output.specs.Outcome.{Outcome}
use Rattle.region.specs.Exact.{exact_read}
use Rattle.sheet.specs.declared.Region.{Region}

-- an answer, and the two lent lists afterwards
pub record SheetOutcome (A : Type 0) : Type 0 where
  pub answer : A
  pub output : List ℕ
  pub starts : List ℕ

abbrev pub leaves_both : {A : Type 0} → A → List ℕ → List ℕ → SheetOutcome A
leaves_both a out starts = record { answer = a; output = out; starts = starts }

-- refused at a place of the sheet: both are as they were
abbrev pub refuses_at : ℕ → Refusal → List ℕ → List ℕ → SheetOutcome (Result ℕ RegionRefused)
refuses_at place f out starts = leaves_both (Err (record { place = place; refusal = f })) out starts

-- ---- pieces

-- the bytes that a read gave: as many as it says, from the front of its output; none after a refusal
abbrev front : Result ℕ Refusal → List ℕ → List ℕ
front (Ok n) out = take n out
front (Err f) out = []

unfoldable pub given : Outcome (Result ℕ Refusal) → List ℕ
given o = front o.answer o.output

-- what each region's own read gives
unfoldable pub pieces : (Region → Outcome (Result ℕ Refusal)) → List Region → List (List ℕ)
pieces read [] = []
pieces read (r ∷ rs) = given (read r) ∷ pieces read rs

-- some pieces, one after another
unfoldable pub joined : List (List ℕ) → List ℕ
joined [] = []
joined (p ∷ ps) = p ++ joined ps

-- where each begins, if the first begins at k: the running sums of their lengths
unfoldable pub starts_from : ℕ → List (List ℕ) → List ℕ
starts_from k [] = []
starts_from k (p ∷ ps) = k ∷ starts_from (k + length p) ps

-- ---- the sheet

-- a number, capped at the largest that 64 bits hold
unfoldable pub capped : ℕ → ℕ
capped n = min n 18446744073709551615

-- the pieces at the front of the output, and their starts at the front of the list; the rest of both stays. 14, with the total, if there is
-- too little room
unfoldable pub poured : List (List ℕ) → List ℕ → List ℕ → SheetOutcome (Result ℕ RegionRefused)
poured ps out starts =
    cond (ltb (length out) (length (joined ps)))
    (refuses_at (length ps) (NoRoom (capped (length (joined ps)))) out starts)
    (leaves_both (Ok (length (joined ps))) (joined ps ++ drop (length (joined ps)) out) (starts_from 0 ps ++ drop (length ps) starts))

-- the refusal of the first refused region, counting places from i; if none is refused, what is given for that
abbrev pub refused_or : Result ℕ Refusal → ℕ → List ℕ → List ℕ → SheetOutcome (Result ℕ RegionRefused) → SheetOutcome (Result ℕ RegionRefused)
refused_or (Ok n) i out starts fine = fine
refused_or (Err f) i out starts fine = refuses_at i f out starts

unfoldable pub unless_refused : (Region → Outcome (Result ℕ Refusal)) → ℕ → List Region → List ℕ → List ℕ → SheetOutcome (Result ℕ RegionRefused) → SheetOutcome (Result ℕ RegionRefused)
unless_refused read i [] out starts fine = fine
unless_refused read i (r ∷ rs) out starts fine = refused_or (read r).answer i out starts (unless_refused read (suc i) rs out starts fine)

-- regions, each read in the same way
unfoldable pub sheet_of : (Region → Outcome (Result ℕ Refusal)) → List Region → List ℕ → List ℕ → SheetOutcome (Result ℕ RegionRefused)
sheet_of read rs out starts = unless_refused read 0 rs out starts (poured (pieces read rs) out starts)

-- the most regions that a sheet has
abbrev pub most : ℕ
most = 200

-- a region's own read, with all the room
unfoldable pub read_of : List ℕ → List ℕ → ℕ → List ℕ → Region → Outcome (Result ℕ Refusal)
read_of s t u out r = exact_read s t u r.row r.start r.end out

-- the sheet of a table with u rows in use: 1, 40, 41, the first refused region's own, 14
unfoldable pub sheet_read : List ℕ → List ℕ → ℕ → List Region → List ℕ → List ℕ → SheetOutcome (Result ℕ RegionRefused)
sheet_read s t u rs out starts =
    cond (over_limit (length s)) (refuses_at (length rs) TooLong out starts)
    (cond (ltb most (length rs)) (refuses_at (length rs) TooManyRegions out starts)
    (cond (ltb (length starts) (length rs)) (refuses_at (length rs) TooFewStarts out starts)
    (sheet_of (read_of s t u out) rs out starts)))
