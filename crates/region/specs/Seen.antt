-- The words of the window read's promises (Windowed.antt): the offsets that a region needs, windows that have them, and the first base that is
-- not in a window.
use Rattle.std.specs.Prelude.{ℕ, ◌+◌, ◌-◌, ◌≤◌, ◌<◌, ◌≡◌, List, false, length, Option, Result, Ok}
use Rattle.refusal.specs.declared.Refusal.{Refusal}
use Rattle.record.specs.declared.Position.{Position}
use Rattle.refusal.specs.Numbers.{over_limit}
use Rattle.record.specs.declared.Record.{Record}
use Rattle.record.specs.Place.{place_in}
use Rattle.region.specs.Copy.{byte_from}
use Rattle.region.specs.Part.{is_in}
use Rattle.region.specs.Dependence.{InRegion, Readable}

-- offset o is needed for a region of a row, of a file of so many bytes: a base of the region lies there
pub record Needs (bytes : ℕ) (h : Result Record Refusal) (a e : Option Position) (o : ℕ) : Type 0 where
  pub row : Record
  pub holds : h ≡ Ok row
  pub base : ℕ
  pub region : InRegion row a e base
  pub here : o ≡ place_in row (base - 1)
  pub inside : o < bytes

-- a window of so many bytes from offset f on has every byte that a region needs
pub record Covers (bytes : ℕ) (h : Result Record Refusal) (a e : Option Position) (f m : ℕ) : Type 0 where
  pub each : (o : ℕ) → Needs bytes h a e o → (f ≤ o) × (o < f + m)

-- a window is within the limit, and within the stated length
pub record Within (bytes : ℕ) (w : List ℕ) (f : ℕ) : Type 0 where
  pub small : over_limit (length w) ≡ false
  pub ends : f + length w ≤ bytes

-- two windows agree at the needed offsets: each offset is in both windows, with the same byte, or in none
pub record Agree (bytes : ℕ) (h : Result Record Refusal) (a e : Option Position) (f : ℕ) (w : List ℕ) (f' : ℕ) (w' : List ℕ) : Type 0 where
  pub in_both : (o : ℕ) → Needs bytes h a e o → is_in f (f + length w) o ≡ is_in f' (f' + length w') o
  pub same : (o : ℕ) → Needs bytes h a e o → f ≤ o → o < f + length w → byte_from f w o ≡ byte_from f' w' o

-- base p is the first of a region that is in the file and not in the window, and nothing else is wrong
pub record FirstUnseen (bytes : ℕ) (w : List ℕ) (f : ℕ) (h : Result Record Refusal) (a e : Option Position) (out : List ℕ) (p : ℕ) : Type 0 where
  pub within : Within bytes w f
  pub known : over_limit bytes ≡ false
  pub row : Record
  pub holds : h ≡ Ok row
  pub readable : Readable bytes row a e (length out)
  pub region : InRegion row a e p
  pub unseen : f ≤ place_in row (p - 1) → place_in row (p - 1) < f + length w → ⊥
  pub before : (q : ℕ) → InRegion row a e q → q < p → (f ≤ place_in row (q - 1)) × (place_in row (q - 1) < f + length w)
