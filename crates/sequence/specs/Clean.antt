-- Lines that the line rule and the scanning rule read alike, and what a scan gives of some lines by the line rule.
use Rattle.std.specs.Prelude.{ℕ, suc, ◌+◌, ◌<◌, ◌≡◌, List, [], ◌∷◌, Bool, true, false, cond, take, eqb}
use Rattle.lines.specs.Lines.{bases_of, all_bases, sum_bases, sum_widths}
use Rattle.lines.specs.Mending.{BaseOf}
use Rattle.sequence.specs.Scan.{Scan}

-- is a byte among some bytes
unfoldable pub has : ℕ → List ℕ → Bool
has b [] = false
has b (x ∷ l) = cond (eqb x b) true (has b l)

-- a line without a '>', and without a CR but the one at its end, which is no base of it
pub record CleanLine (l : List ℕ) : Type 0 where
  pub no-prefix : has 62 l ≡ false
  pub no_return : has 13 (bases_of l) ≡ false

-- lines that are all clean
unfoldable pub Clean : List (List ℕ) → Type 0
Clean [] = Unit
Clean (l ∷ ls) = CleanLine l × Clean ls

-- what a scan for so many bases gives of some lines that begin at an offset, by the line rule: the first so many bases of all. It stops
-- behind the last of them, or where it was if none is wanted. If there are fewer, it gives all and stops at the end of the lines
pub record ByLines (c : Scan) (ls : List (List ℕ)) (limit at : ℕ) : Type 0 where
  pub bases : c.bases ≡ take limit (all_bases ls)
  pub unmoved : limit ≡ 0 → c.place ≡ at
  pub reached : (byte base : ℕ) → BaseOf ls byte base → limit ≡ suc base → c.place ≡ at + suc byte
  pub short : sum_bases ls < limit → (c.bases ≡ all_bases ls) × (c.place ≡ at + sum_widths ls)
