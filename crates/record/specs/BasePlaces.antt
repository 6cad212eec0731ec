-- The offset of a base, by its number: in the first line or behind it. So an offset of the list says which byte of which line it is.
use Rattle.std.specs.Prelude.{ℕ, ◌+◌, ◌-◌, ◌≤◌, ◌<◌, ◌≡◌, refl, List, [], ◌∷◌, ◌++◌, Bool, true, false, ltb}
use Rattle.std.proofs.Math.Path.{ap}
use Rattle.std.proofs.Common.{◌∙◌, ltb-true, ltb-false, arith}
use Rattle.std.proofs.Math.ListN.{length, get_or, get_or-append}
use Rattle.std.proofs.Math.Seq.{get_or-append-add}
use Rattle.lines.specs.Lines.{bases_of, sum_bases, up_from, bases_at}
use Rattle.lines.specs.Mending.{BaseOf, first, later}
use Rattle.record.specs.EvenLines.{length-up_from, get_or-up_from}

module _ (l : List ℕ) (ls : List (List ℕ)) (at j : ℕ) where
  pub place-in-first : j < length (bases_of l) → get_or (bases_at at (l ∷ ls)) j 0 ≡ at + j
  unfolding bases_at
  place-in-first h =
      get_or-append (up_from at (length (bases_of l))) (bases_at (at + length l) ls) 0 j (omega (arith, length-up_from at (length (bases_of l)))) ∙ get_or-up_from at (length (bases_of l)) j h

  pub place-behind : length (bases_of l) ≤ j → get_or (bases_at at (l ∷ ls)) j 0 ≡ get_or (bases_at (at + length l) ls) (j - length (bases_of l)) 0
  unfolding bases_at
  place-behind h =
      ap (λ (m : ℕ). get_or (up_from at (length (bases_of l)) ++ bases_at (at + length l) ls) m 0) i
      ∙ get_or-append-add (up_from at (length (bases_of l))) (bases_at (at + length l) ls) (j - length (bases_of l)) 0
    where
      i : j ≡ length (up_from at (length (bases_of l))) + (j - length (bases_of l))
      i = omega (arith, length-up_from at (length (bases_of l)))

-- no base lies before the lines
pub place-from : (ls : List (List ℕ)) (at j : ℕ) → j < sum_bases ls → at ≤ get_or (bases_at at ls) j 0
unfolding sum_bases
place-from [] at j h = absurd (omega arith)
place-from (l ∷ ls) at j h = go (ltb j (length (bases_of l))) refl (place-from ls (at + length l) (j - length (bases_of l)))
  where
    go : (t : Bool) → ltb j (length (bases_of l)) ≡ t
        → (j - length (bases_of l) < sum_bases ls → at + length l ≤ get_or (bases_at (at + length l) ls) (j - length (bases_of l)) 0) → at ≤ get_or (bases_at at (l ∷ ls)) j 0
    go true e r = omega (arith, place-in-first l ls at j (ltb-true _ _ e))
    go false e r =
        let k : length (bases_of l) ≤ j = ltb-false _ _ e in
        omega (arith, place-behind l ls at j k, r (omega arith))

-- the byte at the offset of base number j
pub base-of : (ls : List (List ℕ)) (at j c : ℕ) → j < sum_bases ls → get_or (bases_at at ls) j 0 ≡ at + c → BaseOf ls c j
unfolding sum_bases
base-of [] at j c h e = absurd (omega arith)
base-of (l ∷ ls) at j c h e = go (ltb j (length (bases_of l))) refl (base-of ls (at + length l) (j - length (bases_of l)) (c - length l)) (place-from ls (at + length l) (j - length (bases_of l)))
  where
    go : (t : Bool) → ltb j (length (bases_of l)) ≡ t
        → (j - length (bases_of l) < sum_bases ls → get_or (bases_at (at + length l) ls) (j - length (bases_of l)) 0 ≡ at + length l + (c - length l) → BaseOf ls (c - length l) (j - length (bases_of l)))
        → (j - length (bases_of l) < sum_bases ls → at + length l ≤ get_or (bases_at (at + length l) ls) (j - length (bases_of l)) 0) → BaseOf (l ∷ ls) c j
    go true m r b =
        let k : j < length (bases_of l) = ltb-true _ _ m in
        let q : j ≡ c = omega (arith, place-in-first l ls at j k) in
        let n : c < length (bases_of l) = omega arith in
        first n q
    go false m r b =
        let k : length (bases_of l) ≤ j = ltb-false _ _ m in
        let i : j - length (bases_of l) < sum_bases ls = omega arith in
        let w : at + length l ≤ get_or (bases_at (at + length l) ls) (j - length (bases_of l)) 0 = b i in
        let p : get_or (bases_at at (l ∷ ls)) j 0 ≡ get_or (bases_at (at + length l) ls) (j - length (bases_of l)) 0 = place-behind l ls at j k in
        let q : get_or (bases_at (at + length l) ls) (j - length (bases_of l)) 0 ≡ at + length l + (c - length l) = omega arith in
        let u : c ≡ length l + (c - length l) = omega arith in
        let v : j ≡ length (bases_of l) + (j - length (bases_of l)) = omega arith in
        later (r i q) u v
