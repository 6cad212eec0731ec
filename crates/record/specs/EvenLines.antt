-- The bases of equal lines lie where the addressing rule says. This is a fact about lines, whatever the file: index, check and reads cite it.
use Rattle.std.specs.Prelude.{ℕ, zero, suc, ◌+◌, ◌-◌, ◌≤◌, ◌<◌, ◌≡◌, refl, List, [], ◌∷◌, ◌++◌, Bool, true, false, ltb, length, get_or}
use Rattle.std.proofs.Common.{ap, sym, ◌∙◌, length-append, get_or-append-add, ext_get_or, ltb-true, ltb-false, arith, zero-add}
use Rattle.std.proofs.Math.ListN.{get_or-append}
use Rattle.lines.specs.Lines.{bases_of, all_bases, sum_bases, up_from, bases_at}
use Rattle.record.specs.Place.{place_of, places_from}
use Rattle.record.specs.Laws.{place-first, place-row, length-places, get_or-places}

-- some lines are even: each but the last has b bases and w bytes, and the last at most b bases; lines without a base may follow
pub data EvenLines (b w : ℕ) : List (List ℕ) → Type 0 where
  none : {ls : List (List ℕ)} → sum_bases ls ≡ 0 → EvenLines b w ls
  last : {l : List ℕ} {ls : List (List ℕ)} → length (bases_of l) ≤ b → sum_bases ls ≡ 0 → EvenLines b w (l ∷ ls)
  more : {l : List ℕ} {ls : List (List ℕ)} → length (bases_of l) ≡ b → length l ≡ w → EvenLines b w ls → EvenLines b w (l ∷ ls)

-- ---- as many offsets as bases

-- n offsets in a row: number i is i further on
pub length-up_from : (o n : ℕ) → length (up_from o n) ≡ n
unfolding up_from
length-up_from o zero = refl
length-up_from o (suc n) = ap suc (length-up_from (suc o) n)

pub get_or-up_from : (o n i : ℕ) → i < n → get_or (up_from o n) i 0 ≡ o + i
unfolding up_from
get_or-up_from o zero i h = absurd (omega arith)
get_or-up_from o (suc n) zero h = omega arith
get_or-up_from o (suc n) (suc i) h = omega (arith, get_or-up_from (suc o) n i (omega arith))

-- an offset for each base
pub length-bases_at : (at : ℕ) (ls : List (List ℕ)) → length (bases_at at ls) ≡ sum_bases ls
unfolding bases_at sum_bases
length-bases_at at [] = refl
length-bases_at at (l ∷ ls) = rw (length-append, length-up_from, length-bases_at (at + length l) ls)

pub length-all_bases : (ls : List (List ℕ)) → length (all_bases ls) ≡ sum_bases ls
unfolding all_bases sum_bases
length-all_bases [] = refl
length-all_bases (l ∷ ls) = rw (length-append, length-all_bases ls)

-- ---- the fact

-- the bases of a first line that has at most b
first-place : (p b w n i : ℕ) (rest : List ℕ) → n ≤ b → i < n → get_or (up_from p n ++ rest) i 0 ≡ place_of p b w i
first-place p b w n i rest h k =
    get_or-append (up_from p n) rest 0 i (omega (arith, length-up_from p n)) ∙ get_or-up_from p n i k ∙ sym (place-first p b w i (omega arith))

-- and those of what is behind a line that has b
behind-place : (p b w i : ℕ) (rest : List ℕ) (n : ℕ) → 0 < b → n ≡ b → i < n + length rest
    → ((j : ℕ) → j < length rest → get_or rest j 0 ≡ place_of (p + w) b w j) → get_or (up_from p n ++ rest) i 0 ≡ place_of p b w i
behind-place p b w i rest n z e h r = go (ltb i n) refl
  where
    go : (t : Bool) → ltb i n ≡ t → get_or (up_from p n ++ rest) i 0 ≡ place_of p b w i
    go true m = first-place p b w n i rest (omega arith) (ltb-true _ _ m)
    go false m =
        let k : n ≤ i = ltb-false _ _ m in
        let q : length (up_from p n) + (i - n) ≡ i = omega (arith, length-up_from p n) in
        let s : b + (i - n) ≡ i = omega arith in
        ap (λ (m : ℕ). get_or (up_from p n ++ rest) m 0) (sym q)
        ∙ get_or-append-add (up_from p n) rest (i - n) 0
        ∙ r (i - n) (omega arith)
        ∙ sym (place-row p b w (i - n) z)
        ∙ ap (place_of p b w) s

-- base number i + 1 of even lines, which begin at p, is where the addressing rule says
pub even_place : (b w : ℕ) → 0 < b → (p : ℕ) (ls : List (List ℕ)) → EvenLines b w ls
    → (i : ℕ) → i < length (bases_at p ls) → get_or (bases_at p ls) i 0 ≡ place_of p b w i
unfolding bases_at
even_place b w z p ls (none e) i h = absurd (omega (arith, length-bases_at p ls, e))
even_place b w z p (l ∷ ls) (last k e) i h =
    first-place p b w (length (bases_of l)) i (bases_at (p + length l) ls) k (omega (arith, rw (length-append, length-up_from) at h, length-bases_at (p + length l) ls, e))
even_place b w z p (l ∷ ls) (more k e r) i h =
    behind-place p b w i (bases_at (p + length l) ls) (length (bases_of l)) z k (rw (length-append, length-up_from) at h)
    (λ j m. even_place b w z (p + length l) ls r j m ∙ ap (λ (n : ℕ). place_of (p + n) b w j) e)

-- the same for all of them
pub even-places : (b w : ℕ) → 0 < b → (p : ℕ) (ls : List (List ℕ)) → EvenLines b w ls → bases_at p ls ≡ places_from p b w 0 (sum_bases ls)
even-places b w z p ls e =
    ext_get_or 0 (bases_at p ls) (places_from p b w 0 (sum_bases ls)) (length-bases_at p ls ∙ sym (length-places p b w 0 (sum_bases ls)))
    (λ i h. even_place b w z p ls e i h ∙ sym (get_or-places p b w 0 (sum_bases ls) i (omega (arith, length-bases_at p ls)) ∙ ap (place_of p b w) (zero-add i)))
