-- The complete rule's numbers can stand in an index line: line bases and line width are not 0, and none is more than the bytes of the
-- sequence, but for the 1 and the 2 of a record without bases.
use Rattle.std.specs.Prelude.{ℕ, zero, suc, ◌+◌, ◌-◌, ◌≤◌, ◌<◌, ◌≡◌, refl, List, [], ◌∷◌, ◌++◌, Bool, true, false, cond, length, get_or, drop, eqb, ltb}
use Rattle.std.proofs.Common.{drop_of_length-le, length-append, drop-cons, get_or-append-add, eqb-true, ltb-true, ltb-false, arith}
use Rattle.std.proofs.Math.ListN.{get_or-append}
use Rattle.std.proofs.lemmas.Bool.{eqb-false}
use Rattle.lines.specs.Lines.{chop, bases_of, first_line, sum_widths, up_from, bases_at}
use Rattle.lines.specs.Laws.{chop-le}
use Rattle.lines.specs.Sums.{sum-le}
use Rattle.record.specs.EvenLines.{length-up_from, get_or-up_from, length-bases_at}
use Rattle.fitting.specs.declared.Numbers.{Numbers}
use Rattle.fitting.specs.Complete.{besides, distance, numbers_for, from_bases, numbers_at}
use Rattle.fitting.specs.Leads.{beside-le}

-- ---- where the bases of some lines lie

few : (l : List ℕ) → length (bases_of l) ≤ length l
few l = omega (arith, chop-le 13 (chop 10 l), chop-le 10 l)

-- a base of the first of two parts, or of the second
by_part : (P : ℕ → ℕ → Type 0) (xs ys : List ℕ) → ((j : ℕ) → j < length xs → P j (get_or xs j 0)) → ((j : ℕ) → j < length ys → P (length xs + j) (get_or ys j 0))
    → (j : ℕ) → j < length (xs ++ ys) → P j (get_or (xs ++ ys) j 0)
by_part P xs ys a b j h = go (ltb j (length xs)) refl
  where
    go : (t : Bool) → ltb j (length xs) ≡ t → P j (get_or (xs ++ ys) j 0)
    go true e = rw (get_or-append xs ys 0 j (ltb-true _ _ e)) (a j (ltb-true _ _ e))
    go false e =
        let q : length xs + (j - length xs) ≡ j = omega (arith, ltb-false j (length xs) e) in
        let r : get_or (xs ++ ys) (length xs + (j - length xs)) 0 ≡ get_or ys (j - length xs) 0 = get_or-append-add xs ys (j - length xs) 0 in
        rw q at (rw (← r) at (b (j - length xs) (omega (arith, ltb-false j (length xs) e, length-append xs ys))))

-- all lie in them
pub bases-inside : (at : ℕ) (ls : List (List ℕ)) (j : ℕ) → j < length (bases_at at ls) → (at ≤ get_or (bases_at at ls) j 0) × (get_or (bases_at at ls) j 0 < at + sum_widths ls)
unfolding bases_at sum_widths
bases-inside at [] j h = absurd (omega arith)
bases-inside at (l ∷ ls) j h =
    by_part (λ i o. (at ≤ o) × (o < at + (length l + sum_widths ls))) (up_from at (length (bases_of l))) (bases_at (at + length l) ls)
    (λ i m. rw (get_or-up_from at (length (bases_of l)) i (rw length-up_from at m)) (omega arith, omega (arith, few l, rw length-up_from at m)))
    (λ i m. let q = bases-inside (at + length l) ls i m in (omega (arith, q), omega (arith, q)))
    j h

-- and behind the first of them
pub bases-behind : (at : ℕ) (ls : List (List ℕ)) (o : ℕ) (os : List ℕ) → bases_at at ls ≡ o ∷ os → (j : ℕ) → j < length os → o < get_or os j 0
unfolding bases_at up_from
bases-behind at [] o os e = let z : ◌≡◌ {A = ℕ} 0 1 = cc in absurd (omega arith)
bases-behind at (l ∷ ls) o os e = go (length (bases_of l)) (few l) e (bases-behind (at + length l) ls o os)
  where
    go : (n : ℕ) → n ≤ length l → up_from at n ++ bases_at (at + length l) ls ≡ o ∷ os → (bases_at (at + length l) ls ≡ o ∷ os → (j : ℕ) → j < length os → o < get_or os j 0)
        → (j : ℕ) → j < length os → o < get_or os j 0
    go zero m q r = r q
    go (suc n) m q r =
        let a : o ≡ at = cc in
        let b : os ≡ up_from (suc at) n ++ bases_at (at + length l) ls = cc in
        rw (a, b)
        (by_part (λ i x. at < x) (up_from (suc at) n) (bases_at (at + length l) ls)
        (λ i h. rw (get_or-up_from (suc at) n i (rw length-up_from at h)) (omega arith))
        (λ i h. omega (arith, (bases-inside (at + length l) ls i h).0)))

-- ---- the line of the first base

pub first-line : (at : ℕ) (ls : List (List ℕ)) → (0 < length (bases_at at ls) → 1 ≤ (first_line (from_bases ls)).width) × ((first_line (from_bases ls)).width ≤ sum_widths ls)
unfolding bases_at from_bases sum_widths
first-line at [] = (λ h. absurd (omega arith), omega arith)
first-line at (l ∷ ls) = go (eqb (length (bases_of l)) 0) refl (first-line (at + length l) ls)
  where
    go : (t : Bool) → eqb (length (bases_of l)) 0 ≡ t
        → (0 < length (bases_at (at + length l) ls) → 1 ≤ (first_line (from_bases ls)).width) × ((first_line (from_bases ls)).width ≤ sum_widths ls)
        → (0 < length (up_from at (length (bases_of l)) ++ bases_at (at + length l) ls) → 1 ≤ (first_line (cond t (from_bases ls) (l ∷ ls))).width) × ((first_line (cond t (from_bases ls) (l ∷ ls))).width ≤ length l + sum_widths ls)
    go true e r = (λ h. r.0 (omega (arith, eqb-true (length (bases_of l)) 0 e, length-append (up_from at (length (bases_of l))) (bases_at (at + length l) ls), length-up_from at (length (bases_of l)))), omega arith)
    go false e r = (λ h. omega (arith, eqb-false (length (bases_of l)) 0 e, few l), omega arith)

-- ---- the numbers

-- numbers for a sequence that begins at a start and has so many bytes; m is any number that is not too small
pub record Sound (start bytes : ℕ) (n : Numbers) : Type 0 where
  pub some-bases : 1 ≤ n.bases
  pub some-width : 1 ≤ n.width
  pub position : n.position ≤ start + bytes
  pub bases : (m : ℕ) → 1 ≤ m → bytes ≤ m → n.bases ≤ m
  pub width : (m : ℕ) → 2 ≤ m → bytes ≤ m → n.width ≤ m

sound-of : (start bytes line : ℕ) (os : List ℕ) → ((j : ℕ) → j < length os → (start ≤ get_or os j 0) × (get_or os j 0 < start + bytes))
    → ((o : ℕ) (rest : List ℕ) → os ≡ o ∷ rest → (j : ℕ) → j < length rest → o < get_or rest j 0)
    → (0 < length os → 1 ≤ line) → line ≤ bytes → length os ≤ bytes → Sound start bytes (numbers_for start line os)
unfolding numbers_for distance
sound-of start bytes line [] a b c d e = record { some-bases = omega arith; some-width = omega arith; position = omega arith; bases = λ m h k. h; width = λ m h k. h }
sound-of start bytes line (o ∷ os) a b c d e =
    let w = far (ltb (besides o os) (length os)) refl in
    record { some-bases = omega arith; some-width = w.0; position = omega (arith, a 0 (omega arith)); bases = λ m h k. omega (arith, beside-le o os); width = λ m h k. omega (arith, w.1) }
  where
    far : (t : Bool) → ltb (besides o os) (length os) ≡ t → (1 ≤ distance line o (drop (besides o os) os)) × (distance line o (drop (besides o os) os) ≤ bytes)
    far true h =
        let k : besides o os < length os = ltb-true _ _ h in
        rw (drop-cons os (besides o os) 0 k) (omega (arith, b o os refl (besides o os) k), omega (arith, a (suc (besides o os)) (omega arith), a 0 (omega arith)))
    far false h = rw (drop_of_length-le os (ltb-false (besides o os) (length os) h)) (c (omega arith), d)

pub numbers-sound : (start : ℕ) (ls : List (List ℕ)) → Sound start (sum_widths ls) (numbers_at start ls)
unfolding numbers_at
numbers-sound start ls =
    sound-of start (sum_widths ls) (first_line (from_bases ls)).width (bases_at start ls) (bases-inside start ls) (bases-behind start ls)
    (first-line start ls).0 (first-line start ls).1 (omega (arith, length-bases_at start ls, sum-le ls))
