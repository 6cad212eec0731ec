-- Numbers that lead to bases, over any list of their offsets. Where there is a gap between two of the bases, only one line bases and one
-- line width can lead to them: those of the complete rule. Where there is none, its numbers lead to them anyway. So if any numbers lead to
-- the first m bases, the rule's do (`any-leads-first`); and where the rule's don't lead to a base, but to all before it, no numbers lead to
-- that base and those before it (`misfit-means`).
use Rattle.std.specs.Prelude.{ℕ, zero, suc, ◌+◌, ◌≤◌, ◌<◌, ◌≡◌, refl, List, [], ◌∷◌, Bool, true, false, cond, length, get_or, eqb, ltb, Option}
use Rattle.std.proofs.Common.{ap, sym, ◌∙◌, drop-cons, eqb-true, ltb-true, ltb-false, arith, add-zero, zero-add}
use Rattle.std.proofs.lemmas.Bool.{eqb-false}
use Rattle.record.specs.declared.Offset.{Offset}
use Rattle.record.specs.declared.Position.{Position}
use Rattle.record.specs.Place.{place_of}
use Rattle.record.specs.Laws.{place-first, place-row, place-line}
use Rattle.refusal.specs.declared.Refusal.{Refusal}
use Rattle.refusal.specs.declared.Refusal.TheVariants.{NoIndexFits}
use Rattle.lines.specs.Lines.{bases_at}
use Rattle.indexer.specs.Rule.{good, bad}
use Rattle.walking.specs.Places.{first_elsewhere}
use Rattle.walking.specs.PlaceLaws.{PlacesSaid, all_there, places-said}
use Rattle.walking.specs.PlaceLaws.PlacesSaid.{all, one}
use Rattle.fitting.specs.Complete.{besides, distance, numbers_for, numbers_at, place_by, places_say, fit}
use Rattle.fitting.specs.declared.Numbers.{Numbers}

-- numbers lead to the first m of bases at some offsets
abbrev pub LeadsFirst : ℕ → Numbers → List ℕ → Type 0
LeadsFirst m n os = (j : ℕ) → j < m → get_or os j 0 ≡ place_by n j

-- to all of them
abbrev pub Leads : Numbers → List ℕ → Type 0
Leads n os = LeadsFirst (length os) n os

-- ---- the bases side by side

pub beside-le : (o : ℕ) (os : List ℕ) → besides o os ≤ length os
unfolding besides
beside-le o [] = omega arith
beside-le o (x ∷ os) = go (eqb x (suc o)) (beside-le x os)
  where
    go : (t : Bool) → besides x os ≤ length os → cond t (suc (besides x os)) 0 ≤ suc (length os)
    go true h = omega arith
    go false h = omega arith

-- each is one behind the one before it
pub beside-run : (o : ℕ) (os : List ℕ) (j : ℕ) → j < besides o os → get_or os j 0 ≡ suc o + j
unfolding besides
beside-run o [] j h = absurd (omega arith)
beside-run o (x ∷ os) j h = go (eqb x (suc o)) refl (beside-run x os) j h
  where
    go : (t : Bool) → eqb x (suc o) ≡ t → ((i : ℕ) → i < besides x os → get_or os i 0 ≡ suc x + i) → (j : ℕ) → j < cond t (suc (besides x os)) 0 → get_or (x ∷ os) j 0 ≡ suc o + j
    go true e r zero h = omega (arith, eqb-true x (suc o) e)
    go true e r (suc j) h = omega (arith, eqb-true x (suc o) e, r j (omega arith))
    go false e r j h = absurd (omega arith)

-- and the one behind them is not
pub beside-gap : (o : ℕ) (os : List ℕ) → besides o os < length os → get_or os (besides o os) 0 ≡ suc o + besides o os → ⊥
unfolding besides
beside-gap o [] h = absurd (omega arith)
beside-gap o (x ∷ os) h = go (eqb x (suc o)) refl (beside-gap x os) h
  where
    go : (t : Bool) → eqb x (suc o) ≡ t → (besides x os < length os → get_or os (besides x os) 0 ≡ suc x + besides x os → ⊥) → cond t (suc (besides x os)) 0 < suc (length os) → get_or (x ∷ os) (cond t (suc (besides x os)) 0) 0 ≡ suc o + cond t (suc (besides x os)) 0 → ⊥
    go true e r h q = r (omega arith) (omega (arith, eqb-true x (suc o) e))
    go false e r h q = eqb-false x (suc o) e (omega arith)

-- ---- numbers that lead

module _ (p b w : ℕ) (z : 0 < b) where
  pub place-zero : place_of p b w 0 ≡ p
  place-zero = place-first p b w 0 z ∙ add-zero p

  pub place-second : place_of p b w b ≡ p + w
  place-second = ap (place_of p b w) (sym (add-zero b)) ∙ place-row p b w 0 z ∙ place-first (p + w) b w 0 z ∙ add-zero (p + w)

-- where there is a gap, one line bases and one line width lead to the bases up to the first behind it
module _ (o : ℕ) (os : List ℕ) (gap : besides o os < length os) (n : Numbers) (z : 0 < n.bases) (h : LeadsFirst (suc (suc (besides o os))) n (o ∷ os)) where
  first-is : n.position ≡ o
  first-is = sym (h 0 (omega arith) ∙ place-zero n.position n.bases n.width z)

  apart : get_or os (besides o os) 0 ≡ n.position + suc (besides o os) → ⊥
  apart e = beside-gap o os gap (omega (arith, e, first-is))

  -- more than lie side by side: then the gap would be in a line
  not_more : suc (besides o os) < n.bases → ⊥
  not_more m = apart (h (suc (besides o os)) (omega arith) ∙ place-first n.position n.bases n.width (suc (besides o os)) m)

  -- fewer: then there would be no byte between two lines, and no gap
  joined : (c : ℕ) → n.bases ≡ suc c → c < besides o os → n.width ≡ n.bases
  joined c e m =
      let q : get_or (o ∷ os) n.bases 0 ≡ n.position + n.width = h n.bases (omega (arith, e)) ∙ place-second n.position n.bases n.width z in
      let r : get_or (o ∷ os) n.bases 0 ≡ suc o + c = ap (λ (i : ℕ). get_or (o ∷ os) i 0) e ∙ beside-run o os c m in
      omega (arith, q, r, first-is, e)

  not-fewer : (c : ℕ) → n.bases ≡ suc c → c < besides o os → ⊥
  not-fewer c e m = apart (h (suc (besides o os)) (omega arith) ∙ place-line n.position n.bases n.width (suc (besides o os)) (joined c e m))

  only-bases : n.bases ≡ suc (besides o os)
  only-bases = go (ltb (suc (besides o os)) n.bases) refl (ltb n.bases (suc (besides o os))) refl
    where
      less : (b : ℕ) → n.bases ≡ b → 0 < b → b < suc (besides o os) → ⊥
      less zero e y m = omega arith
      less (suc c) e y m = not-fewer c e (omega arith)

      go : (t : Bool) → ltb (suc (besides o os)) n.bases ≡ t → (u : Bool) → ltb n.bases (suc (besides o os)) ≡ u → n.bases ≡ suc (besides o os)
      go true e u f = absurd (not_more (ltb-true _ _ e))
      go false e true f = absurd (less n.bases refl z (ltb-true _ _ f))
      go false e false f = omega (arith, ltb-false (suc (besides o os)) n.bases e, ltb-false n.bases (suc (besides o os)) f)

  only-width : get_or os (besides o os) 0 ≡ o + n.width
  only-width =
      let q : get_or (o ∷ os) n.bases 0 ≡ n.position + n.width = h n.bases (omega (arith, only-bases)) ∙ place-second n.position n.bases n.width z in
      let r : get_or (o ∷ os) n.bases 0 ≡ get_or os (besides o os) 0 = ap (λ (i : ℕ). get_or (o ∷ os) i 0) only-bases in
      omega (arith, q, r, first-is)

  -- and those are the rule's
  pub only-numbers : (start line : ℕ) → numbers_for start line (o ∷ os) ≡ n
  unfolding numbers_for distance
  only-numbers start line =
      rw (drop-cons os (besides o os) 0 gap)
      (numbers-same _ n (sym first-is) (sym only-bases) (omega (arith, only-width)))
    where
      numbers-same : (a b : Numbers) → a.position ≡ b.position → a.bases ≡ b.bases → a.width ≡ b.width → a ≡ b
      numbers-same a b p q r i = record { position = p i; bases = q i; width = r i }

-- the rule's numbers lead to the first run
run-leads : (start line o : ℕ) (os : List ℕ) → LeadsFirst (suc (besides o os)) (numbers_for start line (o ∷ os)) (o ∷ os)
unfolding numbers_for
run-leads start line o os j h = go j h ∙ sym (place-first o (suc (besides o os)) _ j h)
  where
    go : (j : ℕ) → j < suc (besides o os) → get_or (o ∷ os) j 0 ≡ o + j
    go zero m = omega arith
    go (suc j) m = omega (arith, beside-run o os j (omega arith))

-- so if any numbers lead to the first m bases, the rule's do
pub any-leads-first : (start line : ℕ) (os : List ℕ) (n : Numbers) → 0 < n.bases → (m : ℕ) → m ≤ length os → LeadsFirst m n os → LeadsFirst m (numbers_for start line os) os
any-leads-first start line [] n z m l h = λ j k. absurd (omega arith)
any-leads-first start line (o ∷ os) n z m l h = go (ltb (suc (besides o os)) m) refl
  where
    go : (t : Bool) → ltb (suc (besides o os)) m ≡ t → LeadsFirst m (numbers_for start line (o ∷ os)) (o ∷ os)
    go true e =
        let k : suc (besides o os) < m = ltb-true _ _ e in
        rw (only-numbers o os (omega arith) n z (λ j i. h j (omega arith)) start line) h
    go false e = λ j k. run-leads start line o os j (omega (arith, ltb-false (suc (besides o os)) m e))

pub any-leads : (start line : ℕ) (os : List ℕ) (n : Numbers) → 0 < n.bases → Leads n os → Leads (numbers_for start line os) os
any-leads start line os n z h = any-leads-first start line os n z (length os) (omega arith) h

-- ---- the verdict is good if the numbers lead to every base, and only then

pub leads-good : (n : Numbers) (os : List ℕ) → Leads n os → places_say (first_elsewhere (place_by n) 0 os) ≡ good
leads-good n os h = ap places_say (sym (all_there (place_by n) 0 os (λ j m. rw zero-add (h j m))))

pub good-leads : (n : Numbers) (os : List ℕ) → places_say (first_elsewhere (place_by n) 0 os) ≡ good → Leads n os
good-leads n os h = go (first_elsewhere (place_by n) 0 os) (places-said (place_by n) 0 os) h
  where
    go : (p : Option (Position × Offset)) → PlacesSaid (place_by n) 0 os p → places_say p ≡ good → Leads n os
    go p (all k) e = λ j m. rw zero-add at (k j m)
    go p (one q o j a b c d f) e = let z : ◌≡◌ {A = ℕ} 0 1 = cc in absurd (omega arith)

-- ---- what refusal 42 means

-- the refusal has base j + 1 of a sequence, with its offset: the rule's numbers lead to all before it, and no numbers lead to it and those before it
pub data Misfit (start : ℕ) (ls : List (List ℕ)) : Refusal → Type 0 where
  misfit : {offset base : ℕ} → (j : ℕ) → base ≡ suc j → j < length (bases_at start ls) → offset ≡ get_or (bases_at start ls) j 0
      → LeadsFirst j (numbers_at start ls) (bases_at start ls) → ((n : Numbers) → 0 < n.bases → LeadsFirst (suc j) n (bases_at start ls) → ⊥)
      → Misfit start ls (NoIndexFits offset base)

pub misfit-means : (start : ℕ) (ls : List (List ℕ)) (x : Refusal) → fit start ls ≡ bad x → Misfit start ls x
unfolding fit numbers_at
misfit-means start ls x h = go (first_elsewhere (place_by (numbers_at start ls)) 0 (bases_at start ls)) (places-said (place_by (numbers_at start ls)) 0 (bases_at start ls)) h
  where
    go : (p : Option (Position × Offset)) → PlacesSaid (place_by (numbers_at start ls)) 0 (bases_at start ls) p → places_say p ≡ bad x → Misfit start ls x
    go p (all k) e = let z : ◌≡◌ {A = ℕ} 0 1 = cc in absurd (omega arith)
    go p (one q o j a b c d f) e =
        let y : NoIndexFits o.0 q.0 ≡ x = cc in
        rw (← y)
        (misfit j (rw zero-add at a) c b (λ m l. rw zero-add at (d m l))
        (λ n z l. f (rw zero-add (any-leads-first start _ (bases_at start ls) n z (suc j) c l j (omega arith)))))
