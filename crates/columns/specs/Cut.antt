-- Cutting at tabs and putting tabs between are each other's opposite.
use Rattle.std.specs.Prelude.{ℕ, zero, suc, ◌≤◌, ◌≡◌, refl, List, [], ◌∷◌, ◌++◌, map, Bool, true, false, cond, length, eqb}
use Rattle.std.proofs.Common.{sym, ap, ◌∙◌, append-nil, arith, eqb-true, ne_eqb}
use Rattle.lines.specs.Lines.{onto}
use Rattle.columns.specs.Decimal.{decimal_of}
use Rattle.columns.specs.Fields.{cut_at, tabbed, numbers_text}
use Rattle.columns.specs.Bytes.{is}
use Rattle.columns.specs.Reading.{cut-first}
use Rattle.columns.specs.Lacks.{Lacks, lacks-head, lacks-tail, decimal-lacks}

-- fields with tabs between
abbrev joined : List (List ℕ) → List ℕ
joined [] = []
joined (f ∷ fs) = f ++ tabbed fs

tabbed-cut : (k : ℕ) (l : List ℕ) → tabbed (cut_at k l) ≡ 9 ∷ joined (cut_at k l)
unfolding tabbed
tabbed-cut k l = rw (cut-first k l)

joined-onto : (b : ℕ) (fs : List (List ℕ)) → joined (onto b fs) ≡ b ∷ joined fs
unfolding tabbed
joined-onto b [] = refl
joined-onto b (f ∷ fs) = refl

cut-joined : (k : ℕ) (l : List ℕ) → joined (cut_at k l) ≡ l
unfolding cut_at tabbed
cut-joined zero l = append-nil l
cut-joined (suc k) [] = refl
cut-joined (suc k) (b ∷ l) = go (eqb b 9) refl (cut-joined k l) (cut-joined (suc k) l)
  where
    go : (t : Bool) → eqb b 9 ≡ t → joined (cut_at k l) ≡ l → joined (cut_at (suc k) l) ≡ l → joined (cond t ([] ∷ cut_at k l) (onto b (cut_at (suc k) l))) ≡ b ∷ l
    go true e h m = rw (eqb-true b 9 e) (tabbed-cut k l ∙ ap (λ (r : List ℕ). 9 ∷ r) h)
    go false e h m = joined-onto b (cut_at (suc k) l) ∙ ap (λ (r : List ℕ). b ∷ r) m

-- what is cut is the fields with tabs between
pub cut-text : (k : ℕ) (l f : List ℕ) (fs : List (List ℕ)) → cut_at k l ≡ f ∷ fs → l ≡ f ++ tabbed fs
cut-text k l f fs e = sym (cut-joined k l) ∙ ap joined e

-- and has at most one field more than there are cuts
onto-most : (b n : ℕ) (fs : List (List ℕ)) → length fs ≤ suc n → length (onto b fs) ≤ suc n
onto-most b n [] h = omega arith
onto-most b n (f ∷ fs) h = h

pub cut_most : (k : ℕ) (l : List ℕ) → length (cut_at k l) ≤ suc k
unfolding cut_at
cut_most zero l = omega arith
cut_most (suc k) [] = omega arith
cut_most (suc k) (b ∷ l) = go (eqb b 9) (cut_most k l) (cut_most (suc k) l)
  where
    go : (t : Bool) → length (cut_at k l) ≤ suc k → length (cut_at (suc k) l) ≤ suc (suc k) → length (cond t ([] ∷ cut_at k l) (onto b (cut_at (suc k) l))) ≤ suc (suc k)
    go true h m = omega arith
    go false h m = onto-most b (suc k) (cut_at (suc k) l) m

-- a field without a tab is cut off at the tab behind it
cut-here : (k : ℕ) (f r : List ℕ) → Lacks (is 9) f → cut_at (suc k) (f ++ (9 ∷ r)) ≡ f ∷ cut_at k r
unfolding cut_at
cut-here k [] r h = refl
cut-here k (b ∷ f) r h = rw (lacks-head (is 9) b f h, cut-here k f r (lacks-tail (is 9) b f h))

-- a name without a tab and numbers as they are written are cut into the name and the numbers
pub text-cut : (f ns : List ℕ) → Lacks (is 9) f → cut_at (length ns) (f ++ numbers_text ns) ≡ f ∷ map decimal_of ns
unfolding tabbed cut_at
text-cut f [] h = rw append-nil
text-cut f (n ∷ ns) h =
    cut-here (length ns) f (decimal_of n ++ numbers_text ns) h
    ∙ ap (λ (r : List (List ℕ)). f ∷ r) (text-cut (decimal_of n) ns (decimal-lacks (is 9) (λ b l. ne_eqb b 9 (λ e. omega arith)) n))
