-- A sheet in terms of single reads: their answers joined in order, or the refusal of the first that is refused.
use Rattle.std.specs.Prelude.{ℕ, zero, suc, ◌≤◌, ◌<◌, ◌≡◌, Bool, get_or, take, Result, Ok, Err}
use Rattle.std.proofs.Math.Path.{refl, ap, sym}
use Rattle.std.proofs.Common.{◌∙◌, take_at, drop_at, arith, zero-add}
use mathlib.Core.List.{List, [], ◌∷◌, ◌++◌, append_assoc}
use Rattle.std.proofs.Math.Bool.{true, false, cond}
use Rattle.std.proofs.Math.ListN.{length, drop}
use Rattle.std.proofs.Math.Dec.{ltb}
use Rattle.sheet.specs.declared.RegionRefused.{RegionRefused}
use borrow.Author.Tests.{ltb-false, le-ltb}
use Rattle.refusal.specs.Numbers.{over_limit}
use Rattle.refusal.specs.declared.Refusal.{Refusal}
use Rattle.refusal.specs.declared.Refusal.TheVariants.{TooLong, NoRoom, TooManyRegions, TooFewStarts}
use Rattle.output.specs.Outcome.{Outcome}
use Rattle.sheet.specs.declared.Region.{Region}
use Rattle.sheet.specs.Sheet.{SheetOutcome, leaves_both, refuses_at, pieces, joined, starts_from, capped, poured, refused_or, unless_refused, sheet_of, most, read_of, sheet_read}
use Rattle.sheet.specs.Laws.{pieces-length, pieces-at, joined-split, starts-at, sheet-empty, Good, first-refused}
use Rattle.sheet.specs.Turns.{no_region, read-size}

-- ---- what an answer says

-- a refusal is no count
no-count : (place : ℕ) (f : Refusal) (out starts : List ℕ) (k : ℕ) (o st : List ℕ) → refuses_at place f out starts ≡ leaves_both (Ok k) o st → ⊥
no-count place f out starts k o st q = let a = ap (λ (z : SheetOutcome (Result ℕ RegionRefused)). z.answer) q in let z : ◌≡◌ {A = ℕ} 0 1 = cc in omega arith

same_count : {k n : ℕ} → ◌≡◌ {A = Result ℕ RegionRefused} (Ok k) (Ok n) → k ≡ n
same_count h = cc

module _ (read : Region → Outcome (Result ℕ Refusal)) (out starts : List ℕ) (fine : SheetOutcome (Result ℕ RegionRefused)) (k : ℕ) (o st : List ℕ) where
  -- no region is refused, and the rest is said behind them
  record NoneRefused (rs : List Region) : Type 0 where
    pub each : (i : ℕ) → i < length rs → (n : ℕ) × ((read (get_or rs i no_region)).answer ≡ Ok n)
    pub behind : fine ≡ leaves_both (Ok k) o st

  one_more : (r : Region) (rs : List Region) (j : ℕ) (w : Result ℕ Refusal) → (read r).answer ≡ w → (unless_refused read (suc j) rs out starts fine ≡ leaves_both (Ok k) o st → NoneRefused rs)
      → refused_or w j out starts (unless_refused read (suc j) rs out starts fine) ≡ leaves_both (Ok k) o st → NoneRefused (r ∷ rs)
  one_more r rs j (Err f) e more p = absurd (no-count j f out starts k o st p)
  one_more r rs j (Ok n) e more p = record { each = at; behind = (more p).behind }
    where
      at : (i : ℕ) → i < length (r ∷ rs) → (m : ℕ) × ((read (get_or (r ∷ rs) i no_region)).answer ≡ Ok m)
      at zero h = (n, e)
      at (suc i) h = (more p).each i (omega arith)

  all_read : (rs : List Region) (j : ℕ) → unless_refused read j rs out starts fine ≡ leaves_both (Ok k) o st → NoneRefused rs
  unfolding unless_refused
  all_read [] j q = record { each = λ i h. absurd (omega arith); behind = q }
  all_read (r ∷ rs) j q = one_more r rs j (read r).answer refl (λ p. all_read rs (suc j) p) q

-- piece i, at the front of those from i on
first_piece : (ps : List (List ℕ)) (rest : List ℕ) (i : ℕ) → i < length ps → take (length (get_or ps i [])) (joined (drop i ps) ++ rest) ≡ get_or ps i []
unfolding joined
first_piece [] rest i h = absurd (omega arith)
first_piece (p ∷ ps) rest zero h = ap (take (length p)) (append_assoc p (joined ps) rest) ∙ take_at p (joined ps ++ rest) (length p) refl
first_piece (p ∷ ps) rest (suc i) h = first_piece ps rest i (omega arith)

module _ (s t : List ℕ) (u : ℕ) (rs : List Region) (out starts : List ℕ) where
  -- each region's own read, with all the room, and what it gives
  abbrev single : Region → Outcome (Result ℕ Refusal)
  single = read_of s t u out

  abbrev parts : List (List ℕ)
  parts = pieces single rs

  -- ---- without a refusal

  -- k bytes: the single reads' answers joined in order, and the running sums of their lengths; the rest stays as it was
  pub record Joins (k : ℕ) (after begins : List ℕ) : Type 0 where
    pub reads : (i : ℕ) → i < length rs → (single (get_or rs i no_region)).answer ≡ Ok (length (get_or parts i []))
    pub total : k ≡ length (joined parts)
    pub room : k ≤ length out
    pub output : after ≡ joined parts ++ drop k out
    pub starts' : begins ≡ starts_from 0 parts ++ drop (length rs) starts

  poured-joins : (k : ℕ) (after begins : List ℕ) → poured parts out starts ≡ leaves_both (Ok k) after begins → ((i : ℕ) → i < length rs → (n : ℕ) × ((single (get_or rs i no_region)).answer ≡ Ok n)) → Joins k after begins
  unfolding poured
  poured-joins k after begins q each = go (ltb (length out) (length (joined parts))) refl q
    where
      go : (b : Bool) → ltb (length out) (length (joined parts)) ≡ b
          → cond b (refuses_at (length parts) (NoRoom (capped (length (joined parts)))) out starts)
          (leaves_both (Ok (length (joined parts))) (joined parts ++ drop (length (joined parts)) out) (starts_from 0 parts ++ drop (length parts) starts))
          ≡ leaves_both (Ok k) after begins
          → Joins k after begins
      go true e p = absurd (no-count (length parts) _ out starts k after begins p)
      go false e p =
          let c : length (joined parts) ≡ k = same_count (ap (λ (z : SheetOutcome (Result ℕ RegionRefused)). z.answer) p) in
          let a : joined parts ++ drop (length (joined parts)) out ≡ after = ap (λ (z : SheetOutcome (Result ℕ RegionRefused)). z.output) p in
          let b : starts_from 0 parts ++ drop (length parts) starts ≡ begins = ap (λ (z : SheetOutcome (Result ℕ RegionRefused)). z.starts) p in
          record {
            reads = λ i h. let n = each i h in n.1 ∙ ap Ok (sym (ap length (pieces-at single rs i no_region h) ∙ read-size s t u rs out starts (get_or rs i no_region) n.0 n.1));
            total = sym c;
            room = omega (arith, ltb-false (length out) (length (joined parts)) e);
            output = sym (rw c at a);
            starts' = sym (rw (pieces-length single rs) at b);
          }

  pub sheet-joins : (k : ℕ) (after begins : List ℕ) → sheet_read s t u rs out starts ≡ leaves_both (Ok k) after begins → Joins k after begins
  unfolding sheet_read sheet_of
  sheet-joins k after begins q = go (over_limit (length s)) (ltb most (length rs)) (ltb (length starts) (length rs)) q
    where
      go : (a b c : Bool)
          → cond a (refuses_at (length rs) TooLong out starts)
          (cond b (refuses_at (length rs) TooManyRegions out starts) (cond c (refuses_at (length rs) TooFewStarts out starts) (unless_refused single 0 rs out starts (poured parts out starts))))
          ≡ leaves_both (Ok k) after begins
          → Joins k after begins
      go true b c p = absurd (no-count (length rs) _ out starts k after begins p)
      go false true c p = absurd (no-count (length rs) _ out starts k after begins p)
      go false false true p = absurd (no-count (length rs) _ out starts k after begins p)
      go false false false p = let z = all_read single out starts (poured parts out starts) k after begins rs 0 p in poured-joins k after begins z.behind z.each

  -- piece i stands where its start says
  pub piece-there : (k : ℕ) (after begins : List ℕ) → Joins k after begins → (i : ℕ) → i < length rs → take (length (get_or parts i [])) (drop (get_or begins i 0) after) ≡ get_or parts i []
  piece-there k after begins j i h =
      let l : i < length parts = omega (arith, pieces-length single rs) in
      let b : get_or begins i 0 ≡ length (joined (take i parts)) = ap (λ (x : List ℕ). get_or x i 0) j.starts' ∙ starts-at parts (drop (length rs) starts) i l in
      let d : after ≡ joined (take i parts) ++ (joined (drop i parts) ++ drop k out) = j.output ∙ ap (λ (x : List ℕ). x ++ drop k out) (joined-split parts i) ∙ append_assoc (joined (take i parts)) (joined (drop i parts)) (drop k out) in
      let f : drop (get_or begins i 0) after ≡ joined (drop i parts) ++ drop k out = ap (λ (n : ℕ). drop n after) b ∙ ap (drop (length (joined (take i parts)))) d ∙ drop_at (joined (take i parts)) (joined (drop i parts) ++ drop k out) (length (joined (take i parts))) refl in
      ap (take (length (get_or parts i []))) f ∙ first_piece parts (drop k out) i l

  -- ---- with one

  -- neither output changes
  pub record Unchanged (after begins : List ℕ) : Type 0 where
    pub output : after ≡ out
    pub starts' : begins ≡ starts

  module _ (place : ℕ) (f : Refusal) (after begins : List ℕ) where
    refused-same : (n : ℕ) (g : Refusal) → refuses_at n g out starts ≡ leaves_both (Err (record { place = place; refusal = f })) after begins → Unchanged after begins
    refused-same n g q = record { output = sym (ap (λ (z : SheetOutcome (Result ℕ RegionRefused)). z.output) q); starts' = sym (ap (λ (z : SheetOutcome (Result ℕ RegionRefused)). z.starts) q) }

    no-refusal : (n : ℕ) (o st : List ℕ) → leaves_both {A = Result ℕ RegionRefused} (Ok n) o st ≡ leaves_both {A = Result ℕ RegionRefused} (Err (record { place = place; refusal = f })) after begins → ⊥
    no-refusal n o st p = let a = ap (λ (z : SheetOutcome (Result ℕ RegionRefused)). z.answer) p in let z : ◌≡◌ {A = ℕ} 0 1 = cc in omega arith

    poured-same : poured parts out starts ≡ leaves_both (Err (record { place = place; refusal = f })) after begins → Unchanged after begins
    unfolding poured
    poured-same q = go (ltb (length out) (length (joined parts))) q
      where
        go : (b : Bool)
            → cond b (refuses_at (length parts) (NoRoom (capped (length (joined parts)))) out starts)
            (leaves_both (Ok (length (joined parts))) (joined parts ++ drop (length (joined parts)) out) (starts_from 0 parts ++ drop (length parts) starts))
            ≡ leaves_both (Err (record { place = place; refusal = f })) after begins
            → Unchanged after begins
        go true p = refused-same (length parts) _ p
        go false p = absurd (no-refusal _ _ _ p)

    one_same : (w : Result ℕ Refusal) (i : ℕ) (behind : SheetOutcome (Result ℕ RegionRefused)) → (behind ≡ leaves_both (Err (record { place = place; refusal = f })) after begins → Unchanged after begins)
        → refused_or w i out starts behind ≡ leaves_both (Err (record { place = place; refusal = f })) after begins → Unchanged after begins
    one_same (Ok n) i behind more p = more p
    one_same (Err g) i behind more p = refused-same i g p

    all_same : (xs : List Region) (i : ℕ) → unless_refused single i xs out starts (poured parts out starts) ≡ leaves_both (Err (record { place = place; refusal = f })) after begins → Unchanged after begins
    unfolding unless_refused
    all_same [] i p = poured-same p
    all_same (x ∷ xs) i p = one_same (single x).answer i (unless_refused single (suc i) xs out starts (poured parts out starts)) (λ q. all_same xs (suc i) q) p

    pub sheet-unchanged : sheet_read s t u rs out starts ≡ leaves_both (Err (record { place = place; refusal = f })) after begins → Unchanged after begins
    unfolding sheet_read sheet_of
    sheet-unchanged q = go (over_limit (length s)) (ltb most (length rs)) (ltb (length starts) (length rs)) q
      where
        go : (a b c : Bool)
            → cond a (refuses_at (length rs) TooLong out starts)
            (cond b (refuses_at (length rs) TooManyRegions out starts) (cond c (refuses_at (length rs) TooFewStarts out starts) (unless_refused single 0 rs out starts (poured parts out starts))))
            ≡ leaves_both (Err (record { place = place; refusal = f })) after begins
            → Unchanged after begins
        go true b c p = refused-same (length rs) _ p
        go false true c p = refused-same (length rs) _ p
        go false false true p = refused-same (length rs) _ p
        go false false false p = all_same rs 0 p

  -- a sheet that is neither too long nor has too many regions or too few starts
  module _ (a : over_limit (length s) ≡ false) (b : length rs ≤ most) (c : length rs ≤ length starts) where
    judged : sheet_read s t u rs out starts ≡ sheet_of single rs out starts
    unfolding sheet_read
    judged = rw (a, le-ltb most (length rs) b, le-ltb (length starts) (length rs) c)

    -- answers what the first refused single read gives with all the room, and its place
    pub sheet-first : (i : ℕ) → i < length rs → Good single rs no_region i → (f : Refusal) → (single (get_or rs i no_region)).answer ≡ Err f → sheet_read s t u rs out starts ≡ refuses_at i f out starts
    unfolding sheet_of
    sheet-first i h g f q = judged ∙ first-refused single no_region out starts (poured parts out starts) rs 0 i g h f q ∙ ap (λ (n : ℕ). refuses_at n f out starts) (zero-add i)

-- no regions give nothing, whatever the table lacks
pub sheet-nothing : (s t : List ℕ) (u : ℕ) (out starts : List ℕ) → over_limit (length s) ≡ false → sheet_read s t u [] out starts ≡ leaves_both (Ok 0) out starts
unfolding sheet_read
sheet-nothing s t u out starts a = rw (a, le-ltb (length starts) 0 (omega arith)) (sheet-empty (read_of s t u out) [] out starts refl)
