-- Laws of pieces and of the first refused region. Callers cite these and unfold nothing.
use Prim.Native.Nat.{ℕ, zero, suc, ◌+◌, ◌≤◌, ◌<◌}
use Rattle.std.specs.Prelude.{◌≡◌, Bool, true, false, length, get_or, take, drop, ltb, Result, Ok, Err}
use Rattle.std.proofs.Math.Path.{refl, ap}
use Rattle.std.proofs.Common.{sym, ◌∙◌, length-append, take_all, ltb-true, ltb-false, le-ltb, zero-add, add-one}
use mathlib.Core.List.{List, [], ◌∷◌, ◌++◌, append_assoc, append-nil}
use native.Mathlib.Omega.{arith}
use Rattle.std.proofs.Math.Nat.{add-zero}
use Rattle.sheet.specs.declared.RegionRefused.{RegionRefused}
use Rattle.refusal.specs.declared.Refusal.{Refusal}
use Rattle.output.specs.Outcome.{Outcome}
use Rattle.sheet.specs.declared.Region.{Region}
use Rattle.sheet.specs.Sheet.{SheetOutcome, leaves_both, refuses_at, given, pieces, joined, starts_from, capped, poured, unless_refused, sheet_of}

-- ---- pieces

module _ (read : Region → Outcome (Result ℕ Refusal)) where
  pub pieces-length : (rs : List Region) → length (pieces read rs) ≡ length rs
  unfolding pieces
  pieces-length [] = refl
  pieces-length (r ∷ rs) = ap suc (pieces-length rs)

  pub pieces-at : (rs : List Region) (i : ℕ) (d : Region) → i < length rs → get_or (pieces read rs) i [] ≡ given (read (get_or rs i d))
  unfolding pieces
  pieces-at [] i d h = absurd (omega arith)
  pieces-at (r ∷ rs) zero d h = refl
  pieces-at (r ∷ rs) (suc i) d h = pieces-at rs i d (omega arith)

joined-suc : (ps : List (List ℕ)) (i : ℕ) → i < length ps → joined (take (suc i) ps) ≡ joined (take i ps) ++ get_or ps i []
unfolding joined
joined-suc [] i h = absurd (omega arith)
joined-suc (p ∷ ps) zero h = append-nil p
joined-suc (p ∷ ps) (suc i) h = ap (λ (l : List ℕ). p ++ l) (joined-suc ps i (omega arith)) ∙ sym (append_assoc p (joined (take i ps)) (get_or ps i []))

starts-suc : (ps : List (List ℕ)) (k i : ℕ) → i < length ps → take (suc i) (starts_from k ps) ≡ take i (starts_from k ps) ++ (k + length (joined (take i ps))) ∷ []
unfolding starts_from joined
starts-suc [] k i h = absurd (omega arith)
starts-suc (p ∷ ps) k zero h = rw (add-zero k)
starts-suc (p ∷ ps) k (suc i) h =
    ap (λ (l : List ℕ). k ∷ l) (starts-suc ps (k + length p) i (omega arith) ∙ ap (λ (n : ℕ). take i (starts_from (k + length p) ps) ++ n ∷ []) (omega (arith, length-append p (joined (take i ps)))))

module _ (ps : List (List ℕ)) where
  -- the first i + 1 pieces are the first i, and piece i
  pub joined-more : (i : ℕ) → i < length ps → joined (take (i + 1) ps) ≡ joined (take i ps) ++ get_or ps i []
  joined-more i h = rw (add-one i) (joined-suc ps i h)

  pub joined-all : (i : ℕ) → length ps ≤ i → joined (take i ps) ≡ joined ps
  joined-all i h = ap joined (take_all i ps h)

  -- piece i begins behind the first i
  pub starts_more : (i : ℕ) → i < length ps → take (i + 1) (starts_from 0 ps) ≡ take i (starts_from 0 ps) ++ length (joined (take i ps)) ∷ []
  starts_more i h = rw (add-one i) (starts-suc ps 0 i h ∙ ap (λ (n : ℕ). take i (starts_from 0 ps) ++ n ∷ []) (zero-add (length (joined (take i ps)))))

pub starts-length : (k : ℕ) (ps : List (List ℕ)) → length (starts_from k ps) ≡ length ps
unfolding starts_from
starts-length k [] = refl
starts-length k (p ∷ ps) = ap suc (starts-length (k + length p) ps)

-- some pieces in front are no longer than all
pub joined-split : (ps : List (List ℕ)) (i : ℕ) → joined ps ≡ joined (take i ps) ++ joined (drop i ps)
unfolding joined
joined-split ps zero = refl
joined-split [] (suc i) = refl
joined-split (p ∷ ps) (suc i) = ap (λ (l : List ℕ). p ++ l) (joined-split ps i) ∙ sym (append_assoc p (joined (take i ps)) (joined (drop i ps)))

pub joined-part : (ps : List (List ℕ)) (i : ℕ) → length (joined (take i ps)) ≤ length (joined ps)
joined-part ps i = omega (arith, ap length (joined-split ps i), length-append (joined (take i ps)) (joined (drop i ps)))

-- start i, with anything behind the starts
starts-from : (ps : List (List ℕ)) (k : ℕ) (rest : List ℕ) (i : ℕ) → i < length ps → get_or (starts_from k ps ++ rest) i 0 ≡ k + length (joined (take i ps))
unfolding starts_from joined
starts-from [] k rest i h = absurd (omega arith)
starts-from (p ∷ ps) k rest zero h = sym (add-zero k)
starts-from (p ∷ ps) k rest (suc i) h = starts-from ps (k + length p) rest i (omega arith) ∙ omega (arith, length-append p (joined (take i ps)))

pub starts-at : (ps : List (List ℕ)) (rest : List ℕ) (i : ℕ) → i < length ps → get_or (starts_from 0 ps ++ rest) i 0 ≡ length (joined (take i ps))
starts-at ps rest i h = starts-from ps 0 rest i h ∙ zero-add (length (joined (take i ps)))

-- ---- numbers capped at 64 bits

pub capped-add : (a b : ℕ) → capped (capped a + b) ≡ capped (a + b)
unfolding capped
capped-add a b = omega arith

-- if the room is less than the largest 64-bit number, the capped number says as well as the number itself whether there is enough
pub capped-more : (n room : ℕ) → room < 18446744073709551615 → room < capped n → room < n
unfolding capped
capped-more n room s h = omega arith

pub capped_fits : (n room : ℕ) → room < 18446744073709551615 → capped n ≤ room → (n ≤ room) × (capped n ≡ n)
unfolding capped
capped_fits n room s h = (omega arith, omega arith)

-- ---- good regions

-- a read gave as many bytes as it says
abbrev pub Fine : Outcome (Result ℕ Refusal) → Type 0
Fine o = o.answer ≡ Ok (length (given o))

-- the first i regions are good
abbrev pub Good : (Region → Outcome (Result ℕ Refusal)) → List Region → Region → ℕ → Type 0
Good read rs d i = (k : ℕ) → k < i → Fine (read (get_or rs k d))

pub good_none : (read : Region → Outcome (Result ℕ Refusal)) (rs : List Region) (d : Region) → Good read rs d 0
good_none read rs d k h = absurd (omega arith)

pub good_more : (read : Region → Outcome (Result ℕ Refusal)) (rs : List Region) (d : Region) (i : ℕ) → Good read rs d i → Fine (read (get_or rs i d)) → Good read rs d (i + 1)
good_more read rs d i g f k h = go (ltb k i) refl
  where
    go : (t : Bool) → ltb k i ≡ t → Fine (read (get_or rs k d))
    go true e = g k (ltb-true _ _ e)
    go false e = let q : k ≡ i = omega (arith, ltb-false k i e) in rw q f

module _ (read : Region → Outcome (Result ℕ Refusal)) (d : Region) (out starts : List ℕ) (fine : SheetOutcome (Result ℕ RegionRefused)) where
  pub none-refused : (rs : List Region) (j : ℕ) → Good read rs d (length rs) → unless_refused read j rs out starts fine ≡ fine
  unfolding unless_refused
  none-refused [] j g = refl
  none-refused (r ∷ rs) j g = let e = g 0 (omega arith) in rw e (none-refused rs (suc j) (λ k h. g (suc k) (omega arith)))

  pub first-refused : (rs : List Region) (j i : ℕ) → Good read rs d i → i < length rs → (f : Refusal) → (read (get_or rs i d)).answer ≡ Err f
      → unless_refused read j rs out starts fine ≡ refuses_at (j + i) f out starts
  unfolding unless_refused
  first-refused [] j i g h f q = absurd (omega arith)
  first-refused (r ∷ rs) j zero g h f q = rw (q, add-zero j)
  first-refused (r ∷ rs) j (suc i) g h f q =
      let e = g 0 (omega arith) in
      rw e (first-refused rs (suc j) i (λ k m. g (suc k) (omega arith)) (omega arith) f q ∙ ap (λ (n : ℕ). refuses_at n f out starts) s)
    where
      s : suc j + i ≡ j + suc i
      s = omega arith

-- no regions: nothing
pub sheet-empty : (read : Region → Outcome (Result ℕ Refusal)) (rs : List Region) (out starts : List ℕ) → length rs ≡ 0 → sheet_of read rs out starts ≡ leaves_both (Ok 0) out starts
unfolding sheet_of unless_refused pieces poured joined starts_from
sheet-empty read [] out starts h = rw (le-ltb (length out) 0 (omega arith))
sheet-empty read (r ∷ rs) out starts h = absurd (omega arith)
