-- Laws of the plain sequences: a letter in front of a primer multiplies their number by the bases that it allows.
use Prim.Native.Nat.{ℕ, zero, suc, ◌+◌, ◌*◌, ◌^◌, ◌≤◌, ◌<◌}
use Prim.Native.Char.{code}
use Prim.Native.String.{String, [] as empty, ◌∷◌ as ◌◂◌}
use Rattle.std.specs.Prelude.{◌≡◌, Bool, cond, eqb, leb, drop, get_or}
use Rattle.std.proofs.Math.Path.{refl, ap}
use Rattle.std.proofs.Common.{sym, ◌∙◌, le_trans, zero-mul, one-mul, add-mul, pow-suc, mul-le-mul, arith, eqb→eq, leb→le, length-drop, pow_mono, drop-cons}
use Rattle.std.proofs.Math.Bool.{true, false}
use mathlib.Core.List.{List, [], ◌∷◌, ◌++◌, map}
use Rattle.std.specs.Int.Count.{ones, ones_in}
use Rattle.std.proofs.Math.ListN.{length}
use Rattle.std.proofs.Math.Seq.{drop-length}
use Rattle.letters.specs.Letters.{partner, set_of}
use Rattle.letters.specs.Sets.{bit, inside}
use Rattle.letters.specs.Laws.{of-all}
use Rattle.primer.specs.Search.{fits, matches}
use Rattle.primer.specs.Sequences.{fronted, plain, kept, stands_for}

kept_append : (f : List ℕ → Bool) (a b : List (List ℕ)) → length (kept f (a ++ b)) ≡ length (kept f a) + length (kept f b)
unfolding kept
kept_append f [] b = omega arith
kept_append f (t ∷ a) b = go (f t) (kept_append f a b)
  where
    go : (v : Bool) → length (kept f (a ++ b)) ≡ length (kept f a) + length (kept f b)
        → length (cond v (t ∷ kept f (a ++ b)) (kept f (a ++ b))) ≡ length (cond v (t ∷ kept f a) (kept f a)) + length (kept f b)
    go true e = omega (arith, e)
    go false e = e

-- one base in front of some sequences
module _ (p : ℕ) (ps : List ℕ) (x : ℕ) where
  abbrev front : List (List ℕ) → List (List ℕ)
  front l = map (λ (t : List ℕ). x ∷ t) l

  taken : fits p x ≡ true → (l : List (List ℕ)) → length (kept (matches (p ∷ ps)) (front l)) ≡ length (kept (matches ps) l)
  unfolding kept matches
  taken e [] = refl
  taken e (t ∷ l) = rw e (go (matches ps t) (taken e l))
    where
      go : (v : Bool) → length (kept (matches (p ∷ ps)) (front l)) ≡ length (kept (matches ps) l)
          → length (cond v ((x ∷ t) ∷ kept (matches (p ∷ ps)) (front l)) (kept (matches (p ∷ ps)) (front l))) ≡ length (cond v (t ∷ kept (matches ps) l) (kept (matches ps) l))
      go true q = ap suc q
      go false q = q

  left : fits p x ≡ false → (l : List (List ℕ)) → length (kept (matches (p ∷ ps)) (front l)) ≡ 0
  unfolding kept matches
  left e [] = refl
  left e (t ∷ l) = rw e (left e l)

  kept-front : (l : List (List ℕ)) → length (kept (matches (p ∷ ps)) (front l)) ≡ bit (fits p x) * length (kept (matches ps) l)
  kept-front l = go (fits p x) refl
    where
      go : (v : Bool) → fits p x ≡ v → length (kept (matches (p ∷ ps)) (front l)) ≡ bit v * length (kept (matches ps) l)
      go true e = taken e l ∙ sym (one-mul _)
      go false e = left e l ∙ sym (zero-mul _)

-- how many letters of a text fit a primer letter
abbrev pub fitting : String → ℕ → ℕ
fitting empty p = 0
fitting (x ◂ s) p = bit (fits p (code x)) + fitting s p

kept-fronted : (p : ℕ) (ps : List ℕ) (s : String) (l : List (List ℕ)) → length (kept (matches (p ∷ ps)) (fronted s l)) ≡ fitting s p * length (kept (matches ps) l)
unfolding kept
kept-fronted p ps empty l = sym (zero-mul _)
kept-fronted p ps (x ◂ s) l =
    kept_append (matches (p ∷ ps)) (map (λ (t : List ℕ). code x ∷ t) l) (fronted s l)
    ∙ rw (kept-front p ps (code x) l, kept-fronted p ps s l, add-mul (bit (fits p (code x))) (fitting s p) (length (kept (matches ps) l)))

-- the count of a set's bits is how many of the four bases fit the letter, and 4 at most
ones-fitting : (p : ℕ) → fitting "ACGT" p ≡ ones (set_of p)
unfolding fits partner set_of inside ones ones_in
ones-fitting p = eqb→eq _ _ (of-all (λ b y t. eqb (bit (inside (set_of (code "A")) t) + (bit (inside (set_of (code "C")) t) + (bit (inside (set_of (code "G")) t) + (bit (inside (set_of (code "T")) t) + 0)))) (ones t)) tt p tt)

ones-le : (p : ℕ) → ones (set_of p) ≤ 4
unfolding ones ones_in
ones-le p = leb→le _ _ (of-all (λ b y t. leb (ones t) 4) tt p tt)

stands-none : length (stands_for []) ≡ 1
unfolding stands_for kept plain matches
stands-none = refl

stands-more : (p : ℕ) (ps : List ℕ) → length (stands_for (p ∷ ps)) ≡ ones (set_of p) * length (stands_for ps)
unfolding stands_for plain
stands-more p ps = kept-fronted p ps "ACGT" (plain (length ps)) ∙ rw (ones-fitting p)

stands-le : (ps : List ℕ) → length (stands_for ps) ≤ 4 ^ length ps
stands-le [] = rw stands-none (omega arith)
stands-le (p ∷ ps) = rw (stands-more p ps, pow-suc 4 (length ps)) (omega (arith, mul-le-mul (ones-le p) (stands-le ps)))

four : (n : ℕ) → 4 ^ n ≡ 2 ^ (n + n)
four zero = refl
four (suc n) = let q : suc n + suc n ≡ suc (suc (n + n)) = omega arith in rw (pow-suc 4 n, q, pow-suc 2 (suc (n + n)), pow-suc 2 (n + n), four n) (omega arith)

-- ---- the letters from a place on

module _ (ps : List ℕ) where
  pub stands-end : 1 ≡ length (stands_for (drop (length ps) ps))
  stands-end = rw (drop-length ps) (sym stands-none)

  pub stands-step : (j n : ℕ) → n ≡ suc j → j < length ps → ones (set_of (get_or ps j 0)) * length (stands_for (drop n ps)) ≡ length (stands_for (drop j ps))
  stands-step j n e h = rw (e, drop-cons ps j 0 h) (sym (stands-more (get_or ps j 0) (drop (suc j) ps)))

  pub stands-small : (j : ℕ) → length ps ≤ 31 → length (stands_for (drop j ps)) ≤ 2 ^ 62
  stands-small j h = le_trans (stands-le (drop j ps)) (rw (four (length (drop j ps))) (pow_mono {i = length (drop j ps) + length (drop j ps)} {j = 62} (simp length-drop (omega arith))))
