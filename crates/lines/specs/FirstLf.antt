-- Where the first LF is among some bytes, by how many of them are left at it: the first LF has the most left.
use Rattle.std.specs.Prelude.{ℕ, zero, suc, ◌+◌, ◌-◌, ◌≤◌, ◌<◌, max, ◌≡◌, refl, List, [], ◌∷◌, ◌++◌, Bool, true, false, cond, length, take, drop, get_or, eqb}
use Rattle.std.proofs.Common.{ap, sym, ◌∙◌, true≢false, length-drop, drop-drop, get_or-drop, take-suc, length-take-le, arith, add-one}
use Rattle.lines.specs.Lines.{line_len, line_end}
use Rattle.lines.specs.Clear.{has_lf, clear-len}

-- of n bytes, how many are left at the first LF, with it; 0 where none of them is one
unfoldable pub left_at_lf : ℕ → List ℕ → ℕ
left_at_lf zero l = 0
left_at_lf (suc n) [] = 0
left_at_lf (suc n) (b ∷ l) = cond (eqb b 10) (suc n) (left_at_lf n l)

-- ---- byte by byte

pub left-none : (n : ℕ) → 0 ≡ left_at_lf n []
unfolding left_at_lf
left-none zero = refl
left-none (suc n) = refl

left-append : (n : ℕ) (l : List ℕ) (b : ℕ) → max (left_at_lf n l) (cond (eqb b 10) (n - length l) 0) ≡ left_at_lf n (l ++ (b ∷ []))
unfolding left_at_lf
left-append zero l b = go (eqb b 10)
  where
    go : (t : Bool) → max 0 (cond t (0 - length l) 0) ≡ 0
    go true = omega arith
    go false = omega arith
left-append (suc n) [] b = go (eqb b 10)
  where
    go : (t : Bool) → max 0 (cond t (suc n - 0) 0) ≡ cond t (suc n) (left_at_lf n [])
    go true = omega arith
    go false = left-none n
left-append (suc n) (a ∷ l) b = go (eqb a 10) (eqb b 10) (left-append n l b)
  where
    go : (t u : Bool) → max (left_at_lf n l) (cond u (n - length l) 0) ≡ left_at_lf n (l ++ (b ∷ []))
        → max (cond t (suc n) (left_at_lf n l)) (cond u (suc n - suc (length l)) 0) ≡ cond t (suc n) (left_at_lf n (l ++ (b ∷ [])))
    go true true h = omega arith
    go true false h = omega arith
    go false true h = omega arith
    go false false h = omega arith

pub left-more : (n : ℕ) (s : List ℕ) (i k : ℕ) (left : ℕ) → i + k < length s → left ≡ left_at_lf n (take k (drop i s))
    → max left (cond (eqb (get_or s (i + k) 0) 10) (n - k) 0) ≡ left_at_lf n (take (k + 1) (drop i s))
left-more n s i k left h e =
    let f : length (take k (drop i s)) ≡ k = length-take-le k (drop i s) (omega (arith, length-drop i s)) in
    rw (e, add-one k, take-suc (drop i s) k 0 (omega (arith, length-drop i s)), get_or-drop i s k 0)
    (rw f at (left-append n (take k (drop i s)) (get_or s (i + k) 0)))

pub left-all : (n : ℕ) (l : List ℕ) → left_at_lf n (take n l) ≡ left_at_lf n l
unfolding left_at_lf
left-all zero l = refl
left-all (suc n) [] = refl
left-all (suc n) (b ∷ l) = rw (left-all n l)

-- ---- the line that the bytes begin

-- none is left: no LF is there
pub left-clear : (n : ℕ) (l : List ℕ) → left_at_lf n l ≡ 0 → has_lf (take n l) ≡ false
unfolding left_at_lf has_lf
left-clear zero l e = refl
left-clear (suc n) [] e = refl
left-clear (suc n) (b ∷ l) e = go (eqb b 10) e (left-clear n l)
  where
    go : (t : Bool) → cond t (suc n) (left_at_lf n l) ≡ 0 → (left_at_lf n l ≡ 0 → has_lf (take n l) ≡ false) → cond t true (has_lf (take n l)) ≡ false
    go true c r = absurd (omega arith)
    go false c r = r c

-- some are left: the line ends just behind the first of them
pub left_end : (n : ℕ) (l : List ℕ) → 0 < left_at_lf n l → line_len l + left_at_lf n l ≡ n + 1
unfolding left_at_lf line_len
left_end zero l h = absurd (omega arith)
left_end (suc n) [] h = absurd (omega arith)
left_end (suc n) (b ∷ l) h = go (eqb b 10) h (left_end n l)
  where
    go : (t : Bool) → 0 < cond t (suc n) (left_at_lf n l) → (0 < left_at_lf n l → line_len l + left_at_lf n l ≡ n + 1)
        → cond t 1 (suc (line_len l)) + cond t (suc n) (left_at_lf n l) ≡ suc n + 1
    go true c r = omega arith
    go false c r = omega (arith, r c)

pub left_le : (n : ℕ) (l : List ℕ) → left_at_lf n l ≤ n
unfolding left_at_lf
left_le zero l = omega arith
left_le (suc n) [] = omega arith
left_le (suc n) (b ∷ l) = go (eqb b 10) (left_le n l)
  where
    go : (t : Bool) → left_at_lf n l ≤ n → cond t (suc n) (left_at_lf n l) ≤ suc n
    go true h = omega arith
    go false h = omega arith

pub left-some : (n : ℕ) (l : List ℕ) → has_lf (take n l) ≡ true → 0 < left_at_lf n l
left-some n l h = go (left_at_lf n l) refl
  where
    go : (m : ℕ) → left_at_lf n l ≡ m → 0 < m
    go zero e = absurd (true≢false (sym h ∙ left-clear n l e))
    go (suc m) e = omega arith

-- ---- the line at an offset, by the n bytes from there on

module _ (s : List ℕ) (i n : ℕ) where
  pub end-past : i + n ≤ length s → has_lf (take n (drop i s)) ≡ false → line_end s (i + n) ≡ line_end s i
  end-past h c = omega (arith, clear-len n (drop i s) (omega (arith, length-drop i s)) c, ap line_len (drop-drop n i s))

  pub end-here : 0 < left_at_lf n (drop i s) → i + (n + 1 - left_at_lf n (drop i s)) ≡ line_end s i
  end-here h = omega (arith, left_end n (drop i s) h)
