-- Whether there is an LF among some bytes, and what that says of the line they begin: how a line is known by looking at where its end
-- should be.
use Rattle.std.specs.Prelude.{ℕ, zero, suc, ◌+◌, ◌-◌, ◌≤◌, ◌<◌, ◌≡◌, List, [], ◌∷◌, ◌++◌, Bool, cond, take, drop, get_or, eqb}
use Rattle.std.proofs.Math.Path.{refl, ap}
use Rattle.std.proofs.Common.{sym, ◌∙◌, true≢false, drop_of_length-le, length-drop, drop-cons, drop-drop, zero-add}
use Rattle.std.proofs.Math.Bool.{true, false}
use Rattle.std.proofs.Math.ListN.{length}
use Rattle.std.proofs.Math.Dec.{ltb}
use borrow.Author.Tests.{eq-eqb, ne_eqb, eqb-true, eqb-false, ltb-true, ltb-false, lt-ltb, le-ltb}
use native.Mathlib.Omega.{arith}
use Rattle.lines.specs.Lines.{part, lines, line_len, line_end, chop, ends}
use Rattle.lines.specs.Laws.{line_len-hit, line_end-le, part_length, part-snoc, chop-hit, chop-miss, ends-chop, lines_at-cut}
use Rattle.lines.specs.Alike.{is_like, first_like, like-first, both_left}
use Rattle.lines.specs.declared.Line.{Line}

-- is one of some bytes an LF
unfoldable pub has_lf : List ℕ → Bool
has_lf [] = false
has_lf (b ∷ l) = cond (eqb b 10) true (has_lf l)

-- ---- byte by byte

module _ (s : List ℕ) (at n k : ℕ) (h : k < n) (m : at + n ≤ length s) where
  step_in : take (n - k) (drop (at + k) s) ≡ get_or s (at + k) 0 ∷ take (n - suc k) (drop (suc (at + k)) s)
  step_in = rw (drop-cons s (at + k) 0 (omega arith), q)
    where
      q : n - k ≡ suc (n - suc k)
      q = omega arith

  pub lf-here : get_or s (at + k) 0 ≡ 10 → has_lf (take (n - k) (drop (at + k) s)) ≡ true
  unfolding has_lf
  lf-here e = rw (step_in, eq-eqb _ _ e)

  pub lf-on : (get_or s (at + k) 0 ≡ 10 → ⊥) → has_lf (take (n - suc k) (drop (suc (at + k)) s)) ≡ has_lf (take (n - k) (drop (at + k) s))
  unfolding has_lf
  lf-on e = rw (step_in, ne_eqb _ _ e)

pub lf-none : (n : ℕ) (l : List ℕ) → n ≡ 0 → has_lf (take n l) ≡ false
unfolding has_lf
lf-none n l e = rw e

-- ---- the line that some bytes begin

pub clear-len : (n : ℕ) (l : List ℕ) → n ≤ length l → has_lf (take n l) ≡ false → line_len l ≡ n + line_len (drop n l)
unfolding has_lf line_len
clear-len zero l h e = sym (zero-add (line_len l))
clear-len (suc n) [] h e = absurd (omega arith)
clear-len (suc n) (b ∷ l) h e = go (eqb b 10) e (λ c. clear-len n l (omega arith) c)
  where
    go : (t : Bool) → cond t true (has_lf (take n l)) ≡ false → (has_lf (take n l) ≡ false → line_len l ≡ n + line_len (drop n l)) → cond t 1 (suc (line_len l)) ≡ suc n + line_len (drop n l)
    go true c r = absurd (true≢false c)
    go false c r = omega (arith, r c)

pub len-clear : (n : ℕ) (l : List ℕ) → n < line_len l → has_lf (take n l) ≡ false
unfolding has_lf line_len
len-clear zero l h = refl
len-clear (suc n) [] h = absurd (omega arith)
len-clear (suc n) (b ∷ l) h = go (eqb b 10) h (λ c. len-clear n l c)
  where
    go : (t : Bool) → suc n < cond t 1 (suc (line_len l)) → (n < line_len l → has_lf (take n l) ≡ false) → cond t true (has_lf (take n l)) ≡ false
    go true c r = absurd (omega arith)
    go false c r = r (omega arith)

-- ---- a line of a file that is like another, by its last byte, and that no LF is before that

module _ (s : List ℕ) (at : ℕ) (x : Line) (h : at ≤ length s) (z : 0 < x.width) where
  module _ (f : x.width ≤ length s - at) where
    full : part s at (at + x.width) ≡ part s at (at + (x.width - 1)) ++ (get_or s (at + (x.width - 1)) 0 ∷ [])
    full = part-snoc s at (at + x.width) (at + (x.width - 1)) (omega arith) (omega arith) (omega arith)

    module _ (c : has_lf (take (x.width - 1) (drop at s)) ≡ false) (e : get_or s (at + (x.width - 1)) 0 ≡ 10) where
      end_is : line_end s at ≡ at + x.width
      end_is =
          omega (arith, clear-len (x.width - 1) (drop at s) (omega (arith, length-drop at s)) c, ap line_len (drop-drop (x.width - 1) at s), line_len-hit s (at + (x.width - 1)) (omega arith) e)

      pub like-by : eqb (length (chop 13 (part s at (at + (x.width - 1))))) x.bases ≡ first_like x (lines (drop at s))
      unfolding first_like is_like
      like-by =
          let cut : chop 10 (part s at (at + x.width)) ≡ part s at (at + (x.width - 1)) = ap (chop 10) full ∙ chop-hit 10 (part s at (at + (x.width - 1))) (get_or s (at + (x.width - 1)) 0) e in
          let n : length (part s at (at + x.width)) ≡ x.width = part_length s at (at + x.width) (omega arith) ∙ omega arith in
          let m : length (part s at (at + (x.width - 1))) ≡ x.width - 1 = part_length s at (at + (x.width - 1)) (omega arith) ∙ omega arith in
          rw (lines_at-cut s at (omega arith), end_is, ends-chop 10 (part s at (at + x.width)), cut, n, m, lt-ltb (x.width - 1) x.width (omega arith), eq-eqb x.width x.width refl)

  -- a line that is like another has its width, its end, and no LF before that
  module _ (t : first_like x (lines (drop at s)) ≡ true) where
    here : at < length s
    unfolding first_like lines
    here = go (ltb at (length s)) refl
      where
        go : (b : Bool) → ltb at (length s) ≡ b → at < length s
        go true e = ltb-true _ _ e
        go false e = absurd (true≢false (sym (rw (drop_of_length-le s (ltb-false _ _ e)) at t)))

    pub like-end : line_end s at ≡ at + x.width
    like-end =
        let w : length (part s at (line_end s at)) ≡ x.width = rw (lines_at-cut s at here) at (like-first x (lines (drop at s)) t).0 in
        omega (arith, part_length s at (line_end s at) (line_end-le s at h), line_end-le s at h, w, z)

    pub like-fits : x.width ≤ length s - at
    like-fits = omega (arith, like-end, line_end-le s at h)

    pub like-clear : has_lf (take (x.width - 1) (drop at s)) ≡ false
    like-clear = len-clear (x.width - 1) (drop at s) (omega (arith, like-end))

    ends-in : ends 10 (part s at (at + x.width)) ≡ true
    unfolding first_like is_like
    ends-in = both_left _ _ (both_left _ _ (rw (lines_at-cut s at here, like-end) at t))

    pub like-last-byte : get_or s (at + (x.width - 1)) 0 ≡ 10
    like-last-byte = go (eqb (get_or s (at + (x.width - 1)) 0) 10) refl
      where
        go : (b : Bool) → eqb (get_or s (at + (x.width - 1)) 0) 10 ≡ b → get_or s (at + (x.width - 1)) 0 ≡ 10
        go true e = eqb-true _ _ e
        go false e =
            let k : chop 10 (part s at (at + x.width)) ≡ part s at (at + x.width) = rw (full like-fits) (chop-miss 10 (part s at (at + (x.width - 1))) (get_or s (at + (x.width - 1)) 0) (eqb-false _ _ e)) in
            absurd (true≢false (sym ends-in ∙ ends-chop 10 (part s at (at + x.width)) ∙ rw k (le-ltb (length (part s at (at + x.width))) (length (part s at (at + x.width))) (omega arith))))

-- what would follow from a test that holds shows that it does not
pub not-true : (b : Bool) → (b ≡ true → ⊥) → false ≡ b
not-true true h = absurd (h refl)
not-true false h = refl
