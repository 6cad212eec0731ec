-- The end of a line: what comes off it, and whether it is plain.
use Rattle.std.specs.Prelude.{ℕ, ◌+◌, ◌-◌, ◌≡◌, refl, Bool, true, false, cond, not, ◌&&◌, length, eqb}
use Rattle.std.proofs.Common.{sym, ap, ◌∙◌, true≢false, arith, length-append, eqb-true}
use mathlib.Core.List.{List, [], ◌∷◌, ◌++◌}
use Rattle.lines.specs.Lines.{chop, ends, content_of}
use Rattle.lines.specs.Laws.{chop-hit}
use Rattle.index_line.specs.IndexLine.{plain_end}

-- bytes that end in b are those before it, and b
ends-true : (b : ℕ) (l : List ℕ) → ends b l ≡ true → l ≡ chop b l ++ (b ∷ [])
unfolding ends chop
ends-true b [] e = absurd (true≢false (sym e))
ends-true b (x ∷ []) e = rw (e, eqb-true x b e)
ends-true b (x ∷ y ∷ l) e = ap (λ (k : List ℕ). x ∷ k) (ends-true b (y ∷ l) e)

-- and from others nothing comes off
ends-false : (b : ℕ) (l : List ℕ) → ends b l ≡ false → chop b l ≡ l
unfolding ends chop
ends-false b [] e = refl
ends-false b (x ∷ []) e = rw e
ends-false b (x ∷ y ∷ l) e = ap (λ (k : List ℕ). x ∷ k) (ends-false b (y ∷ l) e)

ends-length : (b : ℕ) (l : List ℕ) → ends b l ≡ true → length l ≡ length (chop b l) + 1
ends-length b l e = ap length (ends-true b l e) ∙ length-append (chop b l) (b ∷ [])

-- by how many bytes came off
pub plain-end : (l : List ℕ) → eqb (length l - length (content_of l)) 1 ≡ plain_end l
unfolding plain_end content_of
plain-end l = go (ends 10 l) (ends 13 (chop 10 l)) refl refl
  where
    go : (t u : Bool) → ends 10 l ≡ t → ends 13 (chop 10 l) ≡ u → eqb (length l - length (cond t (chop 13 (chop 10 l)) l)) 1 ≡ (t && not u)
    go true true e g = let z : length l - length (chop 13 (chop 10 l)) ≡ 2 = omega (arith, ends-length 10 l e, ends-length 13 (chop 10 l) g) in rw z
    go true false e g = let z : length l - length (chop 10 l) ≡ 1 = omega (arith, ends-length 10 l e) in rw (ends-false 13 (chop 10 l) g, z)
    go false u e g = let z : length l - length l ≡ 0 = omega arith in rw z

-- a line with a plain end is its content and an LF
pub plain-content : (l : List ℕ) → plain_end l ≡ true → l ≡ content_of l ++ (10 ∷ [])
unfolding plain_end content_of
plain-content l h = go (ends 10 l) (ends 13 (chop 10 l)) refl refl h
  where
    go : (t u : Bool) → ends 10 l ≡ t → ends 13 (chop 10 l) ≡ u → (t && not u) ≡ true → l ≡ cond t (chop 13 (chop 10 l)) l ++ (10 ∷ [])
    go true true e g k = absurd (true≢false (sym k))
    go true false e g k = ends-true 10 l e ∙ ap (λ (c : List ℕ). c ++ (10 ∷ [])) (sym (ends-false 13 (chop 10 l) g))
    go false u e g k = absurd (true≢false (sym k))

-- the end of bytes is the end of those behind
pub ends-behind : (b : ℕ) (l : List ℕ) (x : ℕ) (m : List ℕ) → ends b (l ++ (x ∷ m)) ≡ ends b (x ∷ m)
unfolding ends
ends-behind b [] x m = refl
ends-behind b (y ∷ []) x m = refl
ends-behind b (y ∷ z ∷ l) x m = ends-behind b (z ∷ l) x m

-- bytes that do not end in CR, with an LF, have those bytes as their content
module _ (c : List ℕ) (h : ends 13 c ≡ false) where
  chop-lf : chop 10 (c ++ (10 ∷ [])) ≡ c
  chop-lf = chop-hit 10 c 10 refl

  pub content-lf : content_of (c ++ (10 ∷ [])) ≡ c
  unfolding content_of ends
  content-lf = rw (ends-behind 10 c 10 [], chop-lf) (ends-false 13 c h)

  pub plain-lf : plain_end (c ++ (10 ∷ [])) ≡ true
  unfolding plain_end ends
  plain-lf = rw (ends-behind 10 c 10 [], chop-lf, h)
