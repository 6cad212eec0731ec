-- The lines of written bases: how many bases and bytes they have, that they are even, and that the indexer finds no fault in them.
use Prim.Native.Nat.{ℕ, zero, suc, ◌+◌, ◌≤◌, ◌<◌, min}
use Rattle.std.specs.Prelude.{◌≡◌, Bool, take, drop}
use Rattle.std.proofs.Math.Path.{refl, ap}
use Rattle.std.proofs.Common.{sym, ◌∙◌, true≢false, length-append, take-append-drop}
use mathlib.Core.List.{List, [], ◌∷◌, map}
use Rattle.std.proofs.Math.Bool.{true, false}
use Rattle.std.proofs.Math.ListN.{length, length-drop, length-take}
use Rattle.std.proofs.Math.Dec.{ltb}
use borrow.Author.Tests.{eq-eqb, ne_eqb, le-leb, ltb-true, ltb-false}
use native.Mathlib.Omega.{arith}
use Rattle.lines.specs.Lines.{bases_of, none, first_line, sum_bases, sum_widths}
use Rattle.lines.specs.declared.Line.{Line}
use Rattle.record.specs.EvenLines.{length-all_bases}
use Rattle.indexer.specs.Rule.{good}
use Rattle.indexer.specs.Index.{fits_last, rest_of, judge}
use Rattle.writer.specs.Text.{contents_up_to, contents_of, line_of, lines_text, any_of, barred}
use Rattle.writer.specs.Laws.{contents-step}
use Rattle.writer.specs.Contents.{none_of, bases-line, good-contents, contents-joined, good-bases}

-- the lines of contents
abbrev pub lines_of : List (List ℕ) → List (List ℕ)
lines_of rs = map line_of rs

-- a line has its content's bases, and one byte more
pub line-long : (r : List ℕ) → length (line_of r) ≡ length r + 1
line-long r = length-append r (10 ∷ [])

pub widths-text : (rs : List (List ℕ)) → sum_widths (lines_of rs) ≡ length (lines_text rs)
unfolding sum_widths lines_text
widths-text [] = refl
widths-text (r ∷ rs) = rw (length-append (line_of r) (lines_text rs), widths-text rs)

module _ (w : ℕ) (z : 0 < w) where
  pub bases-count : (s : List ℕ) → any_of barred s ≡ false → sum_bases (lines_of (contents_of w s)) ≡ length s
  bases-count s e =
      sym (length-all_bases (lines_of (contents_of w s)))
      ∙ ap length (good-bases (contents_of w s) (good-contents w z (length s) s e) ∙ contents-joined w z (length s) s (omega arith))

  -- nothing has no contents
  contents-nothing : (n : ℕ) (s : List ℕ) → length s ≡ 0 → contents_up_to n w s ≡ []
  unfolding contents_up_to
  contents-nothing zero s h = refl
  contents-nothing (suc n) [] h = refl
  contents-nothing (suc n) (b ∷ s) h = absurd (omega arith)

  contents-something : (n : ℕ) (s : List ℕ) → none (lines_of (contents_up_to n w s)) ≡ false → 0 < length s
  contents-something n s e = go (length s) refl
    where
      go : (m : ℕ) → length s ≡ m → 0 < length s
      go zero h = absurd (true≢false (rw (contents-nothing n s h) at e))
      go (suc m) h = omega arith

  -- ---- the indexer's rule

  rest-step : (first : Line) (l : List ℕ) (ls : List (List ℕ)) → length l ≤ first.width → length (bases_of l) ≤ first.bases
      → (none ls ≡ false → (length l ≡ first.width) × (length (bases_of l) ≡ first.bases)) → rest_of first ls ≡ good → rest_of first (l ∷ ls) ≡ good
  unfolding rest_of fits_last
  rest-step first l [] h k f g = rw (le-leb _ _ h, le-leb _ _ k)
  rest-step first l (m ∷ ls) h k f g = rw (eq-eqb _ _ (f refl).1, eq-eqb _ _ (f refl).0) g

  rest-good : (n : ℕ) (s : List ℕ) → any_of barred s ≡ false → rest_of (record { width = w + 1; bases = w }) (lines_of (contents_up_to n w s)) ≡ good
  unfolding contents_up_to rest_of
  rest-good zero s e = refl
  rest-good (suc n) [] e = refl
  rest-good (suc n) (b ∷ s) e =
      let t : List ℕ = b ∷ s in
      let x = none_of barred (take w t) (drop w t) (rw (take-append-drop w t) e) in
      let p : length (bases_of (line_of (take w t))) ≡ length (take w t) = ap length (bases-line (take w t) x.0) in
      let q : length (line_of (take w t)) ≡ length (take w t) + 1 = line-long (take w t) in
      let m : length (take w t) ≡ min w (length t) = length-take w t in
      rest-step (record { width = w + 1; bases = w }) (line_of (take w t)) (lines_of (contents_up_to n w (drop w t))) (omega arith) (omega arith)
      (λ f.
      let j : 0 < length (drop w t) = contents-something n (drop w t) f in
      let k : w < length t = omega (arith, length-drop w t) in
      (omega arith, omega arith))
      (rest-good n (drop w t) x.1)

  -- ---- all lines of some bases

  module _ (s : List ℕ) (h : 0 < length s) (e : any_of barred s ≡ false) where
    parts : (any_of barred (take w s) ≡ false) × (any_of barred (drop w s) ≡ false)
    parts = none_of barred (take w s) (drop w s) (rw (take-append-drop w s) e)

    first-bases : length (bases_of (line_of (take w s))) ≡ min (length s) w
    first-bases = ap length (bases-line (take w s) parts.0) ∙ omega (arith, length-take w s)

    first_width : length (line_of (take w s)) ≡ min (length s) w + 1
    first_width = omega (arith, line-long (take w s), length-take w s)

    -- the first line: the smaller of count and width, and one byte more
    pub first-is : first_line (lines_of (contents_of w s)) ≡ record { width = min (length s) w + 1; bases = min (length s) w }
    first-is = ap (λ (rs : List (List ℕ)). first_line (lines_of rs)) (contents-step w z s h) ∙ rw (first-bases, first_width)

    pub judged-good : (at : ℕ) → judge at (lines_of (contents_of w s)) ≡ good
    unfolding judge
    judged-good at = ap (λ (rs : List (List ℕ)). judge at (lines_of rs)) (contents-step w z s h) ∙ rw (first-bases, first_width, ne_eqb (min (length s) w) 0 (omega arith)) (go (ltb w (length s)) refl)
      where
        go : (t : Bool) → ltb w (length s) ≡ t → rest_of (record { width = min (length s) w + 1; bases = min (length s) w }) (lines_of (contents_of w (drop w s))) ≡ good
        go true l =
            let k : w < length s = ltb-true _ _ l in
            let m : min (length s) w ≡ w = omega arith in
            rw m (rest-good (length (drop w s)) (drop w s) parts.1)
        go false l =
            let k : length s ≤ w = ltb-false _ _ l in
            ap (λ (rs : List (List ℕ)). rest_of (record { width = min (length s) w + 1; bases = min (length s) w }) (lines_of rs)) (contents-nothing (length (drop w s)) (drop w s) (omega (arith, length-drop w s))) ∙ unfold rest_of in refl
