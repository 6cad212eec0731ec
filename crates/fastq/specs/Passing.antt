-- Lines in a row that are like a record's first are passed at once: what the lines behind them say, with those passed, is what all say.
use Prim.Native.Nat.{ℕ, zero, suc, ◌+◌, ◌-◌, ◌*◌, ◌≤◌, ◌<◌}
use Rattle.std.specs.Prelude.{◌≡◌, List, [], ◌∷◌, Bool, false, cond, take, drop, get_or, ltb}
use Rattle.std.proofs.Math.Path.{refl, ap, sym}
use Rattle.std.proofs.Common.{◌∙◌, true≢false, ltb-true, ltb-false, add-one, add-zero, zero-mul, add-mul, one-mul, mul-le-mul_left, mul-one}
use Rattle.std.proofs.Math.Bool.{true}
use Rattle.std.proofs.Math.ListN.{length}
use native.Mathlib.Omega.{arith}
use Rattle.std.proofs.Math.Nat.{sub-zero}
use Rattle.lines.specs.declared.Line.{Line}
use Rattle.lines.specs.Lines.{part, lines, line_len, line_end, none}
use Rattle.lines.specs.Laws.{line_len-hit, line_len-miss, lines_at-cut, line_end-le, line_end-gt, part_length}
use Rattle.lines.specs.Alike.{alike}
use Rattle.lines.specs.UpTo.{marked, up_to, up_to_at, WholeLike, whole-passes, whole-within, whole-most}
use Rattle.indexer.specs.Index.{line_of}
use Rattle.fastq.specs.Fastq.{lines_at, plus, body_of, body_at, fits_partner}
use Rattle.fastq.specs.Steps.{LikeFirst, rest_says, partners_of, partner_of, qualities_say}
use Rattle.fastq.specs.Laws.{lines_end, line_same, says-like, rest_some, partner-width, partner-more, qualities-on}

-- ---- the sequence lines

plus-marked : (l : List ℕ) → plus l ≡ marked 43 l
plus-marked [] = refl
plus-marked (b ∷ l) = refl

module _ (s : List ℕ) (first : Line) (some : first.bases ≡ 0 → ⊥) (at : ℕ) where
  abbrev Passed : ℕ → ℕ → Type 0
  Passed k i = rest_says first (1 + k) (first.bases + k * first.bases) first i (body_at s i) ≡ rest_says first 1 first.bases first at (body_at s at)

  body-like : (i : ℕ) (l : List ℕ) → WholeLike s first 43 i l → body_at s i ≡ l ∷ body_at s (i + first.width)
  unfolding body_at body_of
  body-like i l y = rw (y.here, plus-marked l, y.unmarked)

  rest-on-like : (k i : ℕ) (l : List ℕ) → WholeLike s first 43 i l → Passed k i → Passed (suc k) (i + first.width)
  rest-on-like k i l y p =
      let e : line_of l ≡ first = line_same (line_of l) first y.bases y.width in
      let b = body-like i l y in
      let g = rest_some first (1 + k) (first.bases + k * first.bases) first i l (body_at s (i + first.width))
      (rw e (sym (says-like first (none (body_at s (i + first.width))) first some refl refl))) in
      let c : 1 + suc k ≡ 1 + k + 1 = omega arith in
      let n : first.bases + suc k * first.bases ≡ first.bases + k * first.bases + first.bases = rw (← add-one k, add-mul k 1 first.bases, one-mul first.bases) (omega arith) in
      let m = ap (λ (x : Line). rest_says first (1 + k + 1) (first.bases + k * first.bases + x.bases) x (i + x.width) (body_at s (i + first.width))) e in
      rw (c, n) (sym m ∙ sym g ∙ rw b at p)

  pub rest-passed : (n k : ℕ) → at ≤ length s → k ≡ alike first (take n (up_to_at s 43 at))
      → rest_says first (1 + k) (first.bases + k * first.bases) first (at + k * first.width) (body_at s (at + k * first.width)) ≡ rest_says first 1 first.bases first at (body_at s at)
  rest-passed n k h e =
      rw e (whole-passes s first 43 n Passed (λ j i l m y p. rest-on-like j i l y p) at h (rw (zero-mul first.bases, add-zero first.bases)))

-- where there is no sequence line, none is like another
pub none_alike : (s : List ℕ) (x : Line) (n at : ℕ) → none (body_at s at) ≡ true → 0 ≡ alike x (take n (up_to_at s 43 at))
unfolding body_at body_of up_to_at up_to alike
none_alike s x n at e = go n (lines_at s at) e
  where
    go : (n : ℕ) (ls : List (List ℕ)) → none (body_of ls) ≡ true → 0 ≡ alike x (take n (up_to 43 ls))
    go zero ls e = refl
    go (suc n) [] e = refl
    go (suc n) (l ∷ ls) e = turn (marked 43 l) (rw (plus-marked l) at e)
      where
        turn : (t : Bool) → none (cond t [] (l ∷ body_of ls)) ≡ true → 0 ≡ alike x (take (suc n) (cond t [] (l ∷ up_to 43 ls)))
        turn true e = refl
        turn false e = absurd (true≢false (sym e))

-- such lines end in the file, and have no more bases than bytes
pub passed-room : (s : List ℕ) (x : Line) (m n at k : ℕ) → at ≤ length s → x.bases ≤ x.width → k ≡ alike x (take n (up_to_at s m at))
    → (at + k * x.width ≤ length s) × (k * x.bases ≤ k * x.width)
passed-room s x m n at k h b e = (rw e (whole-within s x m n at h), mul-le-mul_left k b)

-- and are no more than bytes
pub passed-few : (k w : ℕ) → 0 < w → k ≤ k * w
passed-few k w h = rw (mul-one k) at (mul-le-mul_left k h)

-- ---- the quality lines

-- there is a line, so there are bytes
whole-some : (s : List ℕ) (i : ℕ) (l : List ℕ) (ls : List (List ℕ)) → lines_at s i ≡ l ∷ ls → i < length s
whole-some s i l ls e = go (ltb i (length s)) refl
  where
    go : (t : Bool) → ltb i (length s) ≡ t → i < length s
    go true h = ltb-true _ _ h
    go false h = let c : [] ≡ l ∷ ls = sym (lines_end s i (ltb-false _ _ h)) ∙ e in let z : ◌≡◌ {A = ℕ} 0 1 = cc in absurd (omega arith)

module _ (s : List ℕ) (count : ℕ) (first last : Line) (n : ℕ) (f : LikeFirst count first last n) (at : ℕ) where
  abbrev Judged : ℕ → ℕ → Type 0
  Judged k i = qualities_say i (partners_of (count - k) first last) (lines_at s i) ≡ qualities_say at (partners_of count first last) (lines_at s at)

  judged-on : (k i : ℕ) (l : List ℕ) → k < n → WholeLike s first 10 i l → Judged k i → Judged (suc k) (i + first.width)
  unfolding LikeFirst
  judged-on k i l m y p =
      let h : i < length s = whole-some s i l (lines (drop (i + first.width) s)) y.here in
      let c : l ∷ lines (drop (i + first.width) s) ≡ part s i (line_end s i) ∷ lines (drop (line_end s i) s) = sym y.here ∙ lines_at-cut s i h in
      let q : part s i (line_end s i) ≡ l = cc in
      let w : line_end s i ≡ i + first.width = omega (arith, y.width, ap length q, part_length s i (line_end s i) (line_end-le s i (omega arith)), line_end-gt s i h) in
      let o : partner_of (count - k) first last ≡ first = f.1 k m in
      let t : fits_partner (partner_of (count - k) first last) (part s i (line_end s i)) ≡ true = rw (o, q) (sym (partner-width first l y.bases y.width)) in
      let d : count - k - 1 ≡ count - suc k = omega arith in
      rw (← w, ← d) (qualities-on s i (count - k) first last (omega (arith, f.0)) h t ∙ p)

  pub qualities-passed : (k : ℕ) → at ≤ length s → k ≡ alike first (take n (up_to_at s 10 at))
      → qualities_say (at + k * first.width) (partners_of (count - k) first last) (lines_at s (at + k * first.width)) ≡ qualities_say at (partners_of count first last) (lines_at s at)
  qualities-passed k h e = rw e (whole-passes s first 10 n Judged judged-on at h (rw (sub-zero count)))

  -- they are no more than the partners
  pub passed-most : (k : ℕ) → at ≤ length s → k ≡ alike first (take n (up_to_at s 10 at)) → k ≤ count
  unfolding LikeFirst
  passed-most k h e = omega (arith, f.0, whole-most s first 10 n at h, e)

-- ---- how many partners are like the first

module _ (count : ℕ) (first last : Line) where
  pub all-like : last.width ≡ first.width → last.bases ≡ first.bases → LikeFirst count first last count
  unfolding partner_of LikeFirst
  all-like w b = (omega arith, λ k h. go (count - k))
    where
      go : (n : ℕ) → partner_of n first last ≡ first
      go zero = refl
      go (suc zero) = line_same last first b w
      go (suc (suc n)) = refl

  pub none-like : LikeFirst count first last 0
  unfolding LikeFirst
  none-like = (omega arith, λ k h. absurd (omega arith))

  pub all_but_last : LikeFirst count first last (count - 1)
  unfolding LikeFirst
  all_but_last = (omega arith, λ k h. sym (partner-more (count - k) first last (λ e. omega arith)))

-- ---- a '+' line that is "+" and its end

pub plus-line : (s : List ℕ) (at : ℕ) → 2 ≤ length s - at → get_or s at 0 ≡ 43 → get_or s (at + 1) 0 ≡ 10 → at + 2 ≡ line_end s at
plus-line s at h a b =
    omega (arith, line_len-miss s at (omega arith) (λ e. omega (arith, a, e)), ap (λ (k : ℕ). line_len (drop k s)) (sym (add-one at)), line_len-hit s (at + 1) (omega arith) b)
