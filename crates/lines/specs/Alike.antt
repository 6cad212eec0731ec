-- Lines that are alike: how many of some lines, from the first on, have one width and one count of bases. What holds from line to line
-- then holds behind all of them.
use Prim.Native.Nat.{ℕ, zero, suc, ◌+◌, ◌*◌, ◌≤◌}
use Rattle.std.specs.Prelude.{◌≡◌, Bool, ◌&&◌, take, drop, eqb}
use Rattle.std.proofs.Math.Path.{refl}
use Rattle.std.proofs.Common.{ap, sym, ◌∙◌, true≢false, length-drop, eqb-true, eq-eqb, zero-add}
use mathlib.Core.List.{List, [], ◌∷◌}
use Rattle.std.proofs.Math.Bool.{true, false, cond}
use Rattle.std.proofs.Math.ListN.{length}
use native.Mathlib.Omega.{arith}
use Rattle.std.proofs.Math.Numerals.{add-one}
use Rattle.std.proofs.Math.Nat.{add-zero, add-mul, one-mul, zero-mul, add-sub_cancel_left}
use Rattle.lines.specs.Lines.{part, line_len, line_end, ends, bases_of, seq_at, none, first_line}
use Rattle.lines.specs.Laws.{line_len-pos, line_end-le, part_length, seq_at-end, some-line, first-within, seq_at-next}
use Rattle.lines.specs.declared.Line.{Line}

-- is a line like x: it ends in LF, and has the width and the bases of x
unfoldable pub is_like : Line → List ℕ → Bool
is_like x l = ends 10 l && eqb (length l) x.width && eqb (length (bases_of l)) x.bases

-- is there a first line, and is it like x
unfoldable pub first_like : Line → List (List ℕ) → Bool
first_like x [] = false
first_like x (l ∷ ls) = is_like x l

-- how many of some lines are like x, up to the first that is not
unfoldable pub alike : Line → List (List ℕ) → ℕ
alike x [] = 0
alike x (l ∷ ls) = cond (is_like x l) (suc (alike x ls)) 0

-- ---- a line like x, and the lines behind it

pub both_left : (a b : Bool) → (a && b) ≡ true → a ≡ true
both_left true b e = refl
both_left false b e = e

both_right : (a b : Bool) → (a && b) ≡ true → b ≡ true
both_right true b e = e
both_right false b e = absurd (true≢false (sym e))

pub like-width : (x : Line) (l : List ℕ) → is_like x l ≡ true → length l ≡ x.width
unfolding is_like
like-width x l e = eqb-true _ _ (both_right (ends 10 l) _ (both_left (ends 10 l && eqb (length l) x.width) _ e))

pub like-bases : (x : Line) (l : List ℕ) → is_like x l ≡ true → length (bases_of l) ≡ x.bases
unfolding is_like
like-bases x l e = eqb-true _ _ (both_right (ends 10 l && eqb (length l) x.width) _ e)

pub like-first : (x : Line) (ls : List (List ℕ)) → first_like x ls ≡ true → ((first_line ls).width ≡ x.width) × ((first_line ls).bases ≡ x.bases)
unfolding first_like
like-first x [] e = absurd (true≢false (sym e))
like-first x (l ∷ ls) e = (like-width x l e, like-bases x l e)

-- such a line has its LF, so a byte at least
pub alike-flat : (x : Line) (ls : List (List ℕ)) → x.width ≡ 0 → 0 ≡ alike x ls
unfolding alike is_like ends
alike-flat x [] z = refl
alike-flat x ([] ∷ ls) z = refl
alike-flat x ((b ∷ l) ∷ ls) z = go (is_like x (b ∷ l)) (λ t. like-width x (b ∷ l) t)
  where
    go : (t : Bool) → (t ≡ true → length (b ∷ l) ≡ x.width) → 0 ≡ cond t (suc (alike x ls)) 0
    go true w = absurd (omega (arith, w refl))
    go false w = refl

pub alike-none : (x : Line) → 0 ≡ alike x []
unfolding alike
alike-none x = refl

-- ---- from line to line

-- a line of a file that is like x: where it is, and that the others are behind it
pub record LineLike (s : List ℕ) (x : Line) (i : ℕ) (l : List ℕ) : Type 0 where
  pub here : seq_at s i ≡ l ∷ seq_at s (i + x.width)
  pub like : is_like x l ≡ true
  pub width : length l ≡ x.width
  pub bases : length (bases_of l) ≡ x.bases
  pub within : i + x.width ≤ length s

module _ (s : List ℕ) (x : Line) where
  like-here : (i : ℕ) (l : List ℕ) (ls : List (List ℕ)) → i ≤ length s → seq_at s i ≡ l ∷ ls → is_like x l ≡ true → LineLike s x i l
  like-here i l ls h e t =
      let w : length l ≡ x.width = like-width x l t in
      let n : seq_at s (i + length l) ≡ ls = rw e at (seq_at-next s i h) in
      let f : i + length l ≤ length s = rw e at (first-within s i h) in
      record {
        here = rw (← w, n) e;
        like = t;
        width = w;
        bases = like-bases x l t;
        within = rw w at f;
      }

  -- what holds of a place with no such line passed, and goes on over each of them, holds behind them all
  module _ (P : ℕ → ℕ → Type 0) (on : (k i : ℕ) (l : List ℕ) → LineLike s x i l → P k i → P (suc k) (i + x.width)) where
    go_on : (ls : List (List ℕ)) (k i : ℕ) → i ≤ length s → seq_at s i ≡ ls → P k i → P (k + alike x ls) (i + alike x ls * x.width)
    unfolding alike
    go_on [] k i h e p = rw (add-zero k, zero-mul x.width, add-zero i) p
    go_on (l ∷ ls) k i h e p = turn (is_like x l) refl (go_on ls (suc k) (i + x.width))
      where
        turn : (t : Bool) → is_like x l ≡ t → (i + x.width ≤ length s → seq_at s (i + x.width) ≡ ls → P (suc k) (i + x.width) → P (suc k + alike x ls) (i + x.width + alike x ls * x.width))
            → P (k + cond t (suc (alike x ls)) 0) (i + cond t (suc (alike x ls)) 0 * x.width)
        turn true t later =
            let y = like-here i l ls h e t in
            let n : seq_at s (i + x.width) ≡ ls = rw (e, y.width) at (seq_at-next s i h) in
            let q : k + suc (alike x ls) ≡ suc k + alike x ls = omega arith in
            let r : i + suc (alike x ls) * x.width ≡ i + x.width + alike x ls * x.width = rw (← add-one (alike x ls), add-mul (alike x ls) 1 x.width, one-mul x.width) (omega arith) in
            rw (q, r) (later y.within n (on k i l y p))
        turn false t later = rw (add-zero k, zero-mul x.width, add-zero i) p

    pub alike-passes : (at : ℕ) → at ≤ length s → P 0 at → P (alike x (seq_at s at)) (at + alike x (seq_at s at) * x.width)
    alike-passes at h p = rw (zero-add (alike x (seq_at s at))) at (go_on (seq_at s at) 0 at h refl p)

-- such lines end in their file
pub alike-within : (s : List ℕ) (x : Line) (at : ℕ) → at ≤ length s → at + alike x (seq_at s at) * x.width ≤ length s
alike-within s x at h = alike-passes s x (λ k i. i ≤ length s) (λ k i l y p. y.within) at h h

-- and the line behind them is not like x
unlike : (x : Line) (ls : List (List ℕ)) → alike x ls ≡ 0 → first_like x ls ≡ false
unfolding alike first_like
unlike x [] e = refl
unlike x (l ∷ ls) e = go (is_like x l) e
  where
    go : (t : Bool) → cond t (suc (alike x ls)) 0 ≡ 0 → t ≡ false
    go true e = absurd (omega arith)
    go false e = refl

pub alike-ends : (s : List ℕ) (x : Line) (at : ℕ) → at ≤ length s → first_like x (seq_at s (at + alike x (seq_at s at) * x.width)) ≡ false
unfolding alike
alike-ends s x at h =
    unlike x _
    (omega (
      arith,
      alike-passes s x (λ k i. k + alike x (seq_at s i) ≡ alike x (seq_at s at))
          (λ k i l y p. omega (arith, p, ap (alike x) y.here ∙ ap (λ (t : Bool). cond t (suc (alike x (seq_at s (i + x.width)))) 0) y.like)) at h (zero-add (alike x (seq_at s at))),
    ))

-- ---- a line that has the width and the bases, but no LF, is the last

pub open-last : (s : List ℕ) → ends 10 (take (line_len s) s) ≡ false → line_len s ≡ length s
unfolding ends line_len
open-last [] e = refl
open-last (b ∷ []) e = go (eqb b 10)
  where
    go : (t : Bool) → ◌≡◌ {A = ℕ} (cond t 1 1) 1
    go true = refl
    go false = refl
open-last (b ∷ c ∷ s) e = go (eqb b 10) refl e (open-last (c ∷ s)) (line_len-pos (c ∷ s) (omega arith))
  where
    longer : (n : ℕ) → 1 ≤ n → ends 10 (take (suc n) (b ∷ c ∷ s)) ≡ ends 10 (take n (c ∷ s))
    longer zero h = absurd (omega arith)
    longer (suc n) h = refl

    go : (t : Bool) → eqb b 10 ≡ t → ends 10 (take (cond t 1 (suc (line_len (c ∷ s)))) (b ∷ c ∷ s)) ≡ false → (ends 10 (take (line_len (c ∷ s)) (c ∷ s)) ≡ false → line_len (c ∷ s) ≡ length (c ∷ s)) → 1 ≤ line_len (c ∷ s)
        → cond t 1 (suc (line_len (c ∷ s))) ≡ suc (length (c ∷ s))
    go true h e r p = absurd (true≢false (sym h ∙ e))
    go false h e r p = ap suc (r (sym (longer (line_len (c ∷ s)) p) ∙ e))

-- of three tests that don't all hold, where the last two do, the first does not
first-fails : (a b c : Bool) → (a && b && c) ≡ false → b ≡ true → c ≡ true → a ≡ false
first-fails true b c e f g = absurd (true≢false (rw (f, g) at e))
first-fails false b c e f g = refl

pub unlike-last : (s : List ℕ) (at : ℕ) (x : Line) → at ≤ length s → none (seq_at s at) ≡ false → first_like x (seq_at s at) ≡ false
    → (first_line (seq_at s at)).width ≡ x.width → (first_line (seq_at s at)).bases ≡ x.bases → none (seq_at s (at + x.width)) ≡ true
unfolding first_like is_like
unlike-last s at x h n f w b =
    let cut = some-line s at n in
    let l = part s at (line_end s at) in
    let v : length l ≡ x.width = rw cut at w in
    let e : ends 10 l ≡ false = first-fails (ends 10 l) _ _ (rw cut at f) (eq-eqb _ _ v) (eq-eqb _ _ (rw cut at b)) in
    let o : line_len (drop at s) ≡ length (drop at s) = open-last (drop at s) (rw (add-sub_cancel_left at (line_len (drop at s))) at e) in
    let q : at + x.width ≡ length s = omega (arith, part_length s at (line_end s at) (line_end-le s at h), v, o, length-drop at s) in
    rw (seq_at-end s (at + x.width) (omega (arith, q)))
