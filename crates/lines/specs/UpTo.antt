-- The lines up to one that begins with a mark, such as '>' or '+'; and how many of them, of the first so many, are like a given one.
use Prim.Native.Nat.{ℕ, zero, suc, ◌+◌, ◌-◌, ◌*◌, ◌≤◌, ◌<◌}
use Rattle.std.specs.Prelude.{◌≡◌, Bool, cond, take, drop, get_or, eqb}
use Rattle.std.proofs.Math.Path.{refl}
use Rattle.std.proofs.Common.{ap, sym, ◌∙◌, drop_of_length-le, length-drop, drop-drop, eq-eqb, ne_eqb, add-zero, zero-add, zero-mul}
use mathlib.Core.List.{List, [], ◌∷◌}
use Rattle.std.proofs.Math.Bool.{true, false}
use Rattle.std.proofs.Math.ListN.{length}
use native.Mathlib.Omega.{arith}
use Rattle.std.proofs.Math.Numerals.{add-one}
use Rattle.std.proofs.Math.Nat.{add-mul, one-mul}
use Rattle.lines.specs.Lines.{part, lines, onto, line_end, bases_of, seq_of, seq_at, sum_widths}
use Rattle.lines.specs.Laws.{line_end-le, line_end-gt, part-cons, lines_at-cut}
use Rattle.lines.specs.GroupLaws.{lines-behind}
use Rattle.lines.specs.Sums.{widths-lines}
use Rattle.lines.specs.Alike.{is_like, first_like, alike, like-width, like-bases}
use Rattle.lines.specs.Clear.{like-end}
use Rattle.lines.specs.declared.Line.{Line}

-- does a line begin with a mark
abbrev pub marked : ℕ → List ℕ → Bool
marked m [] = false
marked m (b ∷ l) = eqb b m

-- the lines up to one that begins with a mark, or all
unfoldable pub up_to : ℕ → List (List ℕ) → List (List ℕ)
up_to m [] = []
up_to m (l ∷ ls) = cond (marked m l) [] (l ∷ up_to m ls)

-- the same from an offset on
unfoldable pub up_to_at : List ℕ → ℕ → ℕ → List (List ℕ)
up_to_at s m at = up_to m (lines (drop at s))

-- ---- a sequence is the lines up to a '>'

pub up-to-definition : (ls : List (List ℕ)) → up_to 62 ls ≡ seq_of ls
unfolding up_to seq_of
up-to-definition [] = refl
up-to-definition ([] ∷ ls) = ap (λ (k : List (List ℕ)). [] ∷ k) (up-to-definition ls)
up-to-definition ((b ∷ l) ∷ ls) = ap (λ (k : List (List ℕ)). cond (eqb b 62) [] ((b ∷ l) ∷ k)) (up-to-definition ls)

-- there are no more of them than bytes
up-to-few : (m : ℕ) (ls : List (List ℕ)) → length (up_to m ls) ≤ length ls
unfolding up_to
up-to-few m [] = omega arith
up-to-few m (l ∷ ls) = go (marked m l) (up-to-few m ls)
  where
    go : (t : Bool) → length (up_to m ls) ≤ length ls → length (cond t [] (l ∷ up_to m ls)) ≤ suc (length ls)
    go true h = omega arith
    go false h = omega arith

lines-few : (s : List ℕ) → length (lines s) ≤ length s
unfolding lines
lines-few [] = omega arith
lines-few (b ∷ s) = go (eqb b 10) (lines s) (lines-few s)
  where
    go : (t : Bool) (ls : List (List ℕ)) → length ls ≤ length s → length (cond t ((b ∷ []) ∷ ls) (onto b ls)) ≤ suc (length s)
    go true ls h = omega arith
    go false [] h = omega arith
    go false (l ∷ ls) h = omega arith

take-enough : (n : ℕ) (ls : List (List ℕ)) → length ls ≤ n → take n ls ≡ ls
take-enough zero [] h = refl
take-enough zero (l ∷ ls) h = absurd (omega arith)
take-enough (suc n) [] h = refl
take-enough (suc n) (l ∷ ls) h = ap (λ (k : List (List ℕ)). l ∷ k) (take-enough n ls (omega arith))

pub up-to-all : (s : List ℕ) (m at : ℕ) → take (length s) (up_to_at s m at) ≡ up_to_at s m at
unfolding up_to_at
up-to-all s m at =
    take-enough (length s) (up_to m (lines (drop at s))) (omega (arith, up-to-few m (lines (drop at s)), lines-few (drop at s), length-drop at s))

pub up-to-sequence : (s : List ℕ) (at : ℕ) → up_to_at s 62 at ≡ seq_at s at
unfolding up_to_at seq_at
up-to-sequence s at = up-to-definition (lines (drop at s))

-- ---- by what the code finds at an offset

alike-no-lines : (x : Line) (k : ℕ) → alike x (take k []) ≡ 0
unfolding alike
alike-no-lines x zero = refl
alike-no-lines x (suc k) = refl

module _ (s : List ℕ) (m at : ℕ) where
  pub up-to-end : length s ≤ at → up_to_at s m at ≡ []
  unfolding up_to_at up_to lines
  up-to-end h = rw (drop_of_length-le s h)

  marked-part : at < length s → marked m (part s at (line_end s at)) ≡ eqb (get_or s at 0) m
  marked-part h = rw (part-cons s at (line_end s at) (line_end-gt s at h) (line_end-le s at (omega arith)))

  up-to-cut : at < length s → up_to_at s m at ≡ cond (eqb (get_or s at 0) m) [] (part s at (line_end s at) ∷ up_to_at s m (line_end s at))
  unfolding up_to_at up_to
  up-to-cut h = rw (lines_at-cut s at h, marked-part h)

  up-to-stop : at < length s → get_or s at 0 ≡ m → up_to_at s m at ≡ []
  up-to-stop h e = rw (up-to-cut h, eq-eqb _ _ e)

  up-to-step : at < length s → (get_or s at 0 ≡ m → ⊥) → up_to_at s m at ≡ part s at (line_end s at) ∷ up_to_at s m (line_end s at)
  up-to-step h e = rw (up-to-cut h, ne_eqb _ _ e)

pub alike-done : (x : Line) (k : ℕ) (ls : List (List ℕ)) → k ≡ 0 → alike x (take k ls) ≡ 0
unfolding alike
alike-done x k ls e = rw e

module _ (s : List ℕ) (x : Line) (m k at : ℕ) where
  pub alike-past : length s ≤ at → 0 ≡ alike x (take k (up_to_at s m at))
  alike-past h = rw (up-to-end s m at h) (sym (alike-no-lines x k))

  pub alike-marked : at < length s → get_or s at 0 ≡ m → alike x (take k (up_to_at s m at)) ≡ 0
  alike-marked h e = rw (up-to-stop s m at h e) (alike-no-lines x k)

  pub alike-other : first_like x (lines (drop at s)) ≡ false → alike x (take k (up_to_at s m at)) ≡ 0
  unfolding up_to_at up_to alike first_like
  alike-other f = go k (lines (drop at s)) f
    where
      go : (n : ℕ) (ls : List (List ℕ)) → first_like x ls ≡ false → alike x (take n (up_to m ls)) ≡ 0
      go n [] e = alike-no-lines x n
      go zero (l ∷ ls) e = refl
      go (suc n) (l ∷ ls) e = turn (marked m l)
        where
          turn : (t : Bool) → alike x (take (suc n) (cond t [] (l ∷ up_to m ls))) ≡ 0
          turn true = refl
          turn false = rw e

  pub alike-more : at < length s → 0 < x.width → first_like x (lines (drop at s)) ≡ true → (get_or s at 0 ≡ m → ⊥) → 0 < k
      → alike x (take k (up_to_at s m at)) ≡ suc (alike x (take (k - 1) (up_to_at s m (at + x.width))))
  unfolding alike first_like
  alike-more h z f e n =
      rw (up-to-step s m at h e, ← like-end s at x (omega arith) z f) (go k n (rw (lines_at-cut s at h) at f))
    where
      go : (n : ℕ) → 0 < n → is_like x (part s at (line_end s at)) ≡ true
          → alike x (take n (part s at (line_end s at) ∷ up_to_at s m (line_end s at))) ≡ suc (alike x (take (n - 1) (up_to_at s m (line_end s at))))
      go zero h t = absurd (omega arith)
      go (suc n) h t = let q : suc n - 1 ≡ n = omega arith in rw (t, q)

-- ---- from line to line

-- a line of a file that is like x and does not begin with a mark: the other lines are behind it
pub record WholeLike (s : List ℕ) (x : Line) (m i : ℕ) (l : List ℕ) : Type 0 where
  pub here : lines (drop i s) ≡ l ∷ lines (drop (i + x.width) s)
  pub unmarked : marked m l ≡ false
  pub width : length l ≡ x.width
  pub bases : length (bases_of l) ≡ x.bases
  pub within : i + x.width ≤ length s

-- the first of some lines has no more bytes than all
first-widths : (l : List ℕ) (ls : List (List ℕ)) → length l ≤ sum_widths (l ∷ ls)
unfolding sum_widths
first-widths l ls = omega arith

module _ (s : List ℕ) (x : Line) (m : ℕ) where
  whole_here : (i : ℕ) (l : List ℕ) (ls : List (List ℕ)) → i ≤ length s → lines (drop i s) ≡ l ∷ ls → is_like x l ≡ true → marked m l ≡ false
      → (WholeLike s x m i l) × (lines (drop (i + x.width) s) ≡ ls)
  whole_here i l ls h e t u =
      let w : length l ≡ x.width = like-width x l t in
      let n : lines (drop (i + x.width) s) ≡ ls = rw (← w, ← drop-drop (length l) i s) (lines-behind (drop i s) l ls e) in
      let f : x.width ≤ length (drop i s) = rw (← widths-lines (drop i s), e, ← w) (first-widths l ls) in
      (record { here = e ∙ ap (λ (k : List (List ℕ)). l ∷ k) (sym n); unmarked = u; width = w; bases = like-bases x l t; within = omega (arith, f, length-drop i s) }, n)

  -- what holds of a place with no such line passed, and goes on over each of them, holds behind them all
  module _ (n : ℕ) (P : ℕ → ℕ → Type 0) (on : (k i : ℕ) (l : List ℕ) → k < n → WholeLike s x m i l → P k i → P (suc k) (i + x.width)) where
    abbrev Passed : ℕ → ℕ → ℕ → Type 0
    Passed k i c = P (k + c) (i + c * x.width)

    passed_none : (k i : ℕ) → P k i → Passed k i 0
    passed_none k i p = rw (add-zero k, zero-mul x.width, add-zero i) p

    go_on : (j k i : ℕ) (ls : List (List ℕ)) → k + j ≡ n → i ≤ length s → lines (drop i s) ≡ ls → P k i → Passed k i (alike x (take j (up_to m ls)))
    unfolding alike up_to
    go_on j k i [] e h q p = rw (alike-no-lines x j) (passed_none k i p)
    go_on zero k i (l ∷ ls) e h q p = passed_none k i p
    go_on (suc j) k i (l ∷ ls) e h q p = first (marked m l) refl (is_like x l) refl (go_on j (suc k) (i + x.width) ls)
      where
        first : (u : Bool) → marked m l ≡ u → (t : Bool) → is_like x l ≡ t
            → (suc k + j ≡ n → i + x.width ≤ length s → lines (drop (i + x.width) s) ≡ ls → P (suc k) (i + x.width) → Passed (suc k) (i + x.width) (alike x (take j (up_to m ls))))
            → Passed k i (alike x (take (suc j) (cond u [] (l ∷ up_to m ls))))
        first true a t b later = passed_none k i p
        first false a false b later = rw b (passed_none k i p)
        first false a true b later =
            let y = whole_here i l ls h q b a in
            let c = alike x (take j (up_to m ls)) in
            let f : k + suc c ≡ suc k + c = omega arith in
            let g : i + suc c * x.width ≡ i + x.width + c * x.width = rw (← add-one c, add-mul c 1 x.width, one-mul x.width) (omega arith) in
            rw (b, f, g) (later (omega arith) y.0.within y.1 (on k i l (omega arith) y.0 p))

    pub whole-passes : (at : ℕ) → at ≤ length s → P 0 at → P (alike x (take n (up_to_at s m at))) (at + alike x (take n (up_to_at s m at)) * x.width)
    unfolding up_to_at
    whole-passes at h p = rw (zero-add (alike x (take n (up_to m (lines (drop at s)))))) at (go_on n 0 at (lines (drop at s)) (zero-add n) h refl p)

-- such lines end in their file
pub whole-within : (s : List ℕ) (x : Line) (m n at : ℕ) → at ≤ length s → at + alike x (take n (up_to_at s m at)) * x.width ≤ length s
whole-within s x m n at h = whole-passes s x m n (λ k i. i ≤ length s) (λ k i l j y p. y.within) at h h

-- and are at most so many
pub whole-most : (s : List ℕ) (x : Line) (m n at : ℕ) → at ≤ length s → alike x (take n (up_to_at s m at)) ≤ n
whole-most s x m n at h = whole-passes s x m n (λ k i. k ≤ n) (λ k i l j y p. omega arith) at h (omega arith)
