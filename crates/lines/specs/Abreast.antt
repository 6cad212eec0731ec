-- Lines looked at in four places at once: that so many lines from a place on are all like a given one, and that four such runs in a row are one.
use Rattle.std.specs.Prelude.{ℕ, zero, suc, ◌+◌, ◌-◌, ◌*◌, ◌≤◌, ◌<◌, ◌≡◌, refl, List, [], ◌∷◌, Bool, true, false, cond, ◌||◌, length, take, drop, get_or, eqb}
use Rattle.std.proofs.Common.{ap, sym, ◌∙◌, true≢false, drop-drop, eq-eqb, arith, add-one, zero-add, add-mul, one-mul, mul_assoc}
use Rattle.lines.specs.Lines.{part, lines, chop}
use Rattle.lines.specs.Alike.{is_like, first_like, alike}
use Rattle.lines.specs.Clear.{has_lf, like-by}
use Rattle.lines.specs.Blocks.{lf_in_either, either-none, either-more, either-all, either-row}
use Rattle.lines.specs.UpTo.{up_to, up_to_at, WholeLike, alike-done, alike-more, whole-passes, whole-within}
use Rattle.lines.specs.declared.Line.{Line}

-- what holds of four places that are equally far apart
pub record InFour (P : ℕ → Type 0) (at apart : ℕ) : Type 0 where
  pub first : P at
  pub second : P (at + apart)
  pub third : P (at + apart + apart)
  pub fourth : P (at + apart + apart + apart)

-- none of the n bytes from a place on is an LF
pub record NoLf (s : List ℕ) (n at : ℕ) : Type 0 where
  pub clear : has_lf (take n (drop at s)) ≡ false

-- the bytes where a line like x should end say that it does, and its first is no mark
pub record EndsLike (s : List ℕ) (x : Line) (m at : ℕ) : Type 0 where
  pub last : get_or s (at + (x.width - 1)) 0 ≡ 10
  pub bases : length (chop 13 (part s at (at + (x.width - 1)))) ≡ x.bases
  pub unmarked : get_or s at 0 ≡ m → ⊥

-- the line at a place is like x, and does not begin with a mark
pub record UnmarkedLike (s : List ℕ) (x : Line) (m at : ℕ) : Type 0 where
  pub like : first_like x (lines (drop at s)) ≡ true
  pub unmarked : get_or s at 0 ≡ m → ⊥

-- so are n lines from a place on
pub record AllLike (s : List ℕ) (x : Line) (m n at : ℕ) : Type 0 where
  pub all : alike x (take n (up_to_at s m at)) ≡ n

-- ---- byte by byte, in four blocks

pub four-none : (s : List ℕ) (p q u v : ℕ) → false ≡ (lf_in_either s p q 0 || lf_in_either s u v 0)
four-none s p q u v = rw (← either-none s p q, ← either-none s u v)

pub four-more : (s : List ℕ) (p q u v k : ℕ) (any : Bool) → p + k < length s → q + k < length s → u + k < length s → v + k < length s
    → any ≡ (lf_in_either s p q k || lf_in_either s u v k)
    → (any || eqb (get_or s (p + k) 0) 10 || eqb (get_or s (q + k) 0) 10 || eqb (get_or s (u + k) 0) 10 || eqb (get_or s (v + k) 0) 10) ≡ (lf_in_either s p q (k + 1) || lf_in_either s u v (k + 1))
four-more s p q u v k any hp hq hu hv e =
    rw (e, ← either-more s p q k (lf_in_either s p q k) hp hq refl, ← either-more s u v k (lf_in_either s u v k) hu hv refl)
    (go (lf_in_either s p q k) (lf_in_either s u v k) (eqb (get_or s (p + k) 0) 10) (eqb (get_or s (q + k) 0) 10) (eqb (get_or s (u + k) 0) 10) (eqb (get_or s (v + k) 0) 10))
  where
    go : (a b p q u v : Bool) → (a || b || p || q || u || v) ≡ (a || p || q || (b || u || v))
    go true b p q u v = refl
    go false true true q u v = refl
    go false true false true u v = refl
    go false true false false u v = refl
    go false false p q u v = assoc p q u v
      where
        assoc : (p q u v : Bool) → (p || q || u || v) ≡ (p || q || (u || v))
        assoc true q u v = refl
        assoc false true u v = refl
        assoc false false u v = refl

-- ---- of a line

neither_left : (a b : Bool) → (a || b) ≡ false → a ≡ false
neither_left true b e = e
neither_left false b e = refl

neither_right : (a b : Bool) → (a || b) ≡ false → b ≡ false
neither_right true b e = absurd (true≢false e)
neither_right false b e = e

-- four blocks of 32 are two lines of 32 to 64 bytes, the end of each with its front
module _ (s : List ℕ) (p u n : ℕ) (h : 32 ≤ n) (k : n ≤ 64) (e : (lf_in_either s p (p + (n - 32)) 32 || lf_in_either s u (u + (n - 32)) 32) ≡ false) where
  pub first-clear : NoLf s n p
  first-clear = record { clear = sym (either-all s p 32 n (omega arith) (omega arith)) ∙ neither_left (lf_in_either s p (p + (n - 32)) 32) (lf_in_either s u (u + (n - 32)) 32) e }

  pub second-clear : NoLf s n u
  second-clear = record { clear = sym (either-all s u 32 n (omega arith) (omega arith)) ∙ neither_right (lf_in_either s p (p + (n - 32)) 32) (lf_in_either s u (u + (n - 32)) 32) e }

-- and of one of 64 to 128
pub long-clear : (s : List ℕ) (p n : ℕ) → 64 ≤ n → n ≤ 128
    → (lf_in_either s p (p + 32) 32 || lf_in_either s (p + (n - 64)) (p + (n - 64) + 32) 32) ≡ has_lf (take n (drop p s))
unfolding lf_in_either
long-clear s p n h k = ap2 (either-row s p 32) (either-row s (p + (n - 64)) 32) ∙ either-all s p 64 n h (omega arith)
  where
    ap2 : {a b c d : Bool} → a ≡ b → c ≡ d → (a || c) ≡ (b || d)
    ap2 e f = rw (e, f)

pub line-by : (s : List ℕ) (x : Line) (m at : ℕ) → 0 < x.width → at + x.width ≤ length s → NoLf s (x.width - 1) at → EndsLike s x m at → UnmarkedLike s x m at
line-by s x m at z h c e = record { like = sym (like-by s at x (omega arith) z (omega arith) c.clear e.last) ∙ eq-eqb _ _ e.bases; unmarked = e.unmarked }

-- ---- of lines in a row

alike-add : (x : Line) (n e : ℕ) (ls : List (List ℕ)) → alike x (take n ls) ≡ n → alike x (take (n + e) ls) ≡ n + alike x (take e (drop n ls))
unfolding alike
alike-add x zero e ls h = rw (zero-add e, zero-add (alike x (take e ls)))
alike-add x (suc n) e [] h = absurd (omega arith)
alike-add x (suc n) e (l ∷ ls) h = let q : suc n + e ≡ suc (n + e) = omega arith in rw q (go (is_like x l) h (alike-add x n e ls))
  where
    go : (t : Bool) → cond t (suc (alike x (take n ls))) 0 ≡ suc n → (alike x (take n ls) ≡ n → alike x (take (n + e) ls) ≡ n + alike x (take e (drop n ls)))
        → cond t (suc (alike x (take (n + e) ls))) 0 ≡ suc n + alike x (take e (drop n ls))
    go true q r = omega (arith, r (omega arith))
    go false q r = absurd (omega arith)

module _ (s : List ℕ) (x : Line) (m : ℕ) where
  pub all_none : (at : ℕ) → AllLike s x m 0 at
  all_none at = record { all = alike-done x 0 (up_to_at s m at) refl }

  next : (i : ℕ) (l : List ℕ) → WholeLike s x m i l → up_to_at s m i ≡ l ∷ up_to_at s m (i + x.width)
  unfolding up_to_at up_to
  next i l y = rw (y.here, y.unmarked)

  -- behind n such lines are the lines that begin n widths on
  behind : (n at : ℕ) → at ≤ length s → AllLike s x m n at → drop n (up_to_at s m at) ≡ up_to_at s m (at + n * x.width)
  behind n at h a = rw a.all at (whole-passes s x m n (λ k i. drop k (up_to_at s m at) ≡ up_to_at s m i) on at h refl)
    where
      on : (k i : ℕ) (l : List ℕ) → k < n → WholeLike s x m i l → drop k (up_to_at s m at) ≡ up_to_at s m i → drop (suc k) (up_to_at s m at) ≡ up_to_at s m (i + x.width)
      on k i l j y p = rw (← add-one k, ← drop-drop 1 k (up_to_at s m at), p, next i l y)

  -- so all lines alike are those n and the ones alike behind them
  pub all-add : (n e at : ℕ) → at ≤ length s → AllLike s x m n at → alike x (take (n + e) (up_to_at s m at)) ≡ n + alike x (take e (up_to_at s m (at + n * x.width)))
  all-add n e at h a = rw (← behind n at h a) (alike-add x n e (up_to_at s m at) a.all)

  pub all_join : (n e at : ℕ) → at ≤ length s → AllLike s x m n at → AllLike s x m e (at + n * x.width) → AllLike s x m (n + e) at
  all_join n e at h a b = record { all = all-add n e at h a ∙ ap (λ (k : ℕ). n + k) b.all }

  pub all_more : (n at : ℕ) → 0 < x.width → at + n * x.width < length s → AllLike s x m n at → UnmarkedLike s x m (at + n * x.width) → AllLike s x m (n + 1) at
  all_more n at z h a u = all_join n 1 at (omega arith) a one
    where
      one : AllLike s x m 1 (at + n * x.width)
      one = record { all = alike-more s x m 1 (at + n * x.width) h z u.like u.unmarked (omega arith) ∙ ap suc (alike-done x (1 - 1) (up_to_at s m (at + n * x.width + x.width)) (omega arith)) }

  -- four runs in a row, each of which begins where the one before it ends
  pub all-four : (n apart at : ℕ) → at ≤ length s → apart ≡ n * x.width → InFour (AllLike s x m n) at apart → AllLike s x m (4 * n) at
  all-four n apart at h e f =
      let w = n * x.width in
      let two : AllLike s x m (n + n) at = all_join n n at h f.first (rw e at f.second) in
      let three : AllLike s x m (n + n + n) at = all_join (n + n) n at h two (to (n + n) (at + apart + apart) (rw (add-mul n n x.width) (omega arith)) f.third) in
      let four : AllLike s x m (n + n + n + n) at = all_join (n + n + n) n at h three (to (n + n + n) (at + apart + apart + apart) (rw (add-mul (n + n) n x.width, add-mul n n x.width) (omega arith)) f.fourth) in
      let q : n + n + n + n ≡ 4 * n = omega arith in
      rw (← q) four
    where
      to : (k p : ℕ) → at + k * x.width ≡ p → AllLike s x m n p → AllLike s x m n (at + k * x.width)
      to k p q a = rw q a

  -- such lines end in their file
  pub all-within : (n at : ℕ) → at ≤ length s → AllLike s x m n at → at + n * x.width ≤ length s
  all-within n at h a = rw a.all at (whole-within s x m n at h)

  -- one line more in each of four places
  pub row_more : (n at i apart : ℕ) → 0 < x.width → i ≡ at + n * x.width → i + apart + apart + apart < length s
      → InFour (AllLike s x m n) at apart → InFour (UnmarkedLike s x m) i apart → InFour (AllLike s x m (n + 1)) at apart
  row_more n at i apart z e h f u =
      record {
        first = one at i (omega arith) (omega arith) f.first u.first;
        second = one (at + apart) (i + apart) (omega arith) (omega arith) f.second u.second;
        third = one (at + apart + apart) (i + apart + apart) (omega arith) (omega arith) f.third u.third;
        fourth = one (at + apart + apart + apart) (i + apart + apart + apart) (omega arith) (omega arith) f.fourth u.fourth;
      }
    where
      one : (p j : ℕ) → p + n * x.width ≡ j → j < length s → AllLike s x m n p → UnmarkedLike s x m j → AllLike s x m (n + 1) p
      one p j q l a b = all_more n p z (rw q l) a (rw q b)

-- ---- how far lines of a width reach

pub row_within : (n rows w : ℕ) → n < rows → n * w + w ≤ rows * w
row_within n rows w h =
    let q : rows ≡ n + 1 + (rows - (n + 1)) = omega arith in
    rw q (rw (add-mul (n + 1) (rows - (n + 1)) w, add-mul n 1 w, one-mul w) (omega arith))

pub rows-reach : (n rows w : ℕ) → (n + 4 * rows) * w ≡ n * w + 4 * (rows * w)
rows-reach n rows w = add-mul n (4 * rows) w ∙ ap (λ (k : ℕ). n * w + k) (mul_assoc 4 rows w)

pub row-reach : (n w : ℕ) → (n + 1) * w ≡ n * w + w
row-reach n w = add-mul n 1 w ∙ ap (λ (k : ℕ). n * w + k) (one-mul w)
