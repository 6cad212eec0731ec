-- Whether a byte of a kind is among some bytes, and what blocks of bytes without one say of the first.
use Prim.Native.Nat.{ℕ, zero, suc, ◌+◌, ◌-◌, ◌≤◌, ◌<◌}
use Rattle.std.specs.Prelude.{◌≡◌, Bool, not, ◌||◌, take, get_or, eqb}
use Rattle.std.proofs.Math.Path.{refl, sym, ap}
use Rattle.std.proofs.Common.{◌∙◌, true≢false, add-one, zero-add, take-suc, take-add}
use mathlib.Core.List.{List, [], ◌∷◌, ◌++◌}
use Rattle.std.proofs.Math.Bool.{true, false, cond}
use native.Mathlib.Omega.{arith}
use Rattle.std.proofs.Math.ListN.{length, drop, length-drop, drop_of_length-le}
use Rattle.std.proofs.Math.Seq.{drop-drop}
use Rattle.columns.specs.Bytes.{is, first_where, first-le}

-- does one of some bytes pass a test
unfoldable pub among : (ℕ → Bool) → List ℕ → Bool
among p [] = false
among p (b ∷ l) = p b || among p l

-- is a byte one of two
abbrev pub either : ℕ → ℕ → ℕ → Bool
either a b x = is a x || is b x

-- the first of one byte is no nearer than the first of two, and the search may go on from there
first-of-two : (a b : ℕ) (l : List ℕ) → first_where (is a) l ≡ first_where (either a b) l + first_where (is a) (drop (first_where (either a b) l) l)
unfolding first_where
first-of-two a b [] = refl
first-of-two a b (x ∷ l) = go (is a x) (is b x) refl (first-of-two a b l)
  where
    go : (t u : Bool) → is a x ≡ t → first_where (is a) l ≡ first_where (either a b) l + first_where (is a) (drop (first_where (either a b) l) l)
        → cond t 0 (suc (first_where (is a) l)) ≡ cond (t || u) 0 (suc (first_where (either a b) l)) + first_where (is a) (drop (cond (t || u) 0 (suc (first_where (either a b) l))) (x ∷ l))
    go true u e h = rw e
    go false true e h = rw e (omega arith)
    go false false e h = omega (arith, h)

module _ (s : List ℕ) (a b j w : ℕ) (inv : j + first_where (is a) (drop j s) ≡ w) (i : ℕ) (e : i ≡ j + first_where (either a b) (drop j s)) where
  pub two-on : i + first_where (is a) (drop i s) ≡ w
  two-on =
      let k : ℕ = first_where (either a b) (drop j s) in
      let d : drop k (drop j s) ≡ drop i s = drop-drop k j s ∙ ap (λ (x : ℕ). drop x s) (sym e) in
      omega (arith, first-of-two a b (drop j s), ap (first_where (is a)) d)

  pub two-within : j ≤ length s → i ≤ length s
  two-within h = omega (arith, first-le (either a b) (drop j s), length-drop j s)

-- two tests one after another
or_assoc : (a b c : Bool) → ((a || b) || c) ≡ (a || (b || c))
or_assoc true b c = refl
or_assoc false b c = refl

module _ (p : ℕ → Bool) where
  among-append : (l m : List ℕ) → among p (l ++ m) ≡ (among p l || among p m)
  unfolding among
  among-append [] m = refl
  among-append (b ∷ l) m = rw (among-append l m) (sym (or_assoc (p b) (among p l) (among p m)))

  among_one : (b : ℕ) → among p (b ∷ []) ≡ p b
  unfolding among
  among_one b = go (p b)
    where
      go : (t : Bool) → (t || false) ≡ t
      go true = refl
      go false = refl

  pub among_none : (l : List ℕ) → false ≡ among p (take 0 l)
  unfolding among
  among_none l = refl

  -- one byte more
  among-more : (s : List ℕ) (k : ℕ) → k < length s → among p (take (k + 1) s) ≡ (among p (take k s) || p (get_or s k 0))
  among-more s k h = rw (add-one k, take-suc s k 0 h, among-append (take k s) (get_or s k 0 ∷ []), among_one (get_or s k 0))

  -- none is among the first n: the first is behind them
  clear_first : (n : ℕ) (l : List ℕ) → n ≤ length l → among p (take n l) ≡ false → first_where p l ≡ n + first_where p (drop n l)
  unfolding among first_where
  clear_first zero l h e = sym (zero-add (first_where p l))
  clear_first (suc n) [] h e = absurd (omega arith)
  clear_first (suc n) (b ∷ l) h e = go (p b) e (λ c. clear_first n l (omega arith) c)
    where
      go : (t : Bool) → (t || among p (take n l)) ≡ false → (among p (take n l) ≡ false → first_where p l ≡ n + first_where p (drop n l))
          → cond t 0 (suc (first_where p l)) ≡ suc n + first_where p (drop n l)
      go true c r = absurd (true≢false c)
      go false c r = omega (arith, r c)

  -- the first is no nearer than n: it is the first of those behind n
  first-skip : (n : ℕ) (l : List ℕ) → n ≤ first_where p l → first_where p l ≡ n + first_where p (drop n l)
  unfolding first_where
  first-skip zero l h = sym (zero-add (first_where p l))
  first-skip (suc n) [] h = absurd (omega arith)
  first-skip (suc n) (b ∷ l) h = go (p b) h (first-skip n l)
    where
      go : (t : Bool) → suc n ≤ cond t 0 (suc (first_where p l)) → (n ≤ first_where p l → first_where p l ≡ n + first_where p (drop n l))
          → cond t 0 (suc (first_where p l)) ≡ suc n + first_where p (drop n l)
      go true k r = absurd (omega arith)
      go false k r = omega (arith, r (omega arith))

  -- a search from `from` has come to j, and may begin again at a place between
  pub first-between : (s : List ℕ) (from k j : ℕ) → from ≤ k → k ≤ j → j + first_where p (drop j s) ≡ from + first_where p (drop from s) → k + first_where p (drop k s) ≡ from + first_where p (drop from s)
  first-between s from k j g h e =
      let n : from + (k - from) ≡ k = omega arith in
      omega (arith, first-skip (k - from) (drop from s) (omega arith), ap (first_where p) (drop-drop (k - from) from s), ap (λ (x : ℕ). first_where p (drop x s)) n)

  clear-part : (j k : ℕ) (l : List ℕ) → among p (take (j + k) l) ≡ false → among p (take j l) ≡ false
  clear-part j k l e = left (among p (take j l)) (among p (take k (drop j l))) (sym (among-append (take j l) (take k (drop j l))) ∙ rw (← take-add j k l) e)
    where
      left : (a b : Bool) → (a || b) ≡ false → a ≡ false
      left true b h = h
      left false b h = refl

  -- a search has come to i: the first from there is the first, w
  module _ (s : List ℕ) (i w : ℕ) (inv : i + first_where p (drop i s) ≡ w) (n : ℕ) where
    pub clear-on : i + n ≤ length s → among p (take n (drop i s)) ≡ false → i + n + first_where p (drop (i + n) s) ≡ w
    clear-on h e = omega (arith, clear_first n (drop i s) (omega (arith, length-drop i s)) e, ap (first_where p) (drop-drop n i s))

    -- the last n bytes have none, and all before i have none
    pub clear-last : i ≤ length s → length s ≤ i + n → n ≤ length s → among p (take n (drop (length s - n) s)) ≡ false → length s ≡ w
    unfolding first_where
    clear-last h m f e =
        let a : ℕ = length s - n in
        let j : ℕ = i - a in
        let q : j + (n - j) ≡ n = omega arith in
        let all : drop n (drop a s) ≡ [] = drop-drop n a s ∙ drop_of_length-le s {i = a + n} (omega arith) in
        let k : a + j ≡ i = omega arith in
        let here : drop j (drop a s) ≡ drop i s = drop-drop j a s ∙ ap (λ (x : ℕ). drop x s) k in
        omega (arith, clear_first n (drop a s) (omega (arith, length-drop a s)) e, ap (first_where p) all, clear_first j (drop a s) (omega (arith, length-drop a s)) (clear-part j (n - j) (drop a s) (rw q e)), ap (first_where p) here)

-- no more bytes than two blocks have: one at the front and one at the end are all of them
pub two-clear : (p : ℕ → Bool) (s : List ℕ) (n : ℕ) → n ≤ length s → length s ≤ n + n → among p (take n (drop 0 s)) ≡ false → among p (take n (drop (length s - n) s)) ≡ false
    → first_where p s ≡ length s
two-clear p s n h m a b =
    let w : ℕ = first_where p s in
    sym (clear-last p s (0 + n) w (clear-on p s 0 w (zero-add w) n (omega arith) a) n (omega arith) (omega arith) h b)

-- neither of two
pub neither : (a b : Bool) → not (a || b) ≡ true → (a ≡ false) × (b ≡ false)
neither true b e = absurd (true≢false (sym e))
neither false true e = absurd (true≢false (sym e))
neither false false e = (refl, refl)

-- one byte more of a block that is looked through for two
pub either-more : (s : List ℕ) (k a b : ℕ) (any : Bool) → k < length s → any ≡ among (either a b) (take k s)
    → (any || eqb (get_or s k 0) a || eqb (get_or s k 0) b) ≡ among (either a b) (take (k + 1) s)
either-more s k a b any h e = rw (e, among-more (either a b) s k h) (or_assoc (among (either a b) (take k s)) (eqb (get_or s k 0) a) (eqb (get_or s k 0) b))
