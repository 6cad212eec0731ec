-- Whether there is an LF among some bytes, by blocks of them: a test takes two blocks at once, which may overlap.
use Rattle.std.specs.Prelude.{ℕ, ◌+◌, ◌-◌, ◌≤◌, ◌<◌, ◌≡◌, refl, List, [], ◌∷◌, ◌++◌, Bool, true, false, cond, ◌||◌, length, take, drop, get_or, eqb}
use Rattle.std.proofs.Common.{sym, ◌∙◌, length-drop, drop-drop, get_or-drop, take-add, take-suc, arith, add-one}
use Rattle.lines.specs.Clear.{has_lf}

-- is one of the m bytes from p on, or of the m from q on, an LF
unfoldable pub lf_in_either : List ℕ → ℕ → ℕ → ℕ → Bool
lf_in_either s p q m = has_lf (take m (drop p s)) || has_lf (take m (drop q s))

-- ---- byte by byte

lf-append : (l m : List ℕ) → has_lf (l ++ m) ≡ (has_lf l || has_lf m)
unfolding has_lf
lf-append [] m = refl
lf-append (b ∷ l) m = go (eqb b 10) (lf-append l m)
  where
    go : (t : Bool) → has_lf (l ++ m) ≡ (has_lf l || has_lf m) → cond t true (has_lf (l ++ m)) ≡ (cond t true (has_lf l) || has_lf m)
    go true h = refl
    go false h = h

lf-one : (b : ℕ) → has_lf (b ∷ []) ≡ eqb b 10
unfolding has_lf
lf-one b = go (eqb b 10)
  where
    go : (t : Bool) → cond t true false ≡ t
    go true = refl
    go false = refl

pub lf-more : (s : List ℕ) (p k : ℕ) → p + k < length s → has_lf (take (k + 1) (drop p s)) ≡ (has_lf (take k (drop p s)) || eqb (get_or s (p + k) 0) 10)
lf-more s p k h =
    rw (add-one k, take-suc (drop p s) k 0 (omega (arith, length-drop p s)), get_or-drop p s k 0, lf-append (take k (drop p s)) (get_or s (p + k) 0 ∷ []), lf-one (get_or s (p + k) 0))

pub either-none : (s : List ℕ) (p q : ℕ) → false ≡ lf_in_either s p q 0
unfolding lf_in_either has_lf
either-none s p q = refl

pub either-more : (s : List ℕ) (p q k : ℕ) (any : Bool) → p + k < length s → q + k < length s → any ≡ lf_in_either s p q k
    → (any || eqb (get_or s (p + k) 0) 10 || eqb (get_or s (q + k) 0) 10) ≡ lf_in_either s p q (k + 1)
unfolding lf_in_either
either-more s p q k any h m e =
    rw (e, lf-more s p k h, lf-more s q k m)
    (go (has_lf (take k (drop p s))) (has_lf (take k (drop q s))) (eqb (get_or s (p + k) 0) 10) (eqb (get_or s (q + k) 0) 10))
  where
    go : (a b x y : Bool) → (a || b || x || y) ≡ (a || x || (b || y))
    go true b x y = refl
    go false true true y = refl
    go false true false y = refl
    go false false x y = refl

-- ---- blocks in a row, and blocks that overlap

lf-row : (s : List ℕ) (at a b : ℕ) → has_lf (take (a + b) (drop at s)) ≡ (has_lf (take a (drop at s)) || has_lf (take b (drop (at + a) s)))
lf-row s at a b = rw (← drop-drop a at s, take-add a b (drop at s)) (lf-append (take a (drop at s)) (take b (drop a (drop at s))))

-- the first m of n bytes and the last m cover all of them
pub either-all : (s : List ℕ) (at m n : ℕ) → m ≤ n → n ≤ m + m → lf_in_either s at (at + (n - m)) m ≡ has_lf (take n (drop at s))
unfolding lf_in_either
either-all s at m n h k = go (n - m) (m + m - n) (omega arith) (omega arith) (omega arith)
  where
    both : (a b c f l w : Bool) → f ≡ (a || b) → l ≡ (b || c) → w ≡ (f || c) → (f || l) ≡ w
    both true b c f l w p q r = rw (r, q, p)
    both false true c f l w p q r = rw (r, q, p)
    both false false c f l w p q r = rw (r, q, p)

    go : (a b : ℕ) → a + b ≡ m → b + a ≡ m → m + a ≡ n → (has_lf (take m (drop at s)) || has_lf (take m (drop (at + a) s))) ≡ has_lf (take n (drop at s))
    go a b u v w =
        let e : at + a + b ≡ at + m = omega arith in
        both (has_lf (take a (drop at s))) (has_lf (take b (drop (at + a) s))) (has_lf (take a (drop (at + m) s))) (has_lf (take m (drop at s))) (has_lf (take m (drop (at + a) s))) (has_lf (take n (drop at s)))
        (rw u at (lf-row s at a b)) (rw (v, e) at (lf-row s (at + a) b a)) (rw w at (lf-row s at m a))

pub either-row : (s : List ℕ) (p m : ℕ) → lf_in_either s p (p + m) m ≡ has_lf (take (m + m) (drop p s))
unfolding lf_in_either
either-row s p m = sym (lf-row s p m m)

-- ---- many bytes, block by block: k of the n are tested, then m more

module _ (s : List ℕ) (at n k m : ℕ) where
  pub blocks-hit : k + m ≤ n → has_lf (take m (drop (at + k) s)) ≡ true → true ≡ has_lf (take n (drop at s))
  blocks-hit h e = rw (w, lf-row s at (k + m) (n - (k + m)), lf-row s at k m, e) (go (has_lf (take k (drop at s))) (has_lf (take (n - (k + m)) (drop (at + (k + m)) s))))
    where
      w : n ≡ k + m + (n - (k + m))
      w = omega arith

      go : (a b : Bool) → true ≡ (a || true || b)
      go true b = refl
      go false b = refl

  pub blocks-on : has_lf (take k (drop at s)) ≡ false → has_lf (take m (drop (at + k) s)) ≡ false → has_lf (take (k + m) (drop at s)) ≡ false
  blocks-on c e = rw (lf-row s at k m, c, e)

  -- the last block ends where the n end, and may begin before those left
  pub blocks_last : has_lf (take k (drop at s)) ≡ false → m ≤ n → n ≤ k + m → has_lf (take m (drop (at + (n - m)) s)) ≡ has_lf (take n (drop at s))
  blocks_last c h j = go (n - m) (k - (n - m)) (omega arith) (omega arith)
    where
      left : (a b : Bool) → (a || b) ≡ false → a ≡ false
      left true b e = e
      left false b e = refl

      go : (a b : ℕ) → a + b ≡ k → a + m ≡ n → has_lf (take m (drop (at + a) s)) ≡ has_lf (take n (drop at s))
      go a b u v =
          let f : has_lf (take a (drop at s)) ≡ false = left (has_lf (take a (drop at s))) (has_lf (take b (drop (at + a) s))) (sym (lf-row s at a b) ∙ rw u c) in
          sym (rw (v, f) at (lf-row s at a m))
