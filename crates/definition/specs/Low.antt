-- Low bytes: a space, or less. All whitespace is low, so bytes of which none is low are in a run of bytes that are no whitespace.
use Rattle.std.specs.Prelude.{ℕ, zero, suc, ◌+◌, ◌≤◌, ◌<◌, ◌≡◌, refl, List, [], ◌∷◌, ◌++◌, Bool, true, false, cond, not, ◌||◌, length, take, drop, get_or, ltb}
use Rattle.std.proofs.Common.{ap, sym, true≢false, length-drop, drop-drop, take-suc, take_all, ne_eqb, ltb-false, arith, add-one, zero-add}
use Rattle.definition.specs.Definition.{is_space, spaced, run}

unfoldable pub low : ℕ → Bool
low b = ltb b 33

-- is one of some bytes low
unfoldable pub some_low : List ℕ → Bool
some_low [] = false
some_low (b ∷ l) = low b || some_low l

-- of the first n
abbrev pub any_low : ℕ → List ℕ → Bool
any_low n l = some_low (take n l)

-- ---- byte by byte

some-append : (l : List ℕ) (b : ℕ) → some_low (l ++ (b ∷ [])) ≡ (some_low l || low b)
unfolding some_low
some-append [] b = go (low b)
  where
    go : (t : Bool) → (t || false) ≡ t
    go true = refl
    go false = refl
some-append (a ∷ l) b = go (low a) (some-append l b)
  where
    go : (t : Bool) → some_low (l ++ (b ∷ [])) ≡ (some_low l || low b) → (t || some_low (l ++ (b ∷ []))) ≡ ((t || some_low l) || low b)
    go true h = refl
    go false h = h

-- the first k bytes of some, and one more
pub low-none : (s : List ℕ) → false ≡ any_low 0 s
unfolding some_low
low-none s = refl

pub low-more : (s : List ℕ) (k : ℕ) (any : Bool) → k < length s → any ≡ any_low k s → (any || ltb (get_or s k 0) 33) ≡ any_low (k + 1) s
unfolding low
low-more s k any h e = rw (e, add-one k, take-suc s k 0 h) (sym (some-append (take k s) (get_or s k 0)))

-- all of the first n, if none of them is low
pub none-low : (s : List ℕ) (n k : ℕ) (any : Bool) → length (take n s) ≤ k → any ≡ any_low k (take n s) → not any ≡ true → any_low n s ≡ false
none-low s n k true h e t = absurd (true≢false (sym t))
none-low s n k false h e t = rw (take_all k (take n s) h) at (sym e)

-- ---- a run that goes on

high_word : (b : ℕ) → low b ≡ false → spaced false b ≡ true
unfolding low is_space
high_word b e =
    let h : 33 ≤ b = ltb-false _ _ e in
    rw (ne_eqb b 32 (λ q. omega arith), ne_eqb b 9 (λ q. omega arith), ne_eqb b 10 (λ q. omega arith), ne_eqb b 12 (λ q. omega arith), ne_eqb b 13 (λ q. omega arith))

run-over-high : (n : ℕ) (l : List ℕ) → n ≤ length l → any_low n l ≡ false → run (spaced false) l ≡ n + run (spaced false) (drop n l)
unfolding some_low run
run-over-high zero l h e = sym (zero-add (run (spaced false) l))
run-over-high (suc n) [] h e = absurd (omega arith)
run-over-high (suc n) (b ∷ l) h e = go (low b) refl e (run-over-high n l (omega arith))
  where
    go : (t : Bool) → low b ≡ t → (t || some_low (take n l)) ≡ false → (some_low (take n l) ≡ false → run (spaced false) l ≡ n + run (spaced false) (drop n l))
        → cond (spaced false b) (suc (run (spaced false) l)) 0 ≡ suc n + run (spaced false) (drop n l)
    go true q f r = absurd (true≢false f)
    go false q f r = rw (high_word b q) (omega (arith, r f))

-- the same at an offset
pub word-goes-on : (l : List ℕ) (i n : ℕ) → i + n ≤ length l → any_low n (drop i l) ≡ false
    → i + n + run (spaced false) (drop (i + n) l) ≡ i + run (spaced false) (drop i l)
word-goes-on l i n h e =
    let r = run-over-high n (drop i l) (omega (arith, length-drop i l)) e in
    omega (arith, r, ap (run (spaced false)) (drop-drop n i l))
