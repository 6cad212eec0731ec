-- Laws of counting.
use Rattle.std.specs.Prelude.{ℕ, zero, suc, ◌+◌, ◌-◌, ◌≤◌, ◌<◌, ◌≡◌, refl, Bool, true, false, not, List, ltb, get_or}
use Rattle.std.proofs.Common.{sym, ap, add-zero, add-suc, zero-add, add-one, arith, ltb-true, ltb-false}
use Rattle.letters.specs.Sets.{bit, bit-lt}
use Rattle.scoring.specs.Places.{count_below}

pub count-le : (f : ℕ → Bool) (n : ℕ) → count_below f n ≤ n
unfolding count_below
count-le f zero = omega arith
count-le f (suc n) = omega (arith, count-le f n, bit-lt (f n))

pub count-more : (f : ℕ → Bool) (n : ℕ) → count_below f (n + 1) ≡ count_below f n + bit (f n)
unfolding count_below
count-more f n = rw (add-one n)

pub count_none : (f : ℕ → Bool) → count_below f 0 ≡ 0
unfolding count_below
count_none f = refl

-- equal tests have equal counts
pub count_same : (f g : ℕ → Bool) (n : ℕ) → ((p : ℕ) → p < n → f p ≡ g p) → count_below f n ≡ count_below g n
unfolding count_below
count_same f g zero h = refl
count_same f g (suc n) h = rw (h n (omega arith), count_same f g n (λ p q. h p (omega arith)))

-- a weaker test counts no less
implied : (a b : Bool) → (a ≡ true → b ≡ true) → bit a ≤ bit b
implied true b h = rw (h refl) (omega arith)
implied false b h = omega arith

pub count-mono : (f g : ℕ → Bool) (n : ℕ) → ((p : ℕ) → p < n → f p ≡ true → g p ≡ true) → count_below f n ≤ count_below g n
unfolding count_below
count-mono f g zero h = omega arith
count-mono f g (suc n) h = omega (arith, count-mono f g n (λ p q. h p (omega arith)), implied (f n) (g n) (h n (omega arith)))

-- a test that fails from a place on
pub count-stops : (f : ℕ → Bool) (n d : ℕ) → ((p : ℕ) → n ≤ p → f p ≡ false) → count_below f (n + d) ≡ count_below f n
unfolding count_below
count-stops f n zero h = rw add-zero
count-stops f n (suc d) h = rw (add-suc n d, h (n + d) (omega arith)) (omega (arith, count-stops f n d h))

-- two tests, of which at each place one holds where a third does
pub count-two : (f g h : ℕ → Bool) (n : ℕ) → ((p : ℕ) → bit (f p) + bit (g p) ≡ bit (h p)) → count_below f n + count_below g n ≡ count_below h n
unfolding count_below
count-two f g h zero e = refl
count-two f g h (suc n) e = omega (arith, count-two f g h n e, e n)

-- three tests, of which at each place one holds
pub count-three : (f g h : ℕ → Bool) (n : ℕ) → ((p : ℕ) → bit (f p) + bit (g p) + bit (h p) ≡ 1) → count_below f n + count_below g n + count_below h n ≡ n
unfolding count_below
count-three f g h zero e = omega arith
count-three f g h (suc n) e = omega (arith, count-three f g h n e, e n)

-- ---- a part of the places

-- r of the n places from `at` on pass a test
pub record Counted (f : ℕ → Bool) (at n r : ℕ) : Type 0 where
  pub counts : count_below f at + r ≡ count_below f (at + n)
  pub most : r ≤ n

pub counted_none : (f : ℕ → Bool) (at : ℕ) → Counted f at 0 0
counted_none f at = record { counts = rw (add-zero at) (omega arith); most = omega arith }

pub counted-more : (f : ℕ → Bool) (at n r b : ℕ) → Counted f at n r → b ≡ bit (f (at + n)) → Counted f at (n + 1) (r + b)
counted-more f at n r b c e =
    let q : at + (n + 1) ≡ at + n + 1 = omega arith in
    record { counts = rw q (omega (arith, c.counts, count-more f (at + n))); most = omega (arith, c.most, bit-lt (f (at + n))) }

-- as many as there are places are all
pub counted-full : (f : ℕ → Bool) (at n r : ℕ) → Counted f at n r → n ≤ r → Counted f at n n
counted-full f at n r c h = let q : r ≡ n = omega (arith, c.most) in rw q at c

pub counted-join : (f : ℕ → Bool) (at m n r s : ℕ) → Counted f at m r → Counted f (at + m) n s → Counted f at (m + n) (r + s)
counted-join f at m n r s c d =
    let q : at + (m + n) ≡ at + m + n = omega arith in
    record { counts = rw q (omega (arith, c.counts, d.counts)); most = omega (arith, c.most, d.most) }

pub count-rise : (f : ℕ → Bool) (a d : ℕ) → count_below f (a + d) ≤ count_below f a + d
unfolding count_below
count-rise f a zero = rw (add-zero a) (omega arith)
count-rise f a (suc d) = rw (add-suc a d) (omega (arith, count-rise f a d, bit-lt (f (a + d))))

-- where all pass a test, two others that agree there count the same
count-as : (f g h : ℕ → Bool) (at n : ℕ) → ((p : ℕ) → h p ≡ true → g p ≡ f p) → count_below h at + n ≡ count_below h (at + n)
    → count_below g (at + n) + count_below f at ≡ count_below g at + count_below f (at + n)
unfolding count_below
count-as f g h at zero e c = rw (add-zero at) (omega arith)
count-as f g h at (suc n) e c = rw (add-suc at n) (go (h (at + n)) refl (λ w. count-as f g h at n e w))
  where
    here : count_below h at + suc n ≡ count_below h (at + n) + bit (h (at + n))
    here = rw (add-suc at n) at c

    go : (t : Bool) → h (at + n) ≡ t → (count_below h at + n ≡ count_below h (at + n) → count_below g (at + n) + count_below f at ≡ count_below g at + count_below f (at + n))
        → count_below g (at + n) + bit (g (at + n)) + count_below f at ≡ count_below g at + (count_below f (at + n) + bit (f (at + n)))
    go true p more =
        let w : count_below h at + n ≡ count_below h (at + n) = omega (arith, count-rise h at n, here, ap bit p) in
        omega (arith, more w, ap bit (e (at + n) p))
    go false p more = absurd (omega (arith, count-rise h at n, here, ap bit p))

pub counted-as : (f g h : ℕ → Bool) (at n r : ℕ) → ((p : ℕ) → h p ≡ true → g p ≡ f p) → Counted h at n n → Counted f at n r → Counted g at n r
counted-as f g h at n r e d c = record { counts = omega (arith, count-as f g h at n e d.counts, c.counts); most = c.most }

-- ---- the places of a key and what was typed

unfoldable pub agrees : (ℕ → ℕ → Bool) → List ℕ → List ℕ → ℕ → Bool
agrees rule key typed p = rule (get_or key p 0) (get_or typed p 0)

-- where a look tells all places, what it takes for right is right by the rule
pub counted-sound : (look rule tells : ℕ → ℕ → Bool) → ((k t : ℕ) → tells k t ≡ true → look k t ≡ rule k t)
    → (key typed : List ℕ) (at n r : ℕ) → Counted (agrees tells key typed) at n n → Counted (agrees look key typed) at n r → Counted (agrees rule key typed) at n r
unfolding agrees
counted-sound look rule tells e key typed at n r =
    counted-as (agrees look key typed) (agrees rule key typed) (agrees tells key typed) at n r (λ p h. sym (e (get_or key p 0) (get_or typed p 0) h))

pub counted-front : (f : ℕ → Bool) (n r : ℕ) → Counted f 0 n r → r ≡ count_below f n
counted-front f n r c = omega (arith, rw (zero-add n) at c.counts, count_none f)

pub counted-onward : (f : ℕ → Bool) (i n r s : ℕ) → Counted f 0 i r → Counted f i n s → Counted f 0 (i + n) (r + s)
counted-onward f i n r s c d = counted-join f 0 i n r s c (rw (zero-add i) d)

-- how many numbers below b are not below a
pub count_past : (a b : ℕ) → count_below (λ p. not (ltb p a)) b ≡ b - a
unfolding count_below
count_past a zero = omega arith
count_past a (suc b) = go (ltb b a) refl (count_past a b)
  where
    go : (t : Bool) → ltb b a ≡ t → count_below (λ p. not (ltb p a)) b ≡ b - a → count_below (λ p. not (ltb p a)) b + bit (not t) ≡ suc b - a
    go true e h = omega (arith, ltb-true b a e)
    go false e h = omega (arith, ltb-false b a e)
