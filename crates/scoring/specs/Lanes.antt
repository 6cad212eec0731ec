-- Places in blocks of 32, and the lanes across them: lane l has the places l, 32 + l, 64 + l and so on.
use Rattle.std.specs.Prelude.{ℕ, zero, suc, ◌+◌, ◌*◌, ◌^◌, ◌≤◌, ◌<◌, ◌≡◌, refl, Bool, true, false, List, T, eqb, length, get_or, set}
use Rattle.std.proofs.Common.{ap, ◌∙◌, add-zero, add-suc, pow-suc, add-one, arith, eqb→eq, pow_mono, length-set, get_or-set_same, get_or-set_other, eqb-true}
use Rattle.scoring.specs.RuleLaws.{holds, holds_at}
use Rattle.std.proofs.lemmas.Bool.{eqb-false}
use Rattle.letters.specs.Sets.{bit, bit-lt}
use Rattle.scoring.specs.Places.{count_below}
use Rattle.scoring.specs.Counting.{Counted, count-rise}

-- the places of lane l in n blocks from q on that pass a test, the first with the weight 1, each next one with w times that of the one before:
-- by 1 their number, by 2 a bit for each
unfoldable pub weigh : (ℕ → Bool) → ℕ → ℕ → ℕ → ℕ → ℕ
weigh f w q zero l = 0
weigh f w q (suc n) l = bit (f (q + l)) + w * weigh f w (q + 32) n l

unfoldable pub sum_to : (ℕ → ℕ) → ℕ → ℕ
sum_to f zero = 0
sum_to f (suc n) = sum_to f n + f n

-- 32 lanes hold this
unfoldable pub IsLanes : (ℕ → Bool) → ℕ → ℕ → ℕ → List ℕ → Type 0
IsLanes f w q n a = (i : ℕ) → i < 32 → get_or a i 0 ≡ weigh f w q n i

pub lane : (f : ℕ → Bool) (w q n : ℕ) (a : List ℕ) → IsLanes f w q n a → (i : ℕ) → i < 32 → get_or a i 0 ≡ weigh f w q n i
unfolding IsLanes
lane f w q n a h = h

-- no blocks yet
pub lanes-none : (f : ℕ → Bool) (w q n : ℕ) (a : List ℕ) → n ≡ 0 → T (holds (λ i. eqb (get_or a i 0) 0) 32) → IsLanes f w q n a
unfolding IsLanes weigh
lanes-none f w q n a e t = λ i h. rw e (eqb→eq (get_or a i 0) 0 (holds_at (λ i. eqb (get_or a i 0) 0) 32 t i h))

pub weigh-most : (f : ℕ → Bool) (q n l : ℕ) → weigh f 1 q n l ≤ n
unfolding weigh
weigh-most f q zero l = omega arith
weigh-most f q (suc n) l = omega (arith, weigh-most f (q + 32) n l, bit-lt (f (q + l)))

weigh-pow : (f : ℕ → Bool) (q n l : ℕ) → weigh f 2 q n l < 2 ^ n
unfolding weigh
weigh-pow f q zero l = omega arith
weigh-pow f q (suc n) l = omega (arith, weigh-pow f (q + 32) n l, bit-lt (f (q + l)), pow-suc 2 n)

pub weigh-small : (f : ℕ → Bool) (q n l : ℕ) → n ≤ 7 → weigh f 2 q n l < 128
weigh-small f q n l h = let p : 2 ^ n ≤ 2 ^ 7 = pow_mono h in omega (arith, weigh-pow f q n l)

pub weigh-none : (q n l : ℕ) → weigh (λ p. false) 1 q n l ≡ 0
unfolding weigh
weigh-none q zero l = refl
weigh-none q (suc n) l = omega (arith, weigh-none (q + 32) n l)

-- ---- sums

pub sum-next : (f : ℕ → ℕ) (m n : ℕ) → n ≡ m + 1 → sum_to f n ≡ sum_to f m + f m
unfolding sum_to
sum-next f m n e = rw (e, add-one m)

pub sum-most : (f : ℕ → ℕ) (n : ℕ) → ((i : ℕ) → i < n → f i ≤ 7) → sum_to f n ≤ 7 * n
unfolding sum_to
sum-most f zero h = omega arith
sum-most f (suc n) h = omega (arith, sum-most f n (λ i p. h i (omega arith)), h n (omega arith))

pub sum-zero : (f : ℕ → ℕ) → ((l : ℕ) → f l ≡ 0) → (m : ℕ) → sum_to f m ≡ 0
unfolding sum_to
sum-zero f h zero = refl
sum-zero f h (suc m) = omega (arith, sum-zero f h m, h m)

sum_both : (f g : ℕ → ℕ) (m : ℕ) → sum_to (λ l. f l + 1 * g l) m ≡ sum_to f m + sum_to g m
unfolding sum_to
sum_both f g zero = refl
sum_both f g (suc m) = omega (arith, sum_both f g m)

-- ---- all lanes are all places

pub row : (f : ℕ → Bool) (q m : ℕ) → count_below f q + sum_to (λ l. bit (f (q + l))) m ≡ count_below f (q + m)
unfolding count_below sum_to
row f q zero = rw (add-zero q) (omega arith)
row f q (suc m) = rw (add-suc q m) (omega (arith, row f q m))

grid : (f : ℕ → Bool) (q n : ℕ) → count_below f q + sum_to (weigh f 1 q n) 32 ≡ count_below f (q + 32 * n)
unfolding weigh
grid f q zero = let e : q + 32 * 0 ≡ q = omega arith in rw e (omega (arith, sum-zero (weigh f 1 q 0) (λ l. refl) 32))
grid f q (suc n) =
    let e : q + 32 * suc n ≡ q + 32 + 32 * n = omega arith in
    rw e (omega (arith, sum_both (λ l. bit (f (q + l))) (weigh f 1 (q + 32) n) 32, row f q 32, grid f (q + 32) n))

pub counted-lanes : (f : ℕ → Bool) (at n r : ℕ) → r ≡ sum_to (weigh f 1 at n) 32 → Counted f at (32 * n) r
counted-lanes f at n r e = record { counts = omega (arith, grid f at n); most = omega (arith, grid f at n, count-rise f at (32 * n)) }

pub sum_same : (f g : ℕ → ℕ) (m : ℕ) → ((i : ℕ) → i < m → f i ≡ g i) → sum_to f m ≡ sum_to g m
unfolding sum_to
sum_same f g zero h = refl
sum_same f g (suc m) h = omega (arith, sum_same f g m (λ i p. h i (omega arith)), h m (omega arith))

-- what the lanes have, by 1
pub lanes-most : (f : ℕ → Bool) (q n : ℕ) (a : List ℕ) → n ≤ 7 → IsLanes f 1 q n a → (i : ℕ) → i < 32 → get_or a i 0 ≤ 7
lanes-most f q n a h e i p = rw (lane f 1 q n a e i p) (omega (arith, weigh-most f q n i))

pub counted-total : (f : ℕ → Bool) (at n r : ℕ) (a : List ℕ) → IsLanes f 1 at n a → r ≡ sum_to (λ i. get_or a i 0) 32 → Counted f at (32 * n) r
counted-total f at n r a h e = counted-lanes f at n r (e ∙ sum_same (λ i. get_or a i 0) (weigh f 1 at n) 32 (lane f 1 at n a h))

-- ---- a block more, in front, lane by lane

-- the first l lanes have it, the others not yet
pub record Stepping (f : ℕ → Bool) (w q n l : ℕ) (a : List ℕ) : Type 0 where
  pub long : length a ≡ 32
  pub done : (i : ℕ) → i < l → get_or a i 0 ≡ weigh f w q (n + 1) i
  pub left : (i : ℕ) → l ≤ i → i < 32 → get_or a i 0 ≡ weigh f w (q + 32) n i

pub step_start : (f : ℕ → Bool) (w q n : ℕ) (a : List ℕ) → length a ≡ 32 → IsLanes f w (q + 32) n a → Stepping f w q n 0 a
step_start f w q n a e h = record { long = e; done = λ i p. absurd (omega arith); left = λ i p k. lane f w (q + 32) n a h i k }

pub step_end : (f : ℕ → Bool) (w q n : ℕ) (a : List ℕ) → Stepping f w q n 32 a → IsLanes f w q (n + 1) a
unfolding IsLanes
step_end f w q n a s = λ i p. s.done i p

pub step-more : (f : ℕ → Bool) (w q n l v : ℕ) (a : List ℕ) → Stepping f w q n l a → l < 32 → v ≡ bit (f (q + l)) + w * get_or a l 0 → Stepping f w q n (l + 1) (set a l v)
unfolding weigh
step-more f w q n l v a s h e = record { long = length-set a l v ∙ s.long; done = done; left = left }
  where
    done : (i : ℕ) → i < l + 1 → get_or (set a l v) i 0 ≡ weigh f w q (n + 1) i
    done i p = go (eqb i l) refl
      where
        go : (t : Bool) → eqb i l ≡ t → get_or (set a l v) i 0 ≡ weigh f w q (n + 1) i
        go true t = rw (eqb-true i l t, add-one n) (get_or-set_same a l v 0 (omega (arith, s.long)) ∙ e ∙ ap (λ (x : ℕ). bit (f (q + l)) + w * x) (s.left l (omega arith) h))
        go false t = let z : i ≡ l → ⊥ = eqb-false i l t in get_or-set_other a l i v 0 z ∙ s.done i (omega arith)

    left : (i : ℕ) → l + 1 ≤ i → i < 32 → get_or (set a l v) i 0 ≡ weigh f w (q + 32) n i
    left i p k = get_or-set_other a l i v 0 (λ z. absurd (omega arith)) ∙ s.left i (omega arith) k
