-- The shift-and search. After i bytes of a text bit j of the state says whether the primer's first j + 1 letters fit the last j + 1 of
-- these bytes. The mask of a byte says which of the primer's letters it fits.
use Prim.Native.Nat.{ℕ, zero, suc, ◌+◌, ◌-◌, ◌*◌, ◌^◌, ◌≤◌, ◌<◌}
use Rattle.std.specs.Prelude.{◌≡◌, Bool, cond, ◌&&◌, List, [], ◌∷◌, ◌++◌, take, drop, get_or, Some, None}
use Rattle.std.proofs.Math.Path.{refl, sym}
use Rattle.std.proofs.Common.{ap, ◌∙◌, true≢false, lt_of_lt_of_le, pow-suc, pow_mono, add-one, take-suc, take_all}
use Rattle.std.proofs.Math.Bool.{true, false}
use native.Mathlib.Omega.{arith}
use Rattle.std.specs.Int.Bits.{bit_and, bit_or, or_add_and}
use Rattle.std.proofs.lemmas.Nat.{and_le_l, and_le_r}
use Rattle.std.proofs.Math.Dec.{ltb}
use borrow.Author.Tests.{ltb-true, ltb-false}
use Rattle.std.proofs.Math.ListN.{length, length-drop}
use Rattle.std.proofs.Math.Seq.{drop-length, drop-cons, get_or-drop, length-take-le}
use Rattle.letters.specs.Letters.{set_of}
use Rattle.letters.specs.Sets.{bit, bit-lt, inside}
use Rattle.primer.specs.Search.{fits, matches, first_from, first_of}
use Rattle.primer.specs.Bits.{number, shifted, number_lt, step-number, top_set, top-clear}

unfoldable pub live : List ℕ → List ℕ → ℕ → ℕ → Bool
live ps s zero j = false
live ps s (suc i) j = shifted (live ps s i) j && fits (get_or ps j 0) (get_or s i 0)

-- the mask of a byte: bit j is set if it fits letter j
unfoldable pub mask_of : List ℕ → ℕ → ℕ
mask_of [] b = 0
mask_of (p ∷ ps) b = mask_of ps b * 2 + bit (fits p b)

-- the same by the byte's set
unfoldable pub mask_by : List ℕ → ℕ → ℕ
mask_by [] t = 0
mask_by (p ∷ ps) t = mask_by ps t * 2 + bit (inside t (set_of p))

pub mask-by : (ps : List ℕ) (b : ℕ) → mask_by ps (set_of b) ≡ mask_of ps b
unfolding mask_by mask_of fits
mask-by [] b = refl
mask-by (p ∷ ps) b = ap (λ (x : ℕ). x * 2 + bit (inside (set_of b) (set_of p))) (mask-by ps b)

pub mask-by-empty : (ps : List ℕ) → mask_by ps 0 ≡ 0
unfolding mask_by inside
mask-by-empty [] = refl
mask-by-empty (p ∷ ps) = rw (mask-by-empty ps)

pub mask-by-lt : (ps : List ℕ) (t : ℕ) → mask_by ps t < 2 ^ length ps
unfolding mask_by
mask-by-lt [] t = omega arith
mask-by-lt (p ∷ ps) t = rw (pow-suc 2 (length ps)) (omega (arith, mask-by-lt ps t, bit-lt (inside t (set_of p))))

pub mask-by-small : (ps : List ℕ) (t j : ℕ) → length ps ≤ 31 → mask_by (drop j ps) t < 2 ^ 31
mask-by-small ps t j h = lt_of_lt_of_le (mask-by-lt (drop j ps) t) (pow_mono {i = length (drop j ps)} {j = 31} (simp length-drop (omega arith)))

-- one letter more, from the back
pub mask-by-more : (ps : List ℕ) (t j n : ℕ) → n ≡ suc j → n ≤ length ps → mask_by (drop n ps) t * 2 + bit (inside t (set_of (get_or ps j 0))) ≡ mask_by (drop j ps) t
unfolding mask_by
mask-by-more ps t j n e h = let l : j < length ps = omega arith in rw (e, drop-cons ps j 0 l)

pub mask-by-none : (ps : List ℕ) (t : ℕ) → 0 ≡ mask_by (drop (length ps) ps) t
unfolding mask_by
mask-by-none ps t = rw (drop-length ps)

-- the state after i bytes
unfoldable pub state_of : List ℕ → List ℕ → ℕ → ℕ
state_of ps s i = number (live ps s i) (length ps)

-- ---- the state's steps

mask-number : (ps : List ℕ) (b : ℕ) → mask_of ps b ≡ number (λ j. fits (get_or ps j 0) b) (length ps)
unfolding mask_of number
mask-number [] b = refl
mask-number (p ∷ ps) b = ap (λ (x : ℕ). x * 2 + bit (fits p b)) (mask-number ps b)

number-none : (m : ℕ) → number (λ j. false) m ≡ 0
unfolding number
number-none zero = refl
number-none (suc m) = rw (number-none m)

pub state-none : (ps s : List ℕ) → 0 ≡ state_of ps s 0
unfolding state_of live
state-none ps s = sym (number-none (length ps))

pub state-step : (ps s : List ℕ) (i : ℕ) → bit_and (state_of ps s i * 2 + 1) (mask_of ps (get_or s i 0)) ≡ state_of ps s (suc i)
unfolding state_of live
state-step ps s i = rw (mask-number ps (get_or s i 0)) (step-number (live ps s i) (λ j. fits (get_or ps j 0) (get_or s i 0)) (length ps))

pub state-lt : (ps s : List ℕ) (i : ℕ) → state_of ps s i < 2 ^ length ps
unfolding state_of
state-lt ps s i = number_lt (live ps s i) (length ps)

pub state-small : (ps s : List ℕ) (i : ℕ) → length ps ≤ 31 → state_of ps s i < 2 ^ 31
state-small ps s i h = lt_of_lt_of_le (state-lt ps s i) (pow_mono h)

-- ---- what the highest bit says

snoc : (qs : List ℕ) (q : ℕ) (t : List ℕ) → length qs < length t → matches (qs ++ (q ∷ [])) t ≡ (matches qs t && fits q (get_or t (length qs) 0))
unfolding matches
snoc [] q [] h = absurd (omega arith)
snoc [] q (b ∷ t) h = go (fits q b)
  where
    go : (x : Bool) → (x && true) ≡ x
    go true = refl
    go false = refl
snoc (p ∷ qs) q [] h = absurd (omega arith)
snoc (p ∷ qs) q (b ∷ t) h = rw (snoc qs q t (omega arith)) (go (fits p b))
  where
    go : (x : Bool) → (x && (matches qs t && fits q (get_or t (length qs) 0))) ≡ ((x && matches qs t) && fits q (get_or t (length qs) 0))
    go true = refl
    go false = refl

too_short : (ps s : List ℕ) → length s < length ps → matches ps s ≡ false
unfolding matches
too_short [] s h = absurd (omega arith)
too_short (p ∷ ps) [] h = refl
too_short (p ∷ ps) (b ∷ s) h = rw (too_short ps s (omega arith)) (go (fits p b))
  where
    go : (x : Bool) → (x && false) ≡ false
    go true = refl
    go false = refl

none-short : (ps : List ℕ) (at : ℕ) (s : List ℕ) → length s < length ps → first_from ps at s ≡ None
unfolding first_from
none-short ps at [] h = refl
none-short ps at (b ∷ s) h = rw (too_short ps (b ∷ s) h) (none-short ps (suc at) s (omega arith))

module _ (ps s : List ℕ) where
  early : (i j : ℕ) → i ≤ j → live ps s i j ≡ false
  unfolding live
  early zero j h = refl
  early (suc i) zero h = absurd (omega arith)
  early (suc i) (suc j) h = rw (early i j (omega arith))

  fitting : (j k i : ℕ) → i ≡ k + j → j < length ps → i < length s → live ps s (suc i) j ≡ matches (take (suc j) ps) (drop k s)
  unfolding live matches
  fitting zero k i e hp hs =
      let q : i ≡ k = omega arith in
      rw (take-suc ps 0 0 hp, drop-cons s k 0 (omega arith), q) (go (fits (get_or ps 0 0) (get_or s k 0)))
    where
      go : (x : Bool) → x ≡ (x && true)
      go true = refl
      go false = refl
  fitting (suc j) k zero e hp hs = absurd (omega arith)
  fitting (suc j) k (suc i) e hp hs =
      let q : k + suc j ≡ suc i = omega arith in
      let ih : live ps s (suc i) j ≡ matches (take (suc j) ps) (drop k s) = fitting j k i (omega arith) (omega arith) (omega arith) in
      let n : length (take (suc j) ps) ≡ suc j = length-take-le (suc j) ps (omega arith) in
      let m : length (drop k s) ≡ length s - k = length-drop k s in
      rw (take-suc ps (suc j) 0 hp, snoc (take (suc j) ps) (get_or ps (suc j) 0) (drop k s) (omega arith), n, get_or-drop k s (suc j) 0, q, ← ih)

  -- the first place that the first i bytes leave open: no place before it has the primer
  unfoldable pub Passed : ℕ → Type 0
  Passed i = first_from ps (suc i - length ps) (drop (suc i - length ps) s) ≡ first_of ps s

  pub passed_none : 1 ≤ length ps → Passed 0
  unfolding Passed first_of
  passed_none h = let z : 1 - length ps ≡ 0 = omega arith in rw z

  pub passed-all : 1 ≤ length ps → Passed (length s) → None ≡ first_of ps s
  unfolding Passed
  passed-all h inv =
      let a = suc (length s) - length ps in
      sym (none-short ps a (drop a s) (simp length-drop (omega arith))) ∙ inv

  module _ (k i : ℕ) (e : length ps ≡ suc k) (h : i < length s) (inv : Passed i) where
    -- the highest bit decides the open place
    whole : k ≤ i → live ps s (suc i) k ≡ matches ps (drop (suc i - length ps) s)
    whole l =
        let q : suc i - length ps ≡ i - k = omega arith in
        rw q (rw (take_all (suc k) ps (omega arith)) at (fitting k (i - k) i (omega arith) (omega arith) h))

    is_set : 2 ^ k ≤ state_of ps s (suc i) → live ps s (suc i) k ≡ true
    unfolding state_of
    is_set t = go (live ps s (suc i) k) refl
      where
        go : (x : Bool) → live ps s (suc i) k ≡ x → live ps s (suc i) k ≡ true
        go true q = q
        go false q = absurd (omega (arith, top-clear (live ps s (suc i)) k q, rw e at t))

    is-clear : state_of ps s (suc i) < 2 ^ k → live ps s (suc i) k ≡ false
    unfolding state_of
    is-clear t = go (live ps s (suc i) k) refl
      where
        go : (x : Bool) → live ps s (suc i) k ≡ x → live ps s (suc i) k ≡ false
        go true q = absurd (omega (arith, top_set (live ps s (suc i)) k q, rw e at t))
        go false q = q

    at_least : live ps s (suc i) k ≡ true → k ≤ i
    at_least q = go (ltb i k) refl
      where
        go : (x : Bool) → ltb i k ≡ x → k ≤ i
        go true r = absurd (true≢false (sym q ∙ early (suc i) k (ltb-true i k r)))
        go false r = ltb-false i k r

    open-place : k ≤ i → first_from ps (suc i - length ps) (drop (suc i - length ps) s)
        ≡ cond (live ps s (suc i) k) (Some (suc i - length ps)) (first_from ps (suc (suc i - length ps)) (drop (suc (suc i - length ps)) s))
    unfolding first_from
    open-place l =
        let w = whole l in
        let d = drop-cons s (suc i - length ps) 0 (omega arith) in
        rw (w, d)

    pub passed-found : 2 ^ k ≤ state_of ps s (suc i) → (length ps ≤ suc i) × (Some (suc i - length ps) ≡ first_of ps s)
    unfolding Passed
    passed-found t =
        let q = is_set t in
        let l : k ≤ i = at_least q in
        (omega arith, sym (rw q at (open-place l)) ∙ inv)

    pub passed-more : state_of ps s (suc i) < 2 ^ k → Passed (suc i)
    unfolding Passed
    passed-more t = go (ltb i k) refl
      where
        go : (x : Bool) → ltb i k ≡ x → Passed (suc i)
        go true r =
            let l : i < k = ltb-true i k r in
            let z : suc (suc i) - length ps ≡ suc i - length ps = omega arith in
            rw z inv
        go false r =
            let l : k ≤ i = ltb-false i k r in
            let z : suc (suc i) - length ps ≡ suc (suc i - length ps) = omega arith in
            rw z (sym (rw (is-clear t) at (open-place l)) ∙ inv)

-- the masks are the primer's, and the state is that of the first i bytes
pub record Reading (ps s ms : List ℕ) (i d : ℕ) : Type 0 where
  pub letters : 1 ≤ length ps
  pub fewer : length ps ≤ 31
  pub within : i ≤ length s
  pub masks : (b : ℕ) → b < 256 → get_or ms b 0 ≡ mask_of ps b
  pub state : d ≡ state_of ps s i

pub small : (ps s ms : List ℕ) (i d : ℕ) → Reading ps s ms i d → d < 2 ^ 31
small ps s ms i d h = rw h.state (state-small ps s i h.fewer)

-- one byte more
module _ (ps s ms : List ℕ) (i d : ℕ) (h : Reading ps s ms i d) (l : i < length s) (byte : get_or s i 0 < 256) where
  pub stepped : bit_and (d * 2 + 1) (get_or ms (get_or s i 0) 0) ≡ state_of ps s (i + 1)
  stepped = rw (h.masks (get_or s i 0) byte, h.state, add-one i) (state-step ps s i)

  pub reading : Reading ps s ms (i + 1) (bit_and (d * 2 + 1) (get_or ms (get_or s i 0) 0))
  reading = record { letters = h.letters; fewer = h.fewer; within = omega arith; masks = h.masks; state = stepped }

  pub onward : Passed ps s i → bit_and (d * 2 + 1) (get_or ms (get_or s i 0) 0) < 2 ^ (length ps - 1) → Passed ps s (i + 1)
  onward p t = rw (add-one i) (passed-more ps s (length ps - 1) i (omega (arith, h.letters)) l p (rw (stepped, add-one i) at t))

  pub found : Passed ps s i → 2 ^ (length ps - 1) ≤ bit_and (d * 2 + 1) (get_or ms (get_or s i 0) 0) → (length ps ≤ i + 1) × (Some (i + 1 - length ps) ≡ first_of ps s)
  found p t = rw (add-one i) (passed-found ps s (length ps - 1) i (omega (arith, h.letters)) l p (rw (stepped, add-one i) at t))

pub or_left : (a b : ℕ) → a ≤ bit_or a b
or_left a b = omega (arith, or_add_and a b, and_le_r a b)

pub or_right : (a b : ℕ) → b ≤ bit_or a b
or_right a b = omega (arith, or_add_and a b, and_le_l a b)

-- a search begins
pub begins : (ps s ms : List ℕ) → 1 ≤ length ps → length ps ≤ 31 → ((b : ℕ) → b < 256 → get_or ms b 0 ≡ mask_of ps b) → Reading ps s ms 0 0 × Passed ps s 0
begins ps s ms l f m = (record { letters = l; fewer = f; within = omega arith; masks = m; state = state-none ps s }, passed_none ps s l)
