-- Laws of parts. Each line of a region begins and ends further on than the line before, even if lines overlap. So the lowest base is the first
-- of the region or the first of its second line, and the highest is the last of the region or the last of the line before.
use Prim.Native.Nat.{ℕ, zero, suc, ◌+◌, ◌-◌, ◌*◌, ◌/◌, ◌%◌, ◌≤◌, ◌<◌, min, max}
use Rattle.std.proofs.Math.Path.{◌≡◌, refl}
use Rattle.std.proofs.Common.{ap, sym, ◌∙◌, le-div_iff_mul-le, mul-le-mul_right, add-mul, one-mul}
use mathlib.Core.List.{List, [], ◌∷◌}
use Rattle.std.specs.Prelude.{Bool, ◌&&◌, get_or}
use Rattle.std.proofs.Math.Bool.{true, false, cond}
use Rattle.std.proofs.Math.ListN.{length}
use Rattle.std.proofs.Math.Dec.{ltb, leb}
use borrow.Author.Tests.{ltb-true, ltb-false, leb-true, lt-ltb, le-ltb, lt-leb, le-leb}
use native.Mathlib.Omega.{arith}
use Rattle.std.proofs.Math.Nat.{mod-lt, div-add-mod'}
use Rattle.std.proofs.Math.Arith.{digits_mod}
use Rattle.record.specs.declared.Record.{Record}
use Rattle.record.specs.Place.{place_of, places_from, place_in}
use Rattle.record.specs.Laws.{place-run, get_or-places}
use Rattle.region.specs.Exact.{offsets_of, in_file}
use Rattle.region.specs.Inside.{length-offsets, Addressable}
use Rattle.region.specs.Copy.{wrap-column}
use Rattle.region.specs.Part.{is_in, in_part, lowest, behind, LieIn}

-- ---- one offset

module _ (f t o : ℕ) where
  pub is-in : f ≤ o → o < t → is_in f t o ≡ true
  unfolding is_in
  is-in h k = rw (le-leb _ _ h, lt-ltb _ _ k)

  pub is_below : o < f → is_in f t o ≡ false
  unfolding is_in
  is_below h = rw (lt-leb _ _ h)

  pub is-past : t ≤ o → is_in f t o ≡ false
  unfolding is_in
  is-past h = go (leb f o)
    where
      go : (b : Bool) → (b && ltb o t) ≡ false
      go true = rw (le-ltb _ _ h)
      go false = refl

  -- one that is not below f
  pub is-from : f ≤ o → ltb o t ≡ is_in f t o
  unfolding is_in
  is-from h = rw (le-leb _ _ h)

  pub in-known : is_in f t o ≡ true → (f ≤ o) × (o < t)
  unfolding is_in
  in-known h = go (leb f o) refl (ltb o t) refl h
    where
      go : (b : Bool) → leb f o ≡ b → (c : Bool) → ltb o t ≡ c → (b && c) ≡ true → (f ≤ o) × (o < t)
      go true p true q e = (leb-true _ _ p, ltb-true _ _ q)
      go true p false q e = let z : ◌≡◌ {A = ℕ} 0 1 = cc in absurd (omega arith)
      go false p c q e = let z : ◌≡◌ {A = ℕ} 0 1 = cc in absurd (omega arith)

-- ---- some offsets

module _ (f t : ℕ) where
  pub part-le : (os : List ℕ) → in_part f t os ≤ length os
  unfolding in_part
  part-le [] = omega arith
  part-le (o ∷ os) = go (is_in f t o) (part-le os)
    where
      go : (b : Bool) → in_part f t os ≤ length os → cond b (suc (in_part f t os)) 0 ≤ suc (length os)
      go true h = omega arith
      go false h = omega arith

  -- those before the first that is not in the part are
  pub part-before : (os : List ℕ) (k : ℕ) → k < in_part f t os → is_in f t (get_or os k 0) ≡ true
  unfolding in_part
  part-before [] k h = absurd (omega arith)
  part-before (o ∷ os) k h = go (is_in f t o) refl k h (part-before os)
    where
      go : (b : Bool) → is_in f t o ≡ b → (k : ℕ) → k < cond b (suc (in_part f t os)) 0 → ((k : ℕ) → k < in_part f t os → is_in f t (get_or os k 0) ≡ true) → is_in f t (get_or (o ∷ os) k 0) ≡ true
      go true e zero h r = e
      go true e (suc k) h r = r k (omega arith)
      go false e k h r = absurd (omega arith)

  -- and it is not
  pub part-first : (os : List ℕ) → in_part f t os < length os → is_in f t (get_or os (in_part f t os) 0) ≡ false
  unfolding in_part
  part-first [] h = absurd (omega arith)
  part-first (o ∷ os) h = go (is_in f t o) refl h (part-first os)
    where
      go : (b : Bool) → is_in f t o ≡ b → cond b (suc (in_part f t os)) 0 < suc (length os) → (in_part f t os < length os → is_in f t (get_or os (in_part f t os) 0) ≡ false)
          → is_in f t (get_or (o ∷ os) (cond b (suc (in_part f t os)) 0) 0) ≡ false
      go true e h r = r (omega arith)
      go false e h r = e

  -- one that is not in the part
  pub part-stops : (os : List ℕ) (k : ℕ) → is_in f t (get_or os k 0) ≡ false → in_part f t os ≤ k
  part-stops os k h = go (ltb k (in_part f t os)) refl
    where
      go : (b : Bool) → ltb k (in_part f t os) ≡ b → in_part f t os ≤ k
      go true e = let q = part-before os k (ltb-true _ _ e) in let z : ◌≡◌ {A = ℕ} 0 1 = cc in absurd (omega arith)
      go false e = ltb-false _ _ e

  -- all are
  pub part-every : (os : List ℕ) → ((k : ℕ) → k < length os → is_in f t (get_or os k 0) ≡ true) → in_part f t os ≡ length os
  unfolding in_part
  part-every [] h = refl
  part-every (o ∷ os) h = rw (h 0 (omega arith), part-every os (λ k m. h (suc k) (omega arith)))

-- offsets that lie alike in two parts
pub part_same : (f t f' t' : ℕ) (os : List ℕ) → ((k : ℕ) → k < length os → is_in f t (get_or os k 0) ≡ is_in f' t' (get_or os k 0)) → in_part f t os ≡ in_part f' t' os
unfolding in_part
part_same f t f' t' [] h = refl
part_same f t f' t' (o ∷ os) h = rw (h 0 (omega arith), part_same f t f' t' os (λ k m. h (suc k) (omega arith)))

-- a file is the part of it from 0 on
pub part-file : (bytes : ℕ) (os : List ℕ) → in_file bytes os ≡ in_part 0 bytes os
unfolding in_file in_part is_in
part-file bytes [] = refl
part-file bytes (o ∷ os) = rw (le-leb 0 o (omega arith), part-file bytes os)

-- of the first of some bases as many lie in it as of all, if that many are among them
pub part-fewer : (f t p b w i m n : ℕ) → m ≤ n → in_part f t (places_from p b w i m) ≡ min m (in_part f t (places_from p b w i n))
unfolding in_part places_from
part-fewer f t p b w i zero n h = omega arith
part-fewer f t p b w i (suc m) zero h = absurd (omega arith)
part-fewer f t p b w i (suc m) (suc n) h = go (is_in f t (place_of p b w i)) (part-fewer f t p b w (suc i) m n (omega arith))
  where
    go : (c : Bool) → in_part f t (places_from p b w (suc i) m) ≡ min m (in_part f t (places_from p b w (suc i) n))
        → cond c (suc (in_part f t (places_from p b w (suc i) m))) 0 ≡ min (suc m) (cond c (suc (in_part f t (places_from p b w (suc i) n))) 0)
    go true e = omega arith
    go false e = omega arith

-- ---- the bases of a region

module _ (x : Record) (a n : ℕ) (z : 0 < a) where
  pub base-offset : (k : ℕ) → k < n → get_or (offsets_of x a n) k 0 ≡ place_in x (a + k - 1)
  base-offset k h = get_or-places x.position.0 x.line_bases x.line_width (a - 1) n k h ∙ ap (place_in x) q
    where
      q : a - 1 + k ≡ a + k - 1
      q = omega arith

  pub base-place : (p : ℕ) → a ≤ p → p < a + n → get_or (offsets_of x a n) (p - a) 0 ≡ place_in x (p - 1)
  base-place p h k = base-offset (p - a) (omega arith) ∙ ap (λ (m : ℕ). place_in x (m - 1)) q
    where
      q : a + (p - a) ≡ p
      q = omega arith

  module _ (f t : ℕ) where
    -- all lie in a part if each does
    pub lie-all : LieIn f t x a n → in_part f t (offsets_of x a n) ≡ n
    lie-all l = part-every f t (offsets_of x a n) every ∙ length-offsets x a n
      where
        every : (k : ℕ) → k < length (offsets_of x a n) → is_in f t (get_or (offsets_of x a n) k 0) ≡ true
        every k m =
            let q : k < n = rw (length-offsets x a n) at m in
            let e = l.each (a + k) (omega arith) (omega arith) in
            rw (base-offset k q) (is-in f t _ e.0 e.1)

    pub all_lie : n ≤ in_part f t (offsets_of x a n) → LieIn f t x a n
    all_lie h = record { each = λ p l m. in-known f t _ (ap (is_in f t) (sym (base-place p l m)) ∙ part-before f t (offsets_of x a n) (p - a) (omega arith)) }

    -- not all do if one does not
    lie-not : (p : ℕ) → a ≤ p → p < a + n → is_in f t (place_in x (p - 1)) ≡ false → in_part f t (offsets_of x a n) < n
    lie-not p l m h = omega (arith, part-stops f t (offsets_of x a n) (p - a) (ap (is_in f t) (base-place p l m) ∙ h))

    pub not-all : (p : ℕ) → a ≤ p → p < a + n → is_in f t (place_in x (p - 1)) ≡ false → false ≡ leb n (in_part f t (offsets_of x a n))
    not-all p l m h = sym (lt-leb _ _ (lie-not p l m h))

-- as many as there are: all
pub count-all : (f t : ℕ) (x : Record) (a n : ℕ) → leb n (in_part f t (offsets_of x a n)) ≡ true → n ≡ in_part f t (offsets_of x a n)
count-all f t x a n h = omega (arith, leb-true n (in_part f t (offsets_of x a n)) h, part-le f t (offsets_of x a n), length-offsets x a n)

-- half of a distance of more than one step
pub half : (d : ℕ) → 1 < d → (0 < d / 2) × (d / 2 < d)
half d h = let two : 0 < 2 = omega arith in omega (arith, div-add-mod' d 2, mod-lt d two)

-- ---- the lowest and the highest

-- the first base of the second line of n bases from base a on; a if they are in one line
unfoldable pub second_line : Record → ℕ → ℕ → ℕ
second_line x a n = let run = min n (x.line_bases - (a - 1) % x.line_bases) in cond (ltb run n) (a + run) a

-- the last base of the line before that of base l, of n bases up to it; l if they are in one line
unfoldable pub line_before : Record → ℕ → ℕ → ℕ
line_before x l n = let run = min n ((l - 1) % x.line_bases + 1) in cond (ltb run n) (l - run) l

module _ (x : Record) where
  pub second_more : (a n run : ℕ) → run ≡ min n (x.line_bases - (a - 1) % x.line_bases) → run < n → a + run ≡ second_line x a n
  unfolding second_line
  second_more a n run e h = rw (← e, lt-ltb run n h)

  pub second-one : (a n run : ℕ) → run ≡ min n (x.line_bases - (a - 1) % x.line_bases) → n ≤ run → a ≡ second_line x a n
  unfolding second_line
  second-one a n run e h = rw (← e, le-ltb run n h)

  pub before_more : (l n run : ℕ) → run ≡ min n ((l - 1) % x.line_bases + 1) → run < n → l - run ≡ line_before x l n
  unfolding line_before
  before_more l n run e h = rw (← e, lt-ltb run n h)

  pub before-one : (l n run : ℕ) → run ≡ min n ((l - 1) % x.line_bases + 1) → n ≤ run → l ≡ line_before x l n
  unfolding line_before
  before-one l n run e h = rw (← e, le-ltb run n h)

module _ (p b w : ℕ) (z : 0 < b) where
  -- later bases are in later lines
  line-le : (i j : ℕ) → i ≤ j → i / b ≤ j / b
  line-le i j h = (le-div_iff_mul-le {k = b} {x = i / b} {y = j} z).1 (omega (arith, div-add-mod' i b))

  lines-le : (i j : ℕ) → i ≤ j → i / b * w ≤ j / b * w
  lines-le i j h = mul-le-mul_right w (line-le i j h)

  -- no base behind the first of a line lies before it
  pub from_front : (s j : ℕ) → s % b ≡ 0 → s ≤ j → place_of p b w s ≤ place_of p b w j
  unfolding place_of
  from_front s j e h = omega (arith, lines-le s j h)

  -- no base before the last of a line lies behind it
  pub to_back : (j t : ℕ) → t % b + 1 ≡ b → j ≤ t → place_of p b w j ≤ place_of p b w t
  unfolding place_of
  to_back j t e h = omega (arith, mod-lt j z, lines-le j t h)

  -- in a line later bases lie later
  pub in-one-line : (j l : ℕ) → j ≤ l → l / b ≤ j / b → place_of p b w j ≤ place_of p b w l
  unfolding place_of
  in-one-line j l h k =
      let e : l / b ≡ j / b = omega (arith, line-le j l h) in
      rw e (omega (arith, rw e at (div-add-mod' l b), div-add-mod' j b))

  -- where the line of base l begins, and the line before it ends
  before-sum : (l : ℕ) → 0 < l / b → l - (l % b + 1) ≡ (l / b - 1) * b + (b - 1)
  before-sum l h =
      let e : (l / b - 1) * b + b ≡ l / b * b = sym (ap (λ (m : ℕ). (l / b - 1) * b + m) (one-mul b)) ∙ sym (add-mul (l / b - 1) 1 b) ∙ ap (λ (m : ℕ). m * b) (back (l / b) h) in
      omega (arith, div-add-mod' l b)
    where
      back : (m : ℕ) → 0 < m → m - 1 + 1 ≡ m
      back m q = omega arith

  before-ends : (l : ℕ) → 0 < l / b → (l - (l % b + 1)) % b + 1 ≡ b
  before-ends l h = omega (arith, ap (λ (m : ℕ). m % b) (before-sum l h) ∙ digits_mod (l / b - 1) (less b z))
    where
      less : (m : ℕ) → 0 < m → m - 1 < m
      less m q = omega arith

  -- such a base has a line before it
  before-some : (l : ℕ) → 0 < l / b → l % b + 1 ≤ l
  before-some l h = omega (arith, div-add-mod' l b, mod-lt l z, mul-le-mul_right {m = 1} {n = l / b} b (omega arith), one-mul b)

  -- base j is in an earlier line than base l
  before-behind : (j l : ℕ) → j / b < l / b → j ≤ l - (l % b + 1)
  before-behind j l h = omega (arith, before-sum l (omega arith), mul-le-mul_right {m = j / b} {n = l / b - 1} b (omega arith), div-add-mod' j b, mod-lt j z)

less-trans : {i j m : ℕ} → j < m → i ≤ j → i < m
less-trans h k = omega arith

-- base p is in an earlier line than the last of n bases from base a on, which is number m of its line
over-less : (a n l p m : ℕ) → 0 < a → 0 < n → l ≡ a + (n - 1) → m ≤ l - 1 → a ≤ p → p - 1 ≤ l - 1 - m → min n m ≡ m
over-less a n l p m z y e h k q = let f : m < n = omega arith in omega (arith, f)

over-place : (a n l p m o g : ℕ) → 0 < a → 0 < n → l ≡ a + (n - 1) → m ≤ l - 1 → a ≤ p → p - 1 ≤ l - 1 - m → o ≡ m → (o < n → l - o ≡ g) → g - 1 ≡ l - 1 - m
over-place a n l p m o g z y e h k q v w = let f : o < n = omega arith in omega (arith, w f)

module _ (x : Record) (a n : ℕ) (r : Addressable x a n) where
  abbrev b : ℕ
  b = x.line_bases

  abbrev run : ℕ
  run = min n (b - (a - 1) % b)

  pub second-in : (a ≤ second_line x a n) × (second_line x a n < a + n)
  second-in = go (ltb run n) refl
    where
      go : (t : Bool) → ltb run n ≡ t → (a ≤ second_line x a n) × (second_line x a n < a + n)
      go true e = rw (← second_more x a n run refl (ltb-true _ _ e)) (omega (arith, ltb-true run n e))
      go false e = rw (← second-one x a n run refl (ltb-false _ _ e)) (omega (arith, r.some))

  -- what is below the first base and below the second line's first is below all
  pub lows : (m : ℕ) → m ≤ place_in x (a - 1) → m ≤ place_in x (second_line x a n - 1) → (p : ℕ) → a ≤ p → p < a + n → m ≤ place_in x (p - 1)
  lows m h k p l q = go (ltb (p - a) run) refl
    where
      back : a - 1 + (p - a) ≡ p - 1
      back = omega (arith, r.from_one)

      go : (t : Bool) → ltb (p - a) run ≡ t → m ≤ place_in x (p - 1)
      go true e =
          let f : p - a < run = ltb-true _ _ e in
          omega (arith, rw back at (place-run x.position.0 b x.line_width (a - 1) (p - a) (omega (arith, mod-lt (a - 1) r.some-bases))))
      go false e =
          let f : run ≤ p - a = ltb-false _ _ e in
          let s : second_line x a n ≡ a + run = sym (second_more x a n run refl (omega arith)) in
          let c : (a - 1 + run) % b ≡ 0 = wrap-column x.position.0 b x.line_width r.some-bases (a - 1) run (omega (arith, mod-lt (a - 1) r.some-bases)) in
          let o : a - 1 + run ≡ a + run - 1 = omega (arith, r.from_one) in
          omega (arith, rw s at k, from_front x.position.0 b x.line_width r.some-bases (a + run - 1) (p - 1) (rw o at c) (omega (arith, r.from_one)))

  -- and its last base
  module _ (l : ℕ) (last : l ≡ a + (n - 1)) where
    abbrev over : ℕ
    over = min n ((l - 1) % b + 1)

    pub before-in : (a ≤ line_before x l n) × (line_before x l n < a + n)
    before-in = go (ltb over n) refl
      where
        go : (t : Bool) → ltb over n ≡ t → (a ≤ line_before x l n) × (line_before x l n < a + n)
        go true e = rw (← before_more x l n over refl (ltb-true _ _ e)) (omega (arith, ltb-true over n e))
        go false e = rw (← before-one x l n over refl (ltb-false _ _ e)) (omega (arith, r.some))

    pub highs : (m : ℕ) → place_in x (l - 1) < m → place_in x (line_before x l n - 1) < m → (p : ℕ) → a ≤ p → p < a + n → place_in x (p - 1) < m
    highs m h k p f q = go (ltb ((p - 1) / b) ((l - 1) / b)) refl
      where
        go : (t : Bool) → ltb ((p - 1) / b) ((l - 1) / b) ≡ t → place_in x (p - 1) < m
        go false e = omega (arith, in-one-line x.position.0 b x.line_width r.some-bases (p - 1) (l - 1) (omega arith) (ltb-false _ _ e))
        go true e =
            let g : (p - 1) / b < (l - 1) / b = ltb-true _ _ e in
            let j : p - 1 ≤ l - 1 - ((l - 1) % b + 1) = before-behind x.position.0 b x.line_width r.some-bases (p - 1) (l - 1) g in
            let d = before-ends x.position.0 b x.line_width r.some-bases (l - 1) (omega arith) in
            let u = before-some x.position.0 b x.line_width r.some-bases (l - 1) (omega arith) in
            let v : over ≡ (l - 1) % b + 1 = over-less a n l p ((l - 1) % b + 1) r.from_one r.some last u f j in
            let s : line_before x l n - 1 ≡ l - 1 - ((l - 1) % b + 1) = over-place a n l p ((l - 1) % b + 1) over (line_before x l n) r.from_one r.some last u f j v (before_more x l n over refl) in
            less-trans (rw s at k) (to_back x.position.0 b x.line_width r.some-bases (p - 1) (l - 1 - ((l - 1) % b + 1)) d j)

    -- so all lie in a part if these four do
    pub four-lie : (f t : ℕ) → is_in f t (place_in x (a - 1)) ≡ true → is_in f t (place_in x (l - 1)) ≡ true → is_in f t (place_in x (second_line x a n - 1)) ≡ true → is_in f t (place_in x (line_before x l n - 1)) ≡ true
        → LieIn f t x a n
    four-lie f t h k i j =
        record { each = λ p u v. (lows f (in-known f t _ h).0 (in-known f t _ i).0 p u v, highs t (in-known f t _ k).1 (in-known f t _ j).1 p u v) }

    -- and only then
    pub four-all : (f t : ℕ) → is_in f t (place_in x (a - 1)) ≡ true → is_in f t (place_in x (l - 1)) ≡ true → is_in f t (place_in x (second_line x a n - 1)) ≡ true
        → is_in f t (place_in x (line_before x l n - 1)) ≡ leb n (in_part f t (offsets_of x a n))
    four-all f t h k i = go (is_in f t (place_in x (line_before x l n - 1))) refl
      where
        go : (v : Bool) → is_in f t (place_in x (line_before x l n - 1)) ≡ v → v ≡ leb n (in_part f t (offsets_of x a n))
        go true e = sym (le-leb n (in_part f t (offsets_of x a n)) (omega (arith, lie-all x a n r.from_one f t (four-lie f t h k i e))))
        go false e = not-all x a n r.from_one f t (line_before x l n) before-in.0 before-in.1 e

-- ---- the smallest part

pub lowest-le : (os : List ℕ) (k : ℕ) → k < length os → lowest os ≤ get_or os k 0
unfolding lowest
lowest-le [] k h = absurd (omega arith)
lowest-le (o ∷ []) zero h = omega arith
lowest-le (o ∷ []) (suc k) h = absurd (omega arith)
lowest-le (o ∷ q ∷ os) zero h = omega arith
lowest-le (o ∷ q ∷ os) (suc k) h = omega (arith, lowest-le (q ∷ os) k (omega arith))

-- what is below all is below the lowest
pub lowest-all : (m : ℕ) (os : List ℕ) → 0 < length os → ((k : ℕ) → k < length os → m ≤ get_or os k 0) → m ≤ lowest os
unfolding lowest
lowest-all m [] z h = absurd (omega arith)
lowest-all m (o ∷ []) z h = h 0 (omega arith)
lowest-all m (o ∷ q ∷ os) z h = omega (arith, h 0 (omega arith), lowest-all m (q ∷ os) (omega arith) (λ k l. h (suc k) (omega arith)))

pub behind-lt : (os : List ℕ) (k : ℕ) → k < length os → get_or os k 0 < behind os
unfolding behind
behind-lt [] k h = absurd (omega arith)
behind-lt (o ∷ os) zero h = omega arith
behind-lt (o ∷ os) (suc k) h = omega (arith, behind-lt os k (omega arith))

pub behind-all : (m : ℕ) (os : List ℕ) → ((k : ℕ) → k < length os → get_or os k 0 < m) → behind os ≤ m
unfolding behind
behind-all m [] h = omega arith
behind-all m (o ∷ os) h = omega (arith, h 0 (omega arith), behind-all m os (λ k l. h (suc k) (omega arith)))

module _ (x : Record) (a n : ℕ) (z : 0 < a) (y : 0 < n) where
  abbrev os : List ℕ
  os = offsets_of x a n

  each-base : (P : ℕ → Type 0) → ((p : ℕ) → a ≤ p → p < a + n → P (place_in x (p - 1))) → (k : ℕ) → k < length os → P (get_or os k 0)
  each-base P h k m =
      let q : k < n = rw (length-offsets x a n) at m in
      rw (base-offset x a n z k q) (h (a + k) (omega arith) (omega arith))

  lowest-base : (p : ℕ) → a ≤ p → p < a + n → lowest os ≤ place_in x (p - 1)
  lowest-base p h k = omega (arith, lowest-le os (p - a) (omega (arith, length-offsets x a n)), base-place x a n z p h k)

  behind-base : (p : ℕ) → a ≤ p → p < a + n → place_in x (p - 1) < behind os
  behind-base p h k = omega (arith, behind-lt os (p - a) (omega (arith, length-offsets x a n)), base-place x a n z p h k)

  -- the bases all lie in it, and in no smaller part
  pub part-covers : LieIn (lowest os) (behind os) x a n
  part-covers = record { each = λ p h k. (lowest-base p h k, behind-base p h k) }

  pub part-smallest : (f t : ℕ) → LieIn f t x a n → (f ≤ lowest os) × (behind os ≤ t)
  part-smallest f t l =
      (lowest-all f os (omega (arith, length-offsets x a n, y)) (each-base (λ o. f ≤ o) (λ p h k. (l.each p h k).0)), behind-all t os (each-base (λ o. o < t) (λ p h k. (l.each p h k).1)))

-- the lowest of the four is the lowest, the highest the highest
module _ (x : Record) (a n : ℕ) (r : Addressable x a n) where
  covered : LieIn (lowest (offsets_of x a n)) (behind (offsets_of x a n)) x a n
  covered = part-covers x a n r.from_one r.some

  pub lowest-is : lowest (offsets_of x a n) ≡ min (place_in x (a - 1)) (place_in x (second_line x a n - 1))
  lowest-is =
      let f = min (place_in x (a - 1)) (place_in x (second_line x a n - 1)) in
      let l : LieIn f (behind (offsets_of x a n)) x a n = record { each = λ p h k. (lows x a n r f (omega arith) (omega arith) p h k, (covered.each p h k).1) } in
      omega (arith, covered.each a (omega arith) (omega (arith, r.some)), covered.each (second_line x a n) (second-in x a n r).0 (second-in x a n r).1, part-smallest x a n r.from_one r.some f (behind (offsets_of x a n)) l)

  pub behind-is : (l : ℕ) → l ≡ a + (n - 1) → behind (offsets_of x a n) ≡ max (place_in x (l - 1)) (place_in x (line_before x l n - 1)) + 1
  behind-is l e =
      let t = max (place_in x (l - 1)) (place_in x (line_before x l n - 1)) + 1 in
      let i : LieIn (lowest (offsets_of x a n)) t x a n = record { each = λ p h k. ((covered.each p h k).0, highs x a n r l e t (omega arith) (omega arith) p h k) } in
      omega (arith, covered.each l (omega arith) (omega (arith, r.some)), covered.each (line_before x l n) (before-in x a n r l e).0 (before-in x a n r l e).1, part-smallest x a n r.from_one r.some (lowest (offsets_of x a n)) t i)
