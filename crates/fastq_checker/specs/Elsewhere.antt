-- Where two sets of numbers lead apart, and the laws of its closed form: two rows of bases go together as far as the shorter goes.
use Rattle.std.specs.Prelude.{ℕ, suc, ◌+◌, ◌-◌, ◌^◌, ◌≤◌, ◌<◌, min, ◌≡◌, List, Bool, ◌&&◌, ◌||◌, get_or, Option, Some, None}
use Rattle.std.proofs.Math.Path.{refl, sym}
use Rattle.std.proofs.Common.{ap, ◌∙◌, add-zero, zero-add}
use Rattle.std.proofs.Math.Bool.{true, false, cond, true≢false}
use Rattle.std.proofs.Math.Dec.{eqb, ltb}
use borrow.Author.Tests.{eq-eqb, ne_eqb, eqb-true, eqb-false, ltb-true, ltb-false, lt-ltb, le-ltb}
use native.Mathlib.Omega.{arith}
use Rattle.std.proofs.Math.Nat.{zero-mul, div-zero, mod-zero}
use Rattle.record.specs.declared.Offset.{Offset}
use Rattle.record.specs.declared.Position.{Position}
use Rattle.record.specs.Place.{place_of, places_from, place_in}
use Rattle.record.specs.Laws.{place-first, place-line, place-row, length-places, get_or-places}
use Rattle.record.specs.declared.Record.{Record}
use Rattle.walking.specs.Places.{first_elsewhere}
use Rattle.walking.specs.PlaceLaws.{all_there, first-elsewhere}

-- ---- definitions

-- the offsets of a record's bases, as its numbers say
abbrev pub places_of : Record → List ℕ
places_of x = places_from x.position.0 x.line_bases x.line_width 0 x.length

-- the base that lies elsewhere, without its offset
abbrev pub base_of : Option (Position × Offset) → Option Position
base_of None = None
base_of (Some (p, o)) = Some p

-- of the bases that lie where the numbers of x say, the first that does not lie where those of y say
unfoldable pub apart_of : Record → Record → Option Position
apart_of x y = base_of (first_elsewhere (place_in y) 0 (places_of x))

-- ---- rows

-- how many bases a row has: rows with no byte between them are one without an end, and so are rows of no bases
unfoldable pub row_bases : ℕ → ℕ → ℕ
row_bases b w = cond (eqb b 0 || eqb w b) (2 ^ 64 - 1) b

unfoldable pub lesser_of : ℕ → ℕ → ℕ
lesser_of a b = cond (ltb a b) a b

pub lesser-left : (a b : ℕ) → a < b → a ≡ lesser_of a b
unfolding lesser_of
lesser-left a b h = rw (lt-ltb a b h)

pub lesser-right : (a b : ℕ) → b ≤ a → b ≡ lesser_of a b
unfolding lesser_of
lesser-right a b h = rw (le-ltb a b h)

pub lesser-min : (a b : ℕ) → min a b ≡ lesser_of a b
unfolding lesser_of
lesser-min a b = go (ltb a b) refl
  where
    go : (t : Bool) → ltb a b ≡ t → min a b ≡ cond t a b
    go true e = omega (arith, ltb-true a b e)
    go false e = omega (arith, ltb-false a b e)

module _ (b w : ℕ) where
  pub row-none : b ≡ 0 → 2 ^ 64 - 1 ≡ row_bases b w
  unfolding row_bases
  row-none h = rw (eq-eqb b 0 h)

  pub row-joined : (b ≡ 0 → ⊥) → w ≡ b → 2 ^ 64 - 1 ≡ row_bases b w
  unfolding row_bases
  row-joined z h = rw (ne_eqb b 0 z, eq-eqb w b h)

  pub row-some : (b ≡ 0 → ⊥) → (w ≡ b → ⊥) → b ≡ row_bases b w
  unfolding row_bases
  row-some z h = rw (ne_eqb b 0 z, ne_eqb w b h)

  -- a row has a base
  row_first : 0 < row_bases b w
  unfolding row_bases
  row_first = go (eqb b 0) refl (eqb w b)
    where
      go : (t : Bool) → eqb b 0 ≡ t → (u : Bool) → 0 < cond (t || u) (2 ^ 64 - 1) b
      go true z u = omega arith
      go false z true = omega arith
      go false z false = omega (arith, eqb-false b 0 z)

  place_none : (p i : ℕ) → b ≡ 0 → place_of p b w i ≡ p + i
  unfolding place_of
  place_none p i e = rw (e, div-zero i, mod-zero i, zero-mul w) (omega arith)

  -- the bases of the first row lie side by side
  straight : (p i : ℕ) → i < row_bases b w → place_of p b w i ≡ p + i
  unfolding row_bases
  straight p i = go (eqb b 0) refl (eqb w b) refl
    where
      go : (t : Bool) → eqb b 0 ≡ t → (u : Bool) → eqb w b ≡ u → i < cond (t || u) (2 ^ 64 - 1) b → place_of p b w i ≡ p + i
      go true z u e h = place_none p i (eqb-true b 0 z)
      go false z true e h = place-line p b w i (eqb-true w b e)
      go false z false e h = place-first p b w i h

  -- a row that ends: the first base behind it lies elsewhere
  row_ends : row_bases b w < 2 ^ 64 - 1 → (row_bases b w ≡ b) × (0 < b) × (w ≡ b → ⊥)
  unfolding row_bases
  row_ends = go (eqb b 0) refl (eqb w b) refl
    where
      go : (t : Bool) → eqb b 0 ≡ t → (u : Bool) → eqb w b ≡ u → cond (t || u) (2 ^ 64 - 1) b < 2 ^ 64 - 1
          → (cond (t || u) (2 ^ 64 - 1) b ≡ b) × (0 < b) × (w ≡ b → ⊥)
      go true z u e h = absurd (omega arith)
      go false z true e h = absurd (omega arith)
      go false z false e h = (refl, omega (arith, eqb-false b 0 z), eqb-false w b e)

  behind-row : (p k : ℕ) → k ≡ row_bases b w → k < 2 ^ 64 - 1 → (place_of p b w k ≡ p + w) × (k ≡ b) × (w ≡ b → ⊥)
  behind-row p k e h =
      let r = row_ends (rw e at h) in
      let i : k ≡ b = e ∙ r.0 in
      (ap (place_of p b w) (i ∙ sym (add-zero b)) ∙ place-row p b w 0 r.1 ∙ place-first (p + w) b w 0 r.1 ∙ add-zero (p + w), i, r.2)

-- ---- the closed form

module _ (p b w n q c v : ℕ) where
  abbrev places : List ℕ
  places = places_from p b w 0 n

  -- number j of the places
  place-at : (j : ℕ) → j < n → get_or places j 0 ≡ place_of p b w (0 + j)
  place-at j h = get_or-places p b w 0 n j h

  never : ((j : ℕ) → j < n → place_of p b w j ≡ place_of q c v j) → None ≡ base_of (first_elsewhere (place_of q c v) 0 places)
  never h =
      ap base_of
      (all_there (place_of q c v) 0 places
      (λ j m. let k : j < n = rw length-places at m in place-at j k ∙ rw (zero-add j) (h j k)))

  first : (k : ℕ) → k < n → ((j : ℕ) → j < k → place_of p b w j ≡ place_of q c v j) → (place_of p b w k ≡ place_of q c v k → ⊥)
      → Some (record { 0 = k + 1 }) ≡ base_of (first_elsewhere (place_of q c v) 0 places)
  first k m h d =
      let e : k + 1 ≡ suc (0 + k) = omega arith in
      ap (λ (i : ℕ). Some (record { 0 = i })) e
      ∙ ap base_of
      (first-elsewhere (place_of q c v) 0 k places (rw length-places m)
      (λ j i. place-at j (omega arith) ∙ rw (zero-add j) (h j i))
      (λ g. d (rw (zero-add k) at (sym (place-at k m) ∙ g))))

  pub apart-empty : n ≡ 0 → None ≡ base_of (first_elsewhere (place_of q c v) 0 places)
  apart-empty e = never (λ j h. absurd (omega arith))

  module _ (some : n ≡ 0 → ⊥) where
    pub apart-start : (p ≡ q → ⊥) → Some (record { 0 = 1 }) ≡ base_of (first_elsewhere (place_of q c v) 0 places)
    apart-start d =
        let e : 0 + 1 ≡ 1 = omega arith in
        rw e at (first 0 (omega arith) (λ j h. absurd (omega arith)) (λ g. d (omega (arith, sym (straight b w p 0 (row_first b w)) ∙ g ∙ straight c v q 0 (row_first c v)))))

    module _ (same : p ≡ q) where
      pub apart-same : (eqb b c && eqb w v) ≡ true → None ≡ base_of (first_elsewhere (place_of q c v) 0 places)
      apart-same t = go (eqb b c) refl (eqb w v) refl t
        where
          go : (s : Bool) → eqb b c ≡ s → (u : Bool) → eqb w v ≡ u → (s && u) ≡ true → None ≡ base_of (first_elsewhere (place_of q c v) 0 places)
          go true e true g k = never (λ j h. rw (same, eqb-true b c e, eqb-true w v g))
          go true e false g k = absurd (true≢false (sym k))
          go false e u g k = absurd (true≢false (sym k))

      -- both go together in the first row
      together : (j : ℕ) → j < row_bases b w → j < row_bases c v → place_of p b w j ≡ place_of q c v j
      together j h k = straight b w p j h ∙ ap (λ (m : ℕ). m + j) same ∙ sym (straight c v q j k)

      lesser-both : (j : ℕ) → j < lesser_of (row_bases b w) (row_bases c v) → (j < row_bases b w) × (j < row_bases c v)
      unfolding lesser_of
      lesser-both j = go (ltb (row_bases b w) (row_bases c v)) refl
        where
          go : (t : Bool) → ltb (row_bases b w) (row_bases c v) ≡ t → j < cond t (row_bases b w) (row_bases c v) → (j < row_bases b w) × (j < row_bases c v)
          go true e h = (h, omega (arith, ltb-true (row_bases b w) (row_bases c v) e))
          go false e h = (omega (arith, ltb-false (row_bases b w) (row_bases c v) e), h)

      pub apart-short : n ≤ lesser_of (row_bases b w) (row_bases c v) → None ≡ base_of (first_elsewhere (place_of q c v) 0 places)
      apart-short h = never (λ j m. let k = lesser-both j (omega arith) in together j k.0 k.1)

      module _ (other : (eqb b c && eqb w v) ≡ false) where
        -- where the shorter row ends
        parts : (k : ℕ) → k ≡ lesser_of (row_bases b w) (row_bases c v) → k < 2 ^ 64 - 1 → place_of p b w k ≡ place_of q c v k → ⊥
        unfolding lesser_of
        parts k e h g = go (ltb (row_bases b w) (row_bases c v)) refl e
          where
            equal : k ≡ row_bases b w → k ≡ row_bases c v → ⊥
            equal i j =
                let r = behind-row b w p k i h in
                let t = behind-row c v q k j h in
                true≢false (rw (eq-eqb b c (sym r.1 ∙ t.1), eq-eqb w v (omega (arith, sym r.0 ∙ g ∙ t.0))) at other)

            behind : k ≡ row_bases c v → (s : Bool) → ltb (row_bases c v) (row_bases b w) ≡ s → row_bases c v ≤ row_bases b w → ⊥
            behind j true s l =
                let t = behind-row c v q k j h in
                t.2 (omega (arith, sym t.0 ∙ sym g ∙ straight b w p k (omega (arith, ltb-true (row_bases c v) (row_bases b w) s)), t.1))
            behind j false s l = equal (omega (arith, ltb-false (row_bases c v) (row_bases b w) s)) j

            go : (t : Bool) → ltb (row_bases b w) (row_bases c v) ≡ t → k ≡ cond t (row_bases b w) (row_bases c v) → ⊥
            go true s i =
                let r = behind-row b w p k i h in
                r.2 (omega (arith, sym r.0 ∙ g ∙ straight c v q k (omega (arith, ltb-true (row_bases b w) (row_bases c v) s)), r.1))
            go false s j = behind j (ltb (row_bases c v) (row_bases b w)) refl (ltb-false _ _ s)

        pub apart-row : (k : ℕ) → k ≡ lesser_of (row_bases b w) (row_bases c v) → k < n → n < 2 ^ 64 → Some (record { 0 = k + 1 }) ≡ base_of (first_elsewhere (place_of q c v) 0 places)
        apart-row k e m l = first k m (λ j i. let t = lesser-both j (omega arith) in together j t.0 t.1) (parts k e (omega arith))
