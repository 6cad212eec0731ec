-- The walk over a sequence beside the strides of an index line, and its laws.
use Rattle.std.specs.Prelude.{ℕ, suc, ◌+◌, ◌-◌, ◌*◌, ◌/◌, ◌%◌, ◌^◌, ◌≤◌, ◌<◌, min, ◌≡◌, Bool, true, false, get_or, eqb, Option, Some, None}
use Rattle.std.proofs.Math.Path.{refl, ap, sym}
use Rattle.std.proofs.Common.{◌∙◌, eq-eqb, ne_eqb, eqb-true, add-one, div-add-mod', mod-lt, add-zero, zero-add}
use mathlib.Core.List.{List, [], ◌∷◌, ◌++◌, append-nil, append_assoc}
use Rattle.std.proofs.Math.ListN.{length, length-append}
use Rattle.std.proofs.Math.Arith.{digits_div, digits_mod}
use Rattle.std.proofs.lemmas.Bool.{eqb-false}
use native.Mathlib.Omega.{arith}
use Rattle.std.proofs.Math.Nat.{mod-le, add-mul, one-mul, zero-mul, zero-div, zero-mod, div-zero, mod-zero}
use Rattle.lines.specs.Lines.{part, line_end, chop, bases_of, seq_at, none, sum_bases, sum_widths, up_from, bases_at}
use Rattle.lines.specs.Laws.{no-line, some-line, some-here, part_length, line_end-le, line_end-gt, chop-le}
use Rattle.record.specs.Place.{place_of}
use Rattle.record.specs.Laws.{run-div, run-mod, place-run, place-first, place-line}
use Rattle.record.specs.EvenLines.{length-up_from, get_or-up_from, length-bases_at}
use Rattle.record.specs.declared.Position.{Position}
use Rattle.record.specs.declared.Offset.{Offset}
use Rattle.walking.specs.Places.{first_elsewhere, walked_as}
use Rattle.lines.specs.Sums.{bases-within}
use Rattle.walking.specs.PlaceLaws.{all_there, first-elsewhere, elsewhere-append, walked_same}
use Rattle.walking.specs.declared.Stride.{Stride}
use Rattle.walking.specs.declared.Walk.{Walk}

-- the stride of base number i + 1, by position p, line bases b and line width w
unfoldable pub walk_stride : ℕ → ℕ → ℕ → ℕ → Stride
walk_stride p b w i = record { start = record { 0 = min (p + i / b * w) (2 ^ 64 - 1) }; passed = i % b }

-- a walk over bases at some offsets
pub record Walking (p b w : ℕ) (os : List ℕ) (v : Walk) : Type 0 where
  pub bases : v.bases ≡ length os
  pub placed : v.placed ≡ first_elsewhere (place_of p b w) 0 os
  pub stride : v.placed ≡ None → v.stride ≡ walk_stride p b w (length os)
  pub inside : v.stride.passed < b

-- what a line's k bases from an offset on are, behind i others and beside the stride of the first, by position p and line width w
pub record LineJudged (stride : Stride) (b i : ℕ) (at : Offset) (k : ℕ) (said : Option (Position × Offset)) : Type 0 where
  pub says : (p w : ℕ) → stride ≡ walk_stride p b w i → (w ≡ b → i + k ≤ b) → said ≡ first_elsewhere (place_of p b w) i (up_from at.0 k)
  pub within : said ≡ None → stride.passed + k ≤ b

-- the stride behind k bases that end in this stride
pub record MovedOn (stride : Stride) (b w k : ℕ) (next : Stride) : Type 0 where
  pub inside : next.passed < b
  pub behind : (p i : ℕ) → stride ≡ walk_stride p b w i → stride.passed + k ≤ b → next ≡ walk_stride p b w (i + k)

-- a walk with one line more
pub record WalkedLine (b w : ℕ) (before : Walk) (at : Offset) (k : ℕ) (after : Walk) : Type 0 where
  pub goes_on : (p : ℕ) (os : List ℕ) → Walking p b w os before → Walking p b w (os ++ up_from at.0 k) after

-- ---- the end of a stride, and the next

module _ (b i : ℕ) (z : 0 < b) where
  end-sum : i + (b - i % b) ≡ (i / b + 1) * b + 0
  end-sum = rw (add-mul (i / b) 1 b, one-mul b) (omega (arith, div-add-mod' i b, mod-lt i z))

  end-div : (i + (b - i % b)) / b ≡ i / b + 1
  end-div = ap (λ (n : ℕ). n / b) end-sum ∙ digits_div (i / b + 1) z

  end-mod : (i + (b - i % b)) % b ≡ 0
  end-mod = ap (λ (n : ℕ). n % b) end-sum ∙ digits_mod (i / b + 1) z

  end-place : (p w : ℕ) → place_of p b w (i + (b - i % b)) + i % b ≡ place_of p b w i + w
  unfolding place_of
  end-place p w = rw (end-div, end-mod, add-mul (i / b) 1 w, one-mul w) (omega arith)

module _ (p b w i : ℕ) where
  -- the stride behind k bases that end in this one
  pub stride-within : (k : ℕ) → i % b + k < b → record { start = (walk_stride p b w i).start; passed = (walk_stride p b w i).passed + k } ≡ walk_stride p b w (i + k)
  unfolding walk_stride
  stride-within k h = rw (run-div p b w i k h, run-mod p b w i k h)

  pub stride-next : (k s : ℕ) → 0 < b → i % b + k ≡ b → s ≡ min ((walk_stride p b w i).start.0 + w) (2 ^ 64 - 1) → record { start = record { 0 = s }; passed = 0 } ≡ walk_stride p b w (i + k)
  unfolding walk_stride
  stride-next k s z h e =
      let m : k ≡ b - i % b = omega arith in
      rw (e, m, end-div b i z, end-mod b i z, add-mul (i / b) 1 w, one-mul w) (ap (λ (n : ℕ). record { start = record { 0 = n }; passed = 0 }) (omega arith))

  module _ (stride : Stride) (e : stride ≡ walk_stride p b w i) where
    passed_is : stride.passed ≡ i % b
    unfolding walk_stride
    passed_is = ap (λ (r : Stride). r.passed) e

    start_is : stride.start.0 ≡ min (p + i / b * w) (2 ^ 64 - 1)
    unfolding walk_stride
    start_is = ap (λ (r : Stride). r.start.0) e

    -- an offset is where the stride has its next base if it is that base's place
    stride-place : (o : ℕ) → o < 2 ^ 64 - 1 → o ≡ stride.start.0 + stride.passed → o ≡ place_of p b w i
    unfolding place_of
    stride-place o h q = omega (arith, passed_is, start_is)

    stride-elsewhere : (o : ℕ) → o < 2 ^ 64 - 1 → (o ≡ stride.start.0 + stride.passed → ⊥) → o ≡ place_of p b w i → ⊥
    unfolding place_of
    stride-elsewhere o h n q = n (omega (arith, passed_is, start_is))

-- ---- the test of one place

module _ (stride : Stride) (at : Offset) where
  pub next-before : at.0 < stride.start.0 → false ≡ eqb at.0 (stride.start.0 + stride.passed)
  next-before h = sym (ne_eqb at.0 (stride.start.0 + stride.passed) (λ e. omega arith))

  pub next_here : stride.start.0 ≤ at.0 → eqb (at.0 - stride.start.0) stride.passed ≡ eqb at.0 (stride.start.0 + stride.passed)
  next_here h = go (eqb (at.0 - stride.start.0) stride.passed) refl
    where
      go : (t : Bool) → eqb (at.0 - stride.start.0) stride.passed ≡ t → t ≡ eqb at.0 (stride.start.0 + stride.passed)
      go true e = sym (eq-eqb at.0 (stride.start.0 + stride.passed) (omega (arith, eqb-true (at.0 - stride.start.0) stride.passed e)))
      go false e = sym (ne_eqb at.0 (stride.start.0 + stride.passed) (λ g. eqb-false (at.0 - stride.start.0) stride.passed e (omega arith)))

-- ---- one line's bases, which are the k from offset o on

module _ (p b w i o k : ℕ) where
  -- the first is at its place
  module _ (h : o ≡ place_of p b w i) where
    -- and so are those behind it in its stride
    in-stride : (m j : ℕ) → i % b + m ≤ b → j < m → j < k → get_or (up_from o k) j 0 ≡ place_of p b w (i + j)
    in-stride m j r l n = get_or-up_from o k j n ∙ rw h (sym (place-run p b w i j (omega arith)))

    line-there : i % b + k ≤ b → None ≡ first_elsewhere (place_of p b w) i (up_from o k)
    line-there r = all_there (place_of p b w) i (up_from o k) (λ j m. in-stride k j r (rw length-up_from at m) (rw length-up_from at m))

    -- but not the first of the next stride
    line-crosses : 0 < b → (w ≡ b → ⊥) → b - i % b < k → Some ((record { 0 = suc (i + (b - i % b)) }), (record { 0 = o + (b - i % b) })) ≡ first_elsewhere (place_of p b w) i (up_from o k)
    line-crosses z n r =
        rw (get_or-up_from o k (b - i % b) r) at
        (first-elsewhere (place_of p b w) i (b - i % b) (up_from o k) (rw length-up_from r)
        (λ j m. in-stride (b - i % b) j (omega (arith, mod-lt i z)) m (omega arith))
        (λ e. n (omega (arith, e, get_or-up_from o k (b - i % b) r, end-place b i z p w, mod-lt i z))))

  line-elsewhere : 0 < k → (o ≡ place_of p b w i → ⊥) → Some ((record { 0 = suc i }), (record { 0 = o })) ≡ first_elsewhere (place_of p b w) i (up_from o k)
  line-elsewhere z h =
      rw (add-zero i, get_or-up_from o k 0 z, add-zero o) at (first-elsewhere (place_of p b w) i 0 (up_from o k) (rw length-up_from z) (λ j m. absurd (omega arith)) (λ e. h (sym (add-zero o) ∙ sym (get_or-up_from o k 0 z) ∙ e ∙ ap (place_of p b w) (add-zero i))))

-- beside the stride of the first base
module _ (stride : Stride) (b i : ℕ) (at : Offset) (k : ℕ) where
  pub judged-none : stride.passed < b → k ≡ 0 → LineJudged stride b i at k None
  judged-none l z = record {
    says = λ p w e n. all_there (place_of p b w) i (up_from at.0 k) (λ j m. absurd (omega (arith, rw (length-up_from, z) at m)));
    within = λ g. omega arith;
  }

  module _ (fits : at.0 + k < 2 ^ 64) (some : k ≡ 0 → ⊥) (inside : stride.passed < b) (t : Bool) (q : t ≡ eqb at.0 (stride.start.0 + stride.passed)) where
    at_place : (p w : ℕ) → stride ≡ walk_stride p b w i → t ≡ true → at.0 ≡ place_of p b w i
    at_place p w e h = stride-place p b w i stride e at.0 (omega arith) (eqb-true _ _ (sym q ∙ h))

    pub judged-there : t ≡ true → k ≤ b - stride.passed → LineJudged stride b i at k None
    judged-there h r = record {
      says = λ p w e n. line-there p b w i at.0 k (at_place p w e h) (omega (arith, passed_is p b w i stride e));
      within = λ g. omega arith;
    }

    pub judged-crosses : t ≡ true → b - stride.passed < k → LineJudged stride b i at k (Some ((record { 0 = i + (b - stride.passed) + 1 }), (record { 0 = at.0 + (b - stride.passed) })))
    judged-crosses h r = record {
      says = λ p w e n.
          let m : stride.passed ≡ i % b = passed_is p b w i stride e in
          rw (add-one, m) (line-crosses p b w i at.0 k (at_place p w e h) (omega arith) (λ g. omega (arith, n g, mod-le i b)) (omega arith));
      within = λ g. let z : ◌≡◌ {A = ℕ} 0 1 = cc in absurd (omega arith);
    }

    pub judged-elsewhere : t ≡ false → LineJudged stride b i at k (Some ((record { 0 = i + 1 }), at))
    judged-elsewhere h = record {
      says = λ p w e n. rw add-one (line-elsewhere p b w i at.0 k (omega arith) (stride-elsewhere p b w i stride e at.0 (omega arith) (eqb-false _ _ (sym q ∙ h))));
      within = λ g. let z : ◌≡◌ {A = ℕ} 0 1 = cc in absurd (omega arith);
    }

-- ---- the stride behind a line's bases

module _ (stride : Stride) (b w k : ℕ) (inside : stride.passed < b) where
  pub moved-within : k < b - stride.passed → MovedOn stride b w k (record { start = stride.start; passed = stride.passed + k })
  moved-within h = record {
    inside = omega arith;
    behind = λ p i e n. ap (λ (r : Stride). record { start = r.start; passed = r.passed + k }) e ∙ stride-within p b w i k (omega (arith, passed_is p b w i stride e));
  }

  pub moved-next : (s : ℕ) → b - stride.passed ≤ k → s ≡ min (stride.start.0 + w) (2 ^ 64 - 1) → MovedOn stride b w k (record { start = record { 0 = s }; passed = 0 })
  moved-next s h m = record {
    inside = omega arith;
    behind = λ p i e n. stride-next p b w i k s (omega arith) (omega (arith, passed_is p b w i stride e)) (rw e at m);
  }

-- ---- the walk with one line more

module _ (b w : ℕ) (v : Walk) (at : Offset) (k : ℕ) where
  pub walked-elsewhere : (q : Position) (o : Offset) → v.placed ≡ Some (q, o) → WalkedLine b w v at k (record { bases = v.bases + k; placed = Some (q, o); stride = v.stride })
  walked-elsewhere q o e = record {
    goes_on = λ p os o. record {
      bases = rw (length-append, length-up_from) (omega (arith, o.bases));
      placed = rw (elsewhere-append, ← o.placed, e);
      stride = λ g. let z : ◌≡◌ {A = ℕ} 0 1 = cc in absurd (omega arith);
      inside = o.inside;
    };
  }

  pub walked-there : (said : Option (Position × Offset)) (next : Stride) → v.placed ≡ None → v.bases ≤ at.0 → at.0 + k < 2 ^ 64 → (w ≡ b → 2 ^ 64 - 1 ≤ b)
      → LineJudged v.stride b v.bases at k said → MovedOn v.stride b w k next → WalkedLine b w v at k (record { bases = v.bases + k; placed = said; stride = next })
  walked-there said next e l f g j m = record {
    goes_on = λ p os o.
        let r : v.stride ≡ walk_stride p b w v.bases = rw o.bases (o.stride e) in record {
          bases = rw (length-append, length-up_from) (omega (arith, o.bases));
          placed = rw (elsewhere-append, ← o.placed, e, zero-add, ← o.bases) (j.says p w r (λ h. omega (arith, g h)));
          stride = λ h. rw (length-append, length-up_from, ← o.bases) (m.behind p v.bases r (j.within h));
          inside = m.inside;
        };
  }

-- ---- the walk over the lines of a sequence

-- a line's end is behind its start and in the file, and its bases lie between the two
pub line-within : (s : List ℕ) (i e k : ℕ) → none (seq_at s i) ≡ false → e ≡ line_end s i → k ≡ length (bases_of (part s i e))
    → (i < e) × (e ≤ length s) × (i + k ≤ e)
line-within s i e k n h c =
    let a : i < length s = some-here s i n in
    let b : e ≤ length s = rw h (line_end-le s i (omega arith)) in
    (rw h (line_end-gt s i a), b, omega (arith, chop-le 13 (chop 10 (part s i e)), chop-le 10 (part s i e), part_length s i e b))

-- what is passed and what is still to come are the whole sequence
pub record Onward (s : List ℕ) (at p b w i : ℕ) (v : Walk) : Type 0 where
  pub passed : List ℕ
  pub walking : Walking p b w passed v
  pub offsets : passed ++ bases_at i (seq_at s i) ≡ bases_at at (seq_at s at)
  pub next : i + sum_widths (seq_at s i) ≡ at + sum_widths (seq_at s at)
  pub fewer : v.bases ≤ i

module _ (s : List ℕ) (at p b w : ℕ) where
  pub onward-start : 0 < b → p < 2 ^ 64 → Onward s at p b w at (record { bases = 0; placed = None; stride = record { start = record { 0 = p }; passed = 0 } })
  unfolding walk_stride first_elsewhere
  onward-start z f = record {
    passed = [];
    walking = record { bases = refl; placed = refl; stride = λ e. rw (zero-div, zero-mod, zero-mul, add-zero) (ap (λ (n : ℕ). record { start = record { 0 = n }; passed = 0 }) (omega arith)); inside = z };
    offsets = refl;
    next = refl;
    fewer = omega arith;
  }

  module _ (i : ℕ) (v : Walk) (o : Onward s at p b w i v) where
    pub onward-end : none (seq_at s i) ≡ true → record { bases = v.bases; placed = v.placed; next = i } ≡ walked_as (place_of p b w) at (seq_at s at)
    unfolding walked_as bases_at sum_widths
    onward-end h =
        let z : seq_at s i ≡ [] = no-line s i h in
        let y : i ≡ at + sum_widths (seq_at s at) = sym (add-zero i) ∙ (rw z at o.next) in
        let e : o.passed ≡ bases_at at (seq_at s at) = sym (append-nil o.passed) ∙ (rw z at o.offsets) in
        let x : v.bases ≡ sum_bases (seq_at s at) = o.walking.bases ∙ ap length e ∙ length-bases_at at (seq_at s at) in
        let q : v.placed ≡ first_elsewhere (place_of p b w) 0 (bases_at at (seq_at s at)) = o.walking.placed ∙ ap (first_elsewhere (place_of p b w) 0) e in
        λ j. record { bases = x j; placed = q j; next = y j }

    -- behind which there are no more bases
    pub onward-bare : sum_bases (seq_at s i) ≡ 0 → record { bases = v.bases; placed = v.placed; next = i + sum_widths (seq_at s i) } ≡ walked_as (place_of p b w) at (seq_at s at)
    unfolding walked_as
    onward-bare h =
        let z : bases_at i (seq_at s i) ≡ [] = no-bases (bases_at i (seq_at s i)) (length-bases_at i (seq_at s i) ∙ h) in
        let e : o.passed ≡ bases_at at (seq_at s at) = sym (append-nil o.passed) ∙ (rw z at o.offsets) in
        let x : v.bases ≡ sum_bases (seq_at s at) = o.walking.bases ∙ ap length e ∙ length-bases_at at (seq_at s at) in
        let q : v.placed ≡ first_elsewhere (place_of p b w) 0 (bases_at at (seq_at s at)) = o.walking.placed ∙ ap (first_elsewhere (place_of p b w) 0) e in
        let y : i + sum_widths (seq_at s i) ≡ at + sum_widths (seq_at s at) = o.next in
        λ j. record { bases = x j; placed = q j; next = y j }
      where
        no-bases : (os : List ℕ) → length os ≡ 0 → os ≡ []
        no-bases [] n = refl
        no-bases (a ∷ os) n = absurd (omega arith)

    -- over a line l, which has k bases and ends at e
    pub onward-over : (l : List ℕ) (e k : ℕ) (next : Walk) → seq_at s i ≡ l ∷ seq_at s e → i + length l ≡ e → k ≡ length (bases_of l) → WalkedLine b w v (record { 0 = i }) k next
        → Onward s at p b w e next
    unfolding bases_at sum_widths
    onward-over l e k next h q c g = record {
      passed = o.passed ++ up_from i k;
      walking = g.goes_on p o.passed o.walking;
      offsets = rw (append_assoc, c) (rw (h, q) at o.offsets);
      next = omega (arith, rw h at o.next, q);
      fewer = omega (arith, (g.goes_on p o.passed o.walking).bases, o.walking.bases, length-append o.passed (up_from i k), length-up_from i k, chop-le 13 (chop 10 l), chop-le 10 l);
    }

    pub onward-line : (e k : ℕ) (next : Walk) → none (seq_at s i) ≡ false → e ≡ line_end s i → k ≡ length (bases_of (part s i e)) → WalkedLine b w v (record { 0 = i }) k next
        → Onward s at p b w e next
    onward-line e k next n h c g =
        let f = line-within s i e k n h c in
        onward-over (part s i e) e k next (rw h (some-line s i n)) (omega (arith, part_length s i e f.1)) c g

-- strides with no byte between them are one stride, and so are strides of no bases
module _ (s : List ℕ) (at p b w : ℕ) (f : length s < 2 ^ 64) where
  one-line : ((i : ℕ) → place_of p b w i ≡ p + i) → walked_as (place_of p (2 ^ 64 - 1) w) at (seq_at s at) ≡ walked_as (place_of p b w) at (seq_at s at)
  one-line e =
      walked_same (place_of p (2 ^ 64 - 1) w) (place_of p b w) at (seq_at s at)
      (λ i h. place-first p (2 ^ 64 - 1) w i (omega (arith, bases-within s at)) ∙ sym (e i))

  pub one-stride : w ≡ b → walked_as (place_of p (2 ^ 64 - 1) w) at (seq_at s at) ≡ walked_as (place_of p b w) at (seq_at s at)
  one-stride e = one-line (λ i. place-line p b w i e)

  pub no-stride : b ≡ 0 → walked_as (place_of p (2 ^ 64 - 1) w) at (seq_at s at) ≡ walked_as (place_of p b w) at (seq_at s at)
  unfolding place_of
  no-stride e = one-line (λ i. rw (e, div-zero i, mod-zero i, zero-mul w) (omega arith))
