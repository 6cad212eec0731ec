-- Laws for Windowed.antt and NeededPart.antt: the window read beside the exact read, which is refused whatever the bytes are, or gives them.
use Prim.Native.Nat.{ℕ, ◌+◌, ◌-◌, ◌≤◌, ◌<◌}
use Rattle.std.specs.Prelude.{◌≡◌, Bool, true, false, cond, take, get_or, ltb, leb, Option, Result, Ok, Err}
use Rattle.std.proofs.Math.Path.{refl, sym}
use Rattle.std.proofs.Common.{ap, ◌∙◌, ⊎_elim, length-drop, length-take-le, get_or-take, get_or-drop, ltb-true, ltb-false, leb-true, leb-false, arith}
use mathlib.Core.List.{List, ◌++◌, map}
use Rattle.std.proofs.Math.ListN.{length, drop}
use Rattle.record.specs.declared.Position.{Position}
use Rattle.refusal.specs.Numbers.{numbers_of}
use Rattle.refusal.specs.declared.Refusal.{Refusal}
use Rattle.refusal.specs.declared.Refusal.TheVariants.{NotInWindow, BadBounds}
use Rattle.record.specs.declared.Record.{Record}
use Rattle.record.specs.Place.{place_in}
use Rattle.record.specs.Bases.{byte_at}
use Rattle.output.specs.Outcome.{Outcome, leaves, refuses, gives}
use Rattle.region.specs.Region.{bad_bounds, bounded_row, start_of, end_of}
use Rattle.region.specs.Exact.{region_of, exact_in, exact_of}
use Rattle.region.specs.Inside.{length-offsets}
use Rattle.region.specs.Part.{is_in, in_part, LieIn}
use Rattle.region.specs.PartLaws.{is-in, is_below, is-past, in-known, part-before, part-first, part-stops, part_same, lie-all, base-offset, base-place}
use Rattle.region.specs.Copy.{byte_from}
use Rattle.region.specs.Laws.{good-bounds}
use Rattle.region.specs.Refusals.{OfRead, bad-bounds, past-length, no_room, not-in-file, region-refuses}
use Rattle.region.specs.Dependence.{map_same, region_offsets, region_count, InRegion, Readable, exact-region, exact-reads, Refusing, Reading, exact-either}
use Rattle.region.specs.Window.{unless_refused, seen_at, window_region, window_in, window_of}
use Rattle.region.specs.WindowLaws.{seen_read}
use Rattle.region.specs.Seen.{Needs, Covers, Agree}

-- ---- in a window, or not

pub not_in : (f t o : ℕ) → (f ≤ o → o < t → ⊥) → is_in f t o ≡ false
not_in f t o h = go (leb f o) refl (ltb o t) refl
  where
    go : (b : Bool) → leb f o ≡ b → (c : Bool) → ltb o t ≡ c → is_in f t o ≡ false
    go true p true q = absurd (h (leb-true _ _ p) (ltb-true _ _ q))
    go true p false q = is-past f t o (ltb-false _ _ q)
    go false p c q = is_below f t o (leb-false _ _ p)

pub in-not : (f t o : ℕ) → is_in f t o ≡ false → f ≤ o → o < t → ⊥
in-not f t o h k l = let e = is-in f t o k l in let z : ◌≡◌ {A = ℕ} 0 1 = cc in omega arith

-- ---- the bases of a readable region

module _ (bytes : ℕ) (x : Record) (a e : Option Position) (free : ℕ) (k : Readable bytes x a e free) where
  pub region-one : 0 < start_of a
  region-one = (good-bounds a e x.length k.bounds).from_one

  pub region-order : start_of a ≤ end_of x.length e
  region-order = (good-bounds a e x.length k.bounds).in_order k.start

  pub region-base : (p : ℕ) → start_of a ≤ p → p < start_of a + region_count x a e → InRegion x a e p
  region-base p h l = record { from_one = omega (arith, region-one); from = h; to = omega (arith, region-order); within = omega (arith, region-order, k.end) }

  pub base-region : (p : ℕ) → InRegion x a e p → (start_of a ≤ p) × (p < start_of a + region_count x a e)
  base-region p i = (i.from, omega (arith, i.to, region-order))

  -- each of its offsets is needed
  pub region-needs : (h : Result Record Refusal) → h ≡ Ok x → (p : ℕ) → InRegion x a e p → Needs bytes h a e (place_in x (p - 1))
  region-needs h q p i = record { row = x; holds = q; base = p; region = i; here = refl; inside = k.inside p i.from i.to }

  pub offset-needs : (h : Result Record Refusal) → h ≡ Ok x → (j : ℕ) → j < length (region_offsets x a e) → Needs bytes h a e (get_or (region_offsets x a e) j 0)
  offset-needs h q j m =
      let n : j < region_count x a e = rw (length-offsets x (start_of a) (region_count x a e)) at m in
      rw (base-offset x (start_of a) (region_count x a e) region-one j n) (region-needs h q (start_of a + j) (region-base (start_of a + j) (omega arith) (omega arith)))

-- ---- refused, or seen

module _ (bytes f : ℕ) (w : List ℕ) (a e : Option Position) (out : List ℕ) where
  refused-in : (b : Result Record Refusal) (g : Refusal) → exact_in bytes (byte_from f w) b a e out ≡ leaves (Err g) out → window_in bytes f w b a e out ≡ leaves (Err g) out
  unfolding exact_in window_in window_region unless_refused
  refused-in (Err k) g q = q
  refused-in (Ok x) g q = rw q

  pub window-refuses : (h : Result Record Refusal) (r : Refusing bytes h a e out) → window_of bytes f w h a e out ≡ leaves (Err r.refusal) out
  unfolding window_of exact_of
  window-refuses h r = refused-in (bounded_row a e h) r.refusal (r.always (byte_from f w))

  pub window-sees : (x : Record) → Readable bytes x a e (length out) → window_of bytes f w (Ok x) a e out ≡ seen_at f w (start_of a) (region_offsets x a e) out
  unfolding window_of window_in bounded_row window_region unless_refused
  window-sees x k =
      let q : region_of bytes (byte_from f w) x (start_of a) (end_of x.length e) out ≡ leaves (Ok (region_count x a e)) (map (byte_from f w) (region_offsets x a e) ++ drop (region_count x a e) out) =
      sym (exact-region bytes (byte_from f w) x a e out k.bounds) ∙ exact-reads bytes (byte_from f w) x a e out k in
      rw (k.bounds, q)

-- ---- a window that is a part of a file

pub part_length : (s : List ℕ) (f m : ℕ) → f + m ≤ length s → length (take m (drop f s)) ≡ m
part_length s f m h = length-take-le m (drop f s) (rw (length-drop f s) (omega arith))

part-byte : (s : List ℕ) (f m o : ℕ) → f ≤ o → o < f + m → byte_from f (take m (drop f s)) o ≡ byte_at s o
part-byte s f m o h k = get_or-take m (drop f s) (o - f) 0 (omega arith) ∙ get_or-drop f s (o - f) 0 ∙ ap (byte_at s) q
  where
    q : f + (o - f) ≡ o
    q = omega arith

module _ (s : List ℕ) (f m : ℕ) (fits : f + m ≤ length s) (h : Result Record Refusal) (a e : Option Position) (c : Covers (length s) h a e f m) (out : List ℕ) where
  abbrev w : List ℕ
  w = take m (drop f s)

  whole-some : Reading (length s) h a e out → window_of (length s) f w h a e out ≡ exact_of (length s) (byte_at s) h a e out
  whole-some r =
      ap (λ (y : Result Record Refusal). window_of (length s) f w y a e out) r.holds
      ∙ window-sees (length s) f w a e out x k
      ∙ sym (seen_read f w x (start_of a) (region_count x a e) out (in_part f (f + length w) os) refl (omega (arith, lie-all x (start_of a) (region_count x a e) (region-one (length s) x a e (length out) k) f (f + length w) lies)))
      ∙ rw (map_same (byte_from f w) (byte_at s) os same) (sym (exact-reads (length s) (byte_at s) x a e out k))
      ∙ ap (λ (y : Result Record Refusal). exact_of (length s) (byte_at s) y a e out) (sym r.holds)
    where
      x : Record
      x = r.row

      k : Readable (length s) x a e (length out)
      k = r.readable

      os : List ℕ
      os = region_offsets x a e

      lies : LieIn f (f + length w) x (start_of a) (region_count x a e)
      lies = record {
        each = λ p u v.
            let d = c.each _ (region-needs (length s) x a e (length out) k h r.holds p (region-base (length s) x a e (length out) k p u v)) in
            (d.0, rw (part_length s f m fits) d.1);
      }

      same : (j : ℕ) → j < length os → byte_from f w (get_or os j 0) ≡ byte_at s (get_or os j 0)
      same j l = let d = c.each _ (offset-needs (length s) x a e (length out) k h r.holds j l) in part-byte s f m (get_or os j 0) d.0 d.1

  pub whole_of : window_of (length s) f w h a e out ≡ exact_of (length s) (byte_at s) h a e out
  whole_of = ⊎_elim (λ r. window-refuses (length s) f w a e out h r ∙ sym (r.always (byte_at s))) whole-some (exact-either (length s) h a e out)

-- ---- two windows

module _ (bytes : ℕ) (h : Result Record Refusal) (a e : Option Position) (f : ℕ) (w : List ℕ) (f' : ℕ) (w' : List ℕ) (g : Agree bytes h a e f w f' w') (out : List ℕ) where
  seen_same : (x : Record) → h ≡ Ok x → Readable bytes x a e (length out) → seen_at f w (start_of a) (region_offsets x a e) out ≡ seen_at f' w' (start_of a) (region_offsets x a e) out
  unfolding seen_at
  seen_same x q k = rw parts (go (ltb (in_part f' (f' + length w') os) (length os)) refl)
    where
      os : List ℕ
      os = region_offsets x a e

      parts : in_part f (f + length w) os ≡ in_part f' (f' + length w') os
      parts = part_same f (f + length w) f' (f' + length w') os (λ j l. g.in_both _ (offset-needs bytes x a e (length out) k h q j l))

      go : (t : Bool) → ltb (in_part f' (f' + length w') os) (length os) ≡ t
          → cond t (refuses (NotInWindow (start_of a + in_part f' (f' + length w') os)) out) (gives (map (byte_from f w) os) out)
          ≡ cond t (refuses (NotInWindow (start_of a + in_part f' (f' + length w') os)) out) (gives (map (byte_from f' w') os) out)
      go true l = refl
      go false l = ap (λ (bs : List ℕ). gives bs out) (map_same (byte_from f w) (byte_from f' w') os (λ j u.
          let i = in-known f (f + length w) _ (part-before f (f + length w) os j (omega (arith, ltb-false (in_part f' (f' + length w') os) (length os) l, parts))) in
          g.same _ (offset-needs bytes x a e (length out) k h q j u) i.0 i.1))

  alone-some : Reading bytes h a e out → window_of bytes f w h a e out ≡ window_of bytes f' w' h a e out
  alone-some r =
      ap (λ (y : Result Record Refusal). window_of bytes f w y a e out) r.holds
      ∙ window-sees bytes f w a e out r.row r.readable
      ∙ seen_same r.row r.holds r.readable
      ∙ sym (window-sees bytes f' w' a e out r.row r.readable)
      ∙ ap (λ (y : Result Record Refusal). window_of bytes f' w' y a e out) (sym r.holds)

  pub alone_of : window_of bytes f w h a e out ≡ window_of bytes f' w' h a e out
  alone_of = ⊎_elim (λ r. window-refuses bytes f w a e out h r ∙ sym (window-refuses bytes f' w' a e out h r)) alone-some (exact-either bytes h a e out)

-- ---- 34 is none of the exact read's refusals

read-other : (g : Refusal) → OfRead g → (numbers_of g).refusal ≡ 34 → ⊥
unfolding numbers_of
read-other _ bad-bounds h = omega arith
read-other _ (past-length bases) h = omega arith
read-other _ (no_room needed) h = omega arith
read-other _ (not-in-file base) h = omega arith

pub refused_as : {g k : Refusal} → ◌≡◌ {A = Result ℕ Refusal} (Err g) (Err k) → g ≡ k
refused_as h = cc

not-bounded : (a e : Option Position) (h : Result Record Refusal) → ((q : ℕ) → h ≡ Err (NotInWindow q) → ⊥) → (q : ℕ) → bounded_row a e h ≡ Err (NotInWindow q) → ⊥
unfolding bounded_row
not-bounded a e h n q u = go (bad_bounds a e) u
  where
    go : (b : Bool) → cond b (Err BadBounds) h ≡ Err (NotInWindow q) → ⊥
    go true v = let z : ◌≡◌ {A = ℕ} 0 1 = cc in omega arith
    go false v = n q v

module _ (bytes : ℕ) (byte : ℕ → ℕ) (a e : Option Position) (out : List ℕ) (p : ℕ) where
  other-in : (b : Result Record Refusal) → ((q : ℕ) → b ≡ Err (NotInWindow q) → ⊥) → exact_in bytes byte b a e out ≡ leaves (Err (NotInWindow p)) out → ⊥
  unfolding exact_in numbers_of
  other-in (Err k) n q = n p (ap Err (refused_as (ap (λ (o : Outcome (Result ℕ Refusal)). o.answer) q)))
  other-in (Ok x) n q = read-other (NotInWindow p) (region-refuses bytes byte x (start_of a) (end_of x.length e) out (NotInWindow p) (ap (λ (o : Outcome (Result ℕ Refusal)). o.answer) q)) refl

  pub exact-other : (h : Result Record Refusal) → ((q : ℕ) → h ≡ Err (NotInWindow q) → ⊥) → exact_of bytes byte h a e out ≡ leaves (Err (NotInWindow p)) out → ⊥
  unfolding exact_of
  exact-other h n q = other-in (bounded_row a e h) (not-bounded a e h n) q

-- ---- the first base that is not in the window

module _ (bytes f : ℕ) (w : List ℕ) (x : Record) (a e : Option Position) (out : List ℕ) (k : Readable bytes x a e (length out)) where
  abbrev os : List ℕ
  os = region_offsets x a e

  abbrev seen : ℕ
  seen = in_part f (f + length w) os

  -- it is the one whose offset is the first that is not
  pub first-is : (p : ℕ) → InRegion x a e p → (f ≤ place_in x (p - 1) → place_in x (p - 1) < f + length w → ⊥)
      → ((q : ℕ) → InRegion x a e q → q < p → (f ≤ place_in x (q - 1)) × (place_in x (q - 1) < f + length w)) → start_of a + seen ≡ p
  first-is p i u v = go (ltb seen (p - start_of a)) refl
    where
      one : 0 < start_of a
      one = region-one bytes x a e (length out) k

      r : (start_of a ≤ p) × (p < start_of a + region_count x a e)
      r = base-region bytes x a e (length out) k p i

      stops : seen ≤ p - start_of a
      stops = part-stops f (f + length w) os (p - start_of a) (ap (is_in f (f + length w)) (base-place x (start_of a) (region_count x a e) one p r.0 r.1) ∙ not_in f (f + length w) _ u)

      go : (t : Bool) → ltb seen (p - start_of a) ≡ t → start_of a + seen ≡ p
      go false l = omega (arith, ltb-false seen (p - start_of a) l, stops, r)
      go true l =
          let s : seen < p - start_of a = ltb-true _ _ l in
          let j = v (start_of a + seen) (region-base bytes x a e (length out) k (start_of a + seen) (omega arith) (omega (arith, r))) (omega arith) in
          let o = base-offset x (start_of a) (region_count x a e) one seen (omega (arith, r)) in
          absurd (in-not f (f + length w) _ (ap (is_in f (f + length w)) (sym o) ∙ part-first f (f + length w) os (omega (arith, length-offsets x (start_of a) (region_count x a e), r))) j.0 j.1)

  -- and that one is the first
  pub is-first : seen < length os
      → InRegion x a e (start_of a + seen)
      × (f ≤ place_in x (start_of a + seen - 1) → place_in x (start_of a + seen - 1) < f + length w → ⊥)
      × ((q : ℕ) → InRegion x a e q → q < start_of a + seen → (f ≤ place_in x (q - 1)) × (place_in x (q - 1) < f + length w))
  is-first l =
      let c : seen < region_count x a e = rw (length-offsets x (start_of a) (region_count x a e)) at l in
      let one = region-one bytes x a e (length out) k in (
        region-base bytes x a e (length out) k (start_of a + seen) (omega arith) (omega arith),
        in-not f (f + length w) _ (ap (is_in f (f + length w)) (sym (base-offset x (start_of a) (region_count x a e) one seen c)) ∙ part-first f (f + length w) os l),
        λ q i m.
            let r = base-region bytes x a e (length out) k q i in
            in-known f (f + length w) _ (ap (is_in f (f + length w)) (sym (base-place x (start_of a) (region_count x a e) one q r.0 r.1)) ∙ part-before f (f + length w) os (q - start_of a) (omega (arith, r))),
      )
