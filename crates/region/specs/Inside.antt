-- How many of a region's bases lie in the file, line by line: in a line the offsets follow each other. If the offsets never go back, the
-- last of them decides.
use Prim.Native.Nat.{ℕ, zero, suc, ◌+◌, ◌-◌, ◌%◌, ◌^◌, ◌≤◌, ◌<◌, min}
use Rattle.std.specs.Prelude.{◌≡◌, Bool, ◌&&◌, leb}
use Rattle.std.proofs.Math.Path.{refl, ap, sym}
use Rattle.std.proofs.Common.{◌∙◌, add-one, add-zero, zero-add, add-suc, mod-lt}
use mathlib.Core.List.{List, [], ◌∷◌, ◌++◌}
use Rattle.std.proofs.Math.Bool.{true, false, cond}
use Rattle.std.proofs.Math.ListN.{length, get_or}
use Rattle.std.proofs.Math.Dec.{ltb}
use borrow.Author.Tests.{ltb-true, ltb-false, leb-true, lt-ltb, le-ltb}
use native.Mathlib.Omega.{arith}
use Rattle.std.proofs.Math.Nat.{sub-zero}
use Rattle.lines.specs.Lines.{up_from}
use Rattle.record.specs.declared.Record.{Record}
use Rattle.record.specs.Place.{place_of, places_from, place_in}
use Rattle.record.specs.Laws.{place-next, place-wrap, next-mod, length-places, get_or-places}
use Rattle.record.specs.EvenLines.{length-up_from}
use Rattle.region.specs.Exact.{offsets_of, in_file}

-- ---- offsets in a file

module _ (bytes : ℕ) where
  pub inside-le : (os : List ℕ) → in_file bytes os ≤ length os
  unfolding in_file
  inside-le [] = omega arith
  inside-le (o ∷ os) = go (ltb o bytes) (inside-le os)
    where
      go : (t : Bool) → in_file bytes os ≤ length os → cond t (suc (in_file bytes os)) 0 ≤ suc (length os)
      go true h = omega arith
      go false h = omega arith

  -- if one of the front ones is outside, those behind it do not matter
  pub inside-front : (os ps : List ℕ) → in_file bytes os < length os → in_file bytes (os ++ ps) ≡ in_file bytes os
  unfolding in_file
  inside-front [] ps h = absurd (omega arith)
  inside-front (o ∷ os) ps h = go (ltb o bytes) h (inside-front os ps)
    where
      go : (t : Bool) → cond t (suc (in_file bytes os)) 0 < suc (length os) → (in_file bytes os < length os → in_file bytes (os ++ ps) ≡ in_file bytes os)
          → cond t (suc (in_file bytes (os ++ ps))) 0 ≡ cond t (suc (in_file bytes os)) 0
      go true h r = ap suc (r (omega arith))
      go false h r = refl

  pub inside_both : (os ps : List ℕ) → length os ≤ in_file bytes os → in_file bytes (os ++ ps) ≡ length os + in_file bytes ps
  unfolding in_file
  inside_both [] ps h = sym (zero-add (in_file bytes ps))
  inside_both (o ∷ os) ps h = go (ltb o bytes) h (inside_both os ps)
    where
      go : (t : Bool) → suc (length os) ≤ cond t (suc (in_file bytes os)) 0 → (length os ≤ in_file bytes os → in_file bytes (os ++ ps) ≡ length os + in_file bytes ps)
          → cond t (suc (in_file bytes (os ++ ps))) 0 ≡ suc (length os) + in_file bytes ps
      go true h r = omega (arith, r (omega arith))
      go false h r = absurd (omega arith)

  -- all are inside if each is
  pub inside-each : (os : List ℕ) → length os ≤ in_file bytes os → (k : ℕ) → k < length os → get_or os k 0 < bytes
  unfolding in_file
  inside-each [] h k m = absurd (omega arith)
  inside-each (o ∷ os) h k m = go (ltb o bytes) refl h (inside-each os) k m
    where
      go : (t : Bool) → ltb o bytes ≡ t → suc (length os) ≤ cond t (suc (in_file bytes os)) 0
          → (length os ≤ in_file bytes os → (k : ℕ) → k < length os → get_or os k 0 < bytes) → (k : ℕ) → k < suc (length os) → get_or (o ∷ os) k 0 < bytes
      go true e h r zero m = ltb-true o bytes e
      go true e h r (suc k) m = r (omega arith) k (omega arith)
      go false e h r k m = absurd (omega arith)

  pub inside-every : (os : List ℕ) → ((k : ℕ) → k < length os → get_or os k 0 < bytes) → length os ≤ in_file bytes os
  unfolding in_file
  inside-every [] h = omega arith
  inside-every (o ∷ os) h =
      let r : length os ≤ in_file bytes os = inside-every os (λ k m. h (suc k) (omega arith)) in
      rw (lt-ltb o bytes (h 0 (omega arith))) (omega arith)

  -- offsets in a row: up to the file's end
  pub inside-run : (o n : ℕ) → in_file bytes (up_from o n) ≡ min n (bytes - o)
  unfolding in_file up_from
  inside-run o zero = omega arith
  inside-run o (suc n) = go (ltb o bytes) refl (inside-run (suc o) n)
    where
      go : (t : Bool) → ltb o bytes ≡ t → in_file bytes (up_from (suc o) n) ≡ min n (bytes - suc o) → cond t (suc (in_file bytes (up_from (suc o) n))) 0 ≡ min (suc n) (bytes - o)
      go true h r = omega (arith, ltb-true o bytes h)
      go false h r = omega (arith, ltb-false o bytes h)

-- ---- a region line by line

pub length-offsets : (x : Record) (a n : ℕ) → length (offsets_of x a n) ≡ n
length-offsets x a n = length-places x.position.0 x.line_bases x.line_width (a - 1) n

-- the bases of one line, and those behind them
places-run : (p b w k i n : ℕ) → i % b + k ≤ b → k ≤ n → places_from p b w i n ≡ up_from (place_of p b w i) k ++ places_from p b w (i + k) (n - k)
unfolding places_from up_from
places-run p b w zero i n h m = rw (add-zero i, sub-zero n)
places-run p b w (suc k) i zero h m = absurd (omega arith)
places-run p b w (suc zero) i (suc n) h m = rw (add-one i, q)
  where
    q : suc n - 1 ≡ n
    q = omega arith
places-run p b w (suc (suc k)) i (suc n) h m =
    ap (λ (l : List ℕ). place_of p b w i ∷ l)
    (places-run p b w (suc k) (suc i) n (omega (arith, next-mod p b w i (omega arith))) (omega arith)
    ∙ rw (place-next p b w i (omega arith), q, r))
  where
    q : suc i + suc k ≡ i + suc (suc k)
    q = omega arith

    r : n - suc k ≡ suc n - suc (suc k)
    r = omega arith

-- what a turn knows of n bases from base a on, once k are done: the next run of them are in one line
pub record Turn (x : Record) (a n k run : ℕ) : Type 0 where
  pub some : 0 < run
  pub most : k + run ≤ n
  pub offsets : offsets_of x (a + k) (n - k) ≡ up_from (place_in x (a + k - 1)) run ++ offsets_of x (a + (k + run)) (n - (k + run))

-- n bases from base a on have places by the rule, and 64 bits hold their positions
pub record Addressable (x : Record) (a n : ℕ) : Type 0 where
  pub some : 0 < n
  pub some-bases : 0 < x.line_bases
  pub some-width : 0 < x.line_width
  pub from_one : 0 < a
  pub fits : a + n ≤ 2 ^ 64

module _ (x : Record) (a n k run : ℕ) where
  pub turn : 0 < x.line_bases → 0 < a → k < n → run ≡ min (n - k) (x.line_bases - (a + k - 1) % x.line_bases) → Turn x a n k run
  turn b z h e =
      record {
        some = omega (arith, mod-lt (a + k - 1) b);
        most = omega arith;
        offsets =
            places-run x.position.0 x.line_bases x.line_width run (a + k - 1) (n - k) (omega (arith, mod-lt (a + k - 1) b)) (omega arith)
            ∙ rw (q, r);
      }
    where
      q : a + k - 1 + run ≡ a + (k + run) - 1
      q = omega arith

      r : n - k - run ≡ n - (k + run)
      r = omega arith

  -- less is left
  pub turn-less : Turn x a n k run → n - (k + run) < n - k
  turn-less t = omega (arith, t.some, t.most)

  -- if the file has so many bytes from the turn's first base on
  module _ (t : Turn x a n k run) (bytes rest : ℕ) (e : rest ≡ bytes - place_in x (a + k - 1)) where
    inside-line : in_file bytes (up_from (place_in x (a + k - 1)) run) ≡ min run rest
    inside-line = rw e (inside-run bytes (place_in x (a + k - 1)) run)

    -- a base of its line is outside
    pub turn-stops : rest < run → in_file bytes (offsets_of x (a + k) (n - k)) ≡ rest
    turn-stops h =
        ap (in_file bytes) t.offsets
        ∙ inside-front bytes (up_from (place_in x (a + k - 1)) run) _ (omega (arith, inside-line, length-up_from (place_in x (a + k - 1)) run))
        ∙ omega (arith, inside-line)

    -- none is
    pub turn-goes : run ≤ rest → in_file bytes (offsets_of x (a + k) (n - k)) ≡ run + in_file bytes (offsets_of x (a + (k + run)) (n - (k + run)))
    turn-goes h =
        ap (in_file bytes) t.offsets
        ∙ inside_both bytes (up_from (place_in x (a + k - 1)) run) _ (omega (arith, inside-line, length-up_from (place_in x (a + k - 1)) run))
        ∙ ap (λ (m : ℕ). m + in_file bytes (offsets_of x (a + (k + run)) (n - (k + run)))) (length-up_from (place_in x (a + k - 1)) run)

pub bases-start : (x : Record) (a n : ℕ) → offsets_of x (a + 0) (n - 0) ≡ offsets_of x a n
bases-start x a n = rw (add-zero a, sub-zero n)

pub bases-end : (x : Record) (a n k : ℕ) → n ≤ k → offsets_of x (a + k) (n - k) ≡ []
unfolding places_from
bases-end x a n k h = ap (λ (m : ℕ). offsets_of x (a + k) m) z
  where
    z : n - k ≡ 0
    z = omega arith

-- ---- offsets that do not go back

module _ (p b w : ℕ) (z : 0 < b) (h : b ≤ w) where
  rises : (i : ℕ) → place_of p b w i ≤ place_of p b w (suc i)
  rises i = go (ltb (i % b + 1) b) refl
    where
      go : (t : Bool) → ltb (i % b + 1) b ≡ t → place_of p b w i ≤ place_of p b w (suc i)
      go true e = omega (arith, place-next p b w i (ltb-true _ _ e))
      go false e = omega (arith, place-wrap p b w i z (omega (arith, ltb-false (i % b + 1) b e, mod-lt i z)))

  rises_by : (i k : ℕ) → place_of p b w i ≤ place_of p b w (i + k)
  rises_by i zero = rw (add-zero i) (omega arith)
  rises_by i (suc k) = rw (add-suc i k) (omega (arith, rises_by i k, rises (i + k)))

-- a file has bytes from an offset on exactly if the offset is in it
pub some_left : (bytes o : ℕ) → ltb 0 (bytes - o) ≡ ltb o bytes
some_left bytes o = go (ltb o bytes) refl
  where
    go : (t : Bool) → ltb o bytes ≡ t → ltb 0 (bytes - o) ≡ t
    go true h = lt-ltb 0 (bytes - o) (omega (arith, ltb-true o bytes h))
    go false h = le-ltb 0 (bytes - o) (omega (arith, ltb-false o bytes h))

pub last-known : (b w o bytes : ℕ) → (leb b w && ltb o bytes) ≡ true → (b ≤ w) × (o < bytes)
last-known b w o bytes h = go (leb b w) refl (ltb o bytes) refl h
  where
    go : (t : Bool) → leb b w ≡ t → (u : Bool) → ltb o bytes ≡ u → (t && u) ≡ true → (b ≤ w) × (o < bytes)
    go true h true k q = (leb-true _ _ h, ltb-true _ _ k)
    go true h false k q = let z : ◌≡◌ {A = ℕ} 0 1 = cc in absurd (omega arith)
    go false h u k q = let z : ◌≡◌ {A = ℕ} 0 1 = cc in absurd (omega arith)

-- if the last of n bases is inside, all are
pub last-all : (bytes : ℕ) (x : Record) (a n l : ℕ) → Addressable x a n → l ≡ a + (n - 1) → x.line_bases ≤ x.line_width → place_in x (l - 1) < bytes → n ≡ in_file bytes (offsets_of x a n)
last-all bytes x a n l r e h m = omega (arith, inside-le bytes (offsets_of x a n), length-offsets x a n, inside-every bytes (offsets_of x a n) each)
  where
    each : (k : ℕ) → k < length (offsets_of x a n) → get_or (offsets_of x a n) k 0 < bytes
    each k q =
        let f : k < n = rw (length-offsets x a n) at q in
        let s : a - 1 + k + (n - 1 - k) ≡ l - 1 = omega (arith, r.from_one) in
        rw (get_or-places x.position.0 x.line_bases x.line_width (a - 1) n k f)
        (omega (arith, rises_by x.position.0 x.line_bases x.line_width r.some-bases h (a - 1 + k) (n - 1 - k), ap (place_in x) s))

-- as many as there are: all
pub inside-all : (bytes : ℕ) (x : Record) (a n k : ℕ) → k ≡ in_file bytes (offsets_of x a n) → n ≤ k → in_file bytes (offsets_of x a n) ≡ n
inside-all bytes x a n k e h = omega (arith, inside-le bytes (offsets_of x a n), length-offsets x a n)
