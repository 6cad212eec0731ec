-- A copy of a region's bases, line by line: what it will leave, and where the next line begins.
use Rattle.std.specs.Prelude.{ℕ, zero, suc, ◌+◌, ◌-◌, ◌%◌, ◌≤◌, ◌<◌, min, ◌≡◌, refl, take, drop, get_or}
use Rattle.std.proofs.Common.{ap, sym, ◌∙◌, arith, add-zero, zero-add, mod-lt}
use mathlib.Core.List.{List, [], ◌∷◌, ◌++◌, map, map-append, append_assoc, append-nil}
use Rattle.std.proofs.Math.ListN.{length, length-append, length-drop, take-append-drop}
use Rattle.std.proofs.Math.Seq.{drop-drop, paste, drop-paste}
use Rattle.std.proofs.lemmas.List.Edits.{take-paste, length-paste}
use Rattle.std.proofs.Math.Nat.{sub-zero, add_assoc}
use Rattle.lines.specs.Lines.{up_from}
use Rattle.record.specs.declared.Record.{Record}
use Rattle.record.specs.Place.{place_of, place_in}
use Rattle.record.specs.Laws.{place-wrap, place-run, run-mod, wrap-mod, get_or-places}
use Rattle.record.specs.EvenLines.{length-up_from}
use Rattle.record.specs.Bases.{byte_at, bytes-row}
use Rattle.region.specs.Exact.{offsets_of, in_file}
use Rattle.region.specs.Part.{LieIn}
use Rattle.region.specs.Inside.{length-offsets, inside-le, inside-each, Turn, Addressable, turn, turn-stops, turn-goes, bases-start, bases-end}

-- the byte of a part of a file, at an offset of the file; the part begins at offset f
abbrev pub byte_from : ℕ → List ℕ → ℕ → ℕ
byte_from f s o = byte_at s (o - f)

-- of a whole file, the byte at the offset
pub byte-start : (s os : List ℕ) → map (byte_from 0 s) os ≡ map (byte_at s) os
byte-start s [] = refl
byte-start s (o ∷ os) = rw (sub-zero o, byte-start s os)

-- some bytes in a row
bytes-from : (f : ℕ) (s : List ℕ) (o n : ℕ) → f ≤ o → map (byte_from f s) (up_from o n) ≡ map (byte_at s) (up_from (o - f) n)
unfolding up_from
bytes-from f s o zero h = refl
bytes-from f s o (suc n) h =
    let e : suc o - f ≡ suc (o - f) = omega arith in
    ap (λ (l : List ℕ). byte_at s (o - f) ∷ l) (bytes-from f s (suc o) n (omega arith) ∙ ap (λ (m : ℕ). map (byte_at s) (up_from m n)) e)

-- the bytes at some offsets written behind k bytes of the output
unfoldable pub copied : ℕ → List ℕ → ℕ → List ℕ → List ℕ → List ℕ
copied f s k out os = take k out ++ map (byte_from f s) os ++ drop (k + length os) out

module _ (f : ℕ) (s : List ℕ) where
  pub copied-start : (out os : List ℕ) → copied f s 0 out os ≡ map (byte_from f s) os ++ drop (length os) out
  unfolding copied
  copied-start out os = rw (zero-add (length os))

  pub copied-end : (k : ℕ) (out : List ℕ) → copied f s k out [] ≡ out
  unfolding copied
  copied-end k out = rw (add-zero k, append-nil (take k out), take-append-drop k out)

  pub copied-run : (k : ℕ) (out : List ℕ) (o n : ℕ) (os : List ℕ) → k + n ≤ length out → f ≤ o → o - f + n ≤ length s
      → copied f s k out (up_from o n ++ os) ≡ copied f s (k + n) (paste out k (drop (o - f) s) n) os
  unfolding copied
  copied-run k out o n os h l m =
      rw (map-append (byte_from f s) (up_from o n) os, bytes-from f s o n l, bytes-row s n (o - f) m, length-append (up_from o n) os, length-up_from o n, ← add_assoc k n (length os), ← append_assoc (take k out) (take n (drop (o - f) s)) (map (byte_from f s) os))
      (rw (take-paste out k (drop (o - f) s) n (omega arith) q, ← drop-drop (length os) (k + n) (paste out k (drop (o - f) s) n), drop-paste out k (drop (o - f) s) n (omega arith) q, drop-drop (length os) (k + n) out))
    where
      q : n ≤ length (drop (o - f) s)
      q = simp length-drop (omega arith)

-- what a turn of a copy of n bases knows once k are done: how it will end
pub record Copying (f : ℕ) (s : List ℕ) (x : Record) (a n : ℕ) (before : List ℕ) (k : ℕ) (out : List ℕ) : Type 0 where
  pub done : k ≤ n
  pub same : length out ≡ length before
  pub ends : copied f s k out (offsets_of x (a + k) (n - k)) ≡ map (byte_from f s) (offsets_of x a n) ++ drop n before

module _ (f : ℕ) (s : List ℕ) (x : Record) (a n : ℕ) (before : List ℕ) where
  pub copying-start : Copying f s x a n before 0 before
  copying-start =
      record {
        done = omega arith;
        same = refl;
        ends = rw (bases-start x a n) (copied-start f s before (offsets_of x a n) ∙ ap (λ (m : ℕ). map (byte_from f s) (offsets_of x a n) ++ drop m before) (length-offsets x a n));
      }

  module _ (k : ℕ) (out : List ℕ) (h : Copying f s x a n before k out) where
    pub copying-end : n ≤ k → out ≡ map (byte_from f s) (offsets_of x a n) ++ drop n before
    copying-end m = sym (copied-end f s k out) ∙ ap (copied f s k out) (sym (bases-end x a n k m)) ∙ h.ends

    module _ (run : ℕ) (t : Turn x a n k run) where
      abbrev place : ℕ
      place = place_in x (a + k - 1)

      pub copying-turn : n ≤ length before → f ≤ place → place + run ≤ f + length s → Copying f s x a n before (k + run) (paste out k (drop (place - f) s) run)
      copying-turn r l m =
          record {
            done = t.most;
            same = length-paste out k (drop (place - f) s) run (omega (arith, h.same, t.most)) (simp length-drop (omega arith)) ∙ h.same;
            ends =
                sym (copied-run f s k out place run (offsets_of x (a + (k + run)) (n - (k + run))) (omega (arith, h.same, t.most)) l (omega arith))
                ∙ ap (copied f s k out) (sym t.offsets)
                ∙ h.ends;
          }

-- ---- from one line to the next

-- behind the last base of a line, the next begins where the rule says
module _ (p b w : ℕ) (z : 0 < b) (i run : ℕ) (whole : i % b + run ≡ b) where
  last_sum : suc (i + (run - 1)) ≡ i + run
  last_sum = omega (arith, mod-lt i z)

  last-mod : (i + (run - 1)) % b + 1 ≡ b
  last-mod = omega (arith, run-mod p b w i (run - 1) (omega (arith, mod-lt i z)), mod-lt i z)

  wrap-place : place_of p b w (i + run) + b ≡ place_of p b w i + run + w
  wrap-place = rw (← last_sum) (omega (arith, place-wrap p b w (i + (run - 1)) z last-mod, place-run p b w i (run - 1) (omega (arith, mod-lt i z)), mod-lt i z))

  pub wrap-column : (i + run) % b ≡ 0
  wrap-column = rw (← last_sum) (wrap-mod p b w (i + (run - 1)) z last-mod)

-- a copy at the front of a line's bases: where they begin, and how many of them are wanted
pub record Lined (f : ℕ) (s : List ℕ) (x : Record) (a n : ℕ) (before : List ℕ) (k at run : ℕ) (out : List ℕ) : Type 0 where
  pub copying : Copying f s x a n before k out
  pub turning : Turn x a n k run
  pub place : f + at ≡ place_in x (a + k - 1)
  pub column : run ≡ min (n - k) (x.line_bases - (a + k - 1) % x.line_bases)

-- a copy from the part of a file that begins at offset f: all n bases from base a on lie in it, the first at a place of it, and so many
-- of them in its line. Of a whole file f is 0
pub record Starts (f : ℕ) (s : List ℕ) (x : Record) (a n at run : ℕ) : Type 0 where
  pub bases : Addressable x a n
  pub inside : LieIn f (f + length s) x a n
  pub place : f + at ≡ place_in x (a - 1)
  pub column : run ≡ min n (x.line_bases - (a - 1) % x.line_bases)

-- such a copy, from some base on
pub record Begins (s : List ℕ) (x : Record) (n at run : ℕ) : Type 0 where
  pub front : ℕ
  pub base : ℕ
  pub starts : Starts front s x base n at run

-- what it leaves, whatever base it is from
pub record Copies (s : List ℕ) (x : Record) (n at run : ℕ) (before after : List ℕ) : Type 0 where
  pub from : (f a : ℕ) → Starts f s x a n at run → after ≡ map (byte_from f s) (offsets_of x a n) ++ drop n before

pub lined-start : (f : ℕ) (s : List ℕ) (x : Record) (a n : ℕ) (before : List ℕ) (at run : ℕ) → Starts f s x a n at run → Lined f s x a n before 0 at run before
lined-start f s x a n before at run t =
    record {
      copying = copying-start f s x a n before;
      turning = turn x a n 0 run t.bases.some-bases t.bases.from_one t.bases.some q;
      place = rw (add-zero a) t.place;
      column = q;
    }
  where
    q : run ≡ min (n - 0) (x.line_bases - (a + 0 - 1) % x.line_bases)
    q = rw (add-zero a, sub-zero n) t.column

-- the offset of the first of some bases that all lie in a file fits
pub starts-fits : (bytes : ℕ) (x : Record) (a n : ℕ) → Addressable x a n → n ≤ in_file bytes (offsets_of x a n) → place_in x (a - 1) < bytes
starts-fits bytes x a n r h =
    let k : get_or (offsets_of x a n) 0 0 < bytes = inside-each bytes (offsets_of x a n) (omega (arith, length-offsets x a n)) 0 (omega (arith, length-offsets x a n, r.some)) in
    let p : get_or (offsets_of x a n) 0 0 ≡ place_in x (a - 1 + 0) = get_or-places x.position.0 x.line_bases x.line_width (a - 1) n 0 r.some in
    rw (p, add-zero (a - 1)) at k

module _ (f : ℕ) (s : List ℕ) (x : Record) (a n : ℕ) (before : List ℕ) (r : Addressable x a n) (i : LieIn f (f + length s) x a n) where
  -- the bases of a turn's line are inside, as the first and the last of them are
  turn_inside : (k run : ℕ) → Turn x a n k run → run ≡ min (n - k) (x.line_bases - (a + k - 1) % x.line_bases) → (f ≤ place_in x (a + k - 1)) × (place_in x (a + k - 1) + run ≤ f + length s)
  turn_inside k run t e =
      let b = i.each (a + k) (omega arith) (omega (arith, t.some, t.most)) in
      let l = i.each (a + k + (run - 1)) (omega arith) (omega (arith, t.some, t.most)) in
      let q : a + k + (run - 1) - 1 ≡ a + k - 1 + (run - 1) = omega (arith, r.from_one) in
      let p = place-run x.position.0 x.line_bases x.line_width (a + k - 1) (run - 1) (omega (arith, t.some, mod-lt (a + k - 1) r.some-bases)) in
      (b.0, omega (arith, t.some, rw q at l.1, p))

  module _ (room : n ≤ length before) (k at run : ℕ) (out : List ℕ) (l : Lined f s x a n before k at run out) where
    line-inside : (f ≤ place_in x (a + k - 1)) × (place_in x (a + k - 1) + run ≤ f + length s)
    line-inside = turn_inside k run l.turning l.column

    -- the line is inside the part, and has room
    pub lined-inside : (at + run ≤ length s) × (k + run ≤ length out)
    lined-inside = (omega (arith, line-inside, l.place), omega (arith, l.copying.same, l.turning.most))

    back : place_in x (a + k - 1) - f ≡ at
    back = omega (arith, l.place)

    lined-step : Copying f s x a n before (k + run) (paste out k (drop at s) run)
    lined-step = rw back at (copying-turn f s x a n before k out l.copying run l.turning room line-inside.0 line-inside.1)

    -- the last line
    pub lined-end : n - k ≤ run → paste out k (drop at s) run ≡ map (byte_from f s) (offsets_of x a n) ++ drop n before
    lined-end h = copying-end f s x a n before (k + run) (paste out k (drop at s) run) lined-step (omega arith)

    -- another line
    module _ (more : run < n - k) where
      whole : (a + k - 1) % x.line_bases + run ≡ x.line_bases
      whole = omega (arith, l.column, mod-lt (a + k - 1) r.some-bases)

      onward : a + k - 1 + run ≡ a + (k + run) - 1
      onward = omega (arith, r.from_one)

      lined-place : place_in x (a + (k + run) - 1) + x.line_bases ≡ f + at + run + x.line_width
      lined-place = rw (← onward, l.place) (wrap-place x.position.0 x.line_bases x.line_width r.some-bases (a + k - 1) run whole)

      next-turn : (run' : ℕ) → run' ≡ min (n - (k + run)) x.line_bases → run' ≡ min (n - (k + run)) (x.line_bases - (a + (k + run) - 1) % x.line_bases)
      next-turn run' e = rw (← onward, wrap-column x.position.0 x.line_bases x.line_width r.some-bases (a + k - 1) run whole, sub-zero x.line_bases) e

      pub lined-next : (at' run' : ℕ) → at' + x.line_bases ≡ at + run + x.line_width → run' ≡ min (n - (k + run)) x.line_bases → Lined f s x a n before (k + run) at' run' (paste out k (drop at s) run)
      lined-next at' run' p e =
          record {
            copying = lined-step;
            turning = turn x a n (k + run) run' r.some-bases r.from_one (omega arith) (next-turn run' e);
            place = omega (arith, lined-place);
            column = next-turn run' e;
          }

      -- which begins inside the part too
      pub lined-fits : (x.line_bases ≤ at + run + x.line_width) × (at + run + x.line_width < length s + x.line_bases)
      lined-fits =
          let t = turn x a n (k + run) (min (n - (k + run)) x.line_bases) r.some-bases r.from_one (omega arith) (next-turn _ refl) in
          omega (arith, t.some, lined-place, turn_inside (k + run) (min (n - (k + run)) x.line_bases) t (next-turn _ refl))

-- ---- bases of one line

-- n bases of one line, if a file has so many bytes from the first of them on
module _ (bytes : ℕ) (x : Record) (a n : ℕ) (r : Addressable x a n) (one : n ≤ x.line_bases - (a - 1) % x.line_bases) (rest : ℕ) (e : rest ≡ bytes - place_in x (a - 1)) where
  one-turn : Turn x a n 0 n
  one-turn = turn x a n 0 n r.some-bases r.from_one r.some (rw (add-zero a) (omega arith))

  from_start : rest ≡ bytes - place_in x (a + 0 - 1)
  from_start = rw (add-zero a) e

  -- one is outside
  pub line-stops : rest < n → rest ≡ in_file bytes (offsets_of x a n)
  line-stops h = sym (rw (bases-start x a n) at (turn-stops x a n 0 n one-turn bytes rest from_start h))

  -- all are inside
  pub line-goes : n ≤ rest → n ≡ in_file bytes (offsets_of x a n)
  line-goes h = omega (arith, rw (bases-start x a n) at (turn-goes x a n 0 n one-turn bytes rest from_start h), inside-le bytes (offsets_of x a n), length-offsets x a n)

  -- and the first lies so far before the file's end
  pub line-place : n ≤ rest → bytes - rest ≡ place_in x (a - 1)
  line-place h = omega (arith, r.some)
