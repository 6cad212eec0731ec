-- A sequence whose lines are even: strides, a last line that has no more bases, and blank lines. All its bases are where the strides say.
use Rattle.std.specs.Prelude.{ℕ, ◌+◌, ◌-◌, ◌*◌, ◌^◌, ◌≤◌, ◌<◌, min, ◌≡◌, refl, Bool, true, false, length, take, ltb, None}
use Rattle.std.proofs.Math.Path.{ap}
use Rattle.std.proofs.Common.{sym, ◌∙◌, eq-eqb, ltb-true, ltb-false, arith, zero-mul}
use mathlib.Core.List.{List, ◌∷◌, []}
use Rattle.std.proofs.Math.Nat.{add-zero}
use Rattle.lines.specs.Lines.{part, line_end, begins, seq_of, seq_at, bases_of, first_line, tail_of, none, sum_bases, sum_widths}
use Rattle.lines.specs.Laws.{part_length, line_end-le, no-line, some-line, bases-le, first-within, seq_at-next}
use Rattle.lines.specs.Alike.{alike}
use Rattle.lines.specs.UpTo.{marked, up_to_at, WholeLike, whole-passes, whole-within}
use Rattle.lines.specs.declared.Line.{Line}
use Rattle.record.specs.Place.{place_of}
use Rattle.walking.specs.Places.{walked_as}
use Rattle.walking.specs.Walk.{MovedOn, Onward, onward-start, onward-over, onward-bare, judged-there, moved-within, moved-next, walked-there}
use Rattle.walking.specs.Strides.{stride_line, behind_strides, stride-over}
use Rattle.walking.specs.declared.Stride.{Stride}

-- the sequence from an offset on has n bases, each where strides of b bases and width w from there on say, and ends at e
pub record EvenTo (s : List ℕ) (at n b w e : ℕ) : Type 0 where
  pub walked : record { bases = n; placed = None; next = e } ≡ walked_as (place_of at b w) at (seq_at s at)

-- k lines from an offset on are strides
pub record StridesPassed (s : List ℕ) (at b w k : ℕ) : Type 0 where
  pub onward : Onward s at at b w (at + k * w) (behind_strides b k (at + k * w))
  pub within : at + k * w ≤ length s

-- the lines from an offset on are blank, and end at e
pub record BlankTo (s : List ℕ) (i e : ℕ) : Type 0 where
  pub bare : sum_bases (seq_at s i) ≡ 0
  pub end : i + sum_widths (seq_at s i) ≡ e

marked-begins : (l : List ℕ) → marked 62 l ≡ begins l
marked-begins [] = refl
marked-begins (b ∷ l) = refl

-- a line that does not begin with '>' is one of its sequence
whole-sequence : (s : List ℕ) (x : Line) (i : ℕ) (l : List ℕ) → WholeLike s x 62 i l → seq_at s i ≡ l ∷ seq_at s (i + x.width)
unfolding seq_at seq_of
whole-sequence s x i l y = rw (y.here, ← marked-begins l, y.unmarked)

module _ (s : List ℕ) (at b w : ℕ) (z : 0 < b) (narrow : b < w) (fits : length s < 2 ^ 64) where
  module _ (h : at ≤ length s) where
    start : Onward s at at b w at (behind_strides b 0 at)
    start = rw (zero-mul b) (onward-start s at at b w z (omega arith))

    pub none_passed : StridesPassed s at b w 0
    none_passed = record { onward = rw (zero-mul w, add-zero at) start; within = rw (zero-mul w) (omega arith) }

    pub some-passed : (n : ℕ) → StridesPassed s at b w (alike (stride_line b w) (take n (up_to_at s 62 at)))
    some-passed n = record {
      onward = whole-passes s (stride_line b w) 62 n (λ k i. Onward s at at b w i (behind_strides b k i))
          (λ k i l m y o. stride-over s at b w z narrow fits k i l (whole-sequence s (stride_line b w) i l y) y.width y.bases y.within o) at h start;
      within = whole-within s (stride_line b w) 62 n at h;
    }

  -- behind k strides there is one line more, which ends the sequence
  module _ (k i : ℕ) (h : i ≤ length s) (o : Onward s at at b w i (behind_strides b k i)) (y : Line) (hy : y ≡ first_line (seq_at s i)) (some : y.bases ≡ 0 → ⊥) (most : y.bases ≤ b) where
    is-line : none (seq_at s i) ≡ false
    is-line = go (none (seq_at s i)) refl
      where
        go : (t : Bool) → none (seq_at s i) ≡ t → t ≡ false
        go true e = absurd (some (ap (λ (x : Line). x.bases) (hy ∙ ap first_line (no-line s i e))))
        go false e = refl

    abbrev line : List ℕ
    line = part s i (line_end s i)

    line_first : y ≡ record { width = length line; bases = length (bases_of line) }
    line_first = hy ∙ ap first_line (some-line s i is-line)

    line-end : line_end s i ≡ i + y.width
    line-end = omega (arith, ap (λ (x : Line). x.width) line_first, part_length s i (line_end s i) (line_end-le s i h))

    last_fits : (i + y.width ≤ length s) × (y.bases ≤ y.width)
    last_fits = (omega (arith, line-end, line_end-le s i h), rw hy (bases-le (seq_at s i)))

    ended_by : (e : ℕ) → BlankTo s (i + y.width) e → (next : Stride) → MovedOn (behind_strides b k i).stride b w y.bases next → EvenTo s at (k * b + y.bases) b w e
    ended_by e n next m =
        let v = behind_strides b k i in
        let g = walked-there b w v (record { 0 = i }) y.bases None next refl o.fewer (omega (arith, last_fits)) (λ e. absurd (omega arith))
        (judged-there v.stride b (k * b) (record { 0 = i }) y.bases (omega (arith, last_fits)) some z true (sym (eq-eqb i (i + 0) (omega arith))) refl (omega arith)) m in
        let p = onward-over s at at b w i v o line (i + y.width) y.bases _ (some-line s i is-line ∙ ap (λ (n : ℕ). line ∷ seq_at s n) line-end)
        (omega (arith, ap (λ (x : Line). x.width) line_first)) (ap (λ (x : Line). x.bases) line_first) g in
        record { walked = rw n.end at (onward-bare s at at b w (i + y.width) _ p n.bare) }

    pub even-told : (e : ℕ) → BlankTo s (i + y.width) e → EvenTo s at (k * b + y.bases) b w e
    even-told e n = go (ltb y.bases b) refl
      where
        go : (t : Bool) → ltb y.bases b ≡ t → EvenTo s at (k * b + y.bases) b w e
        go true q = ended_by e n _ (moved-within (behind_strides b k i).stride b w y.bases z (omega (arith, ltb-true y.bases b q)))
        go false q = ended_by e n _ (moved-next (behind_strides b k i).stride b w y.bases z (min (i + w) (2 ^ 64 - 1)) (omega (arith, ltb-false y.bases b q)) refl)

-- ---- blank lines

-- what is behind a place that some lines lead to is the same
pub record BlankSo (s : List ℕ) (at i : ℕ) : Type 0 where
  pub within : i ≤ length s
  pub bases : sum_bases (seq_at s at) ≡ sum_bases (seq_at s i)
  pub widths : at + sum_widths (seq_at s at) ≡ i + sum_widths (seq_at s i)

first-bases : (ls : List (List ℕ)) → sum_bases ls ≡ (first_line ls).bases + sum_bases (tail_of ls)
unfolding sum_bases
first-bases [] = refl
first-bases (l ∷ ls) = refl

first-widths : (ls : List (List ℕ)) → sum_widths ls ≡ (first_line ls).width + sum_widths (tail_of ls)
unfolding sum_widths
first-widths [] = refl
first-widths (l ∷ ls) = refl

module _ (s : List ℕ) (at : ℕ) where
  pub blank-start : at ≤ length s → BlankSo s at at
  blank-start h = record { within = h; bases = refl; widths = refl }

  module _ (i : ℕ) (h : BlankSo s at i) where
    pub blank-end : none (seq_at s i) ≡ true → BlankTo s at i
    unfolding sum_bases sum_widths
    blank-end n =
        let z : seq_at s i ≡ [] = no-line s i n in
        record { bare = h.bases ∙ ap sum_bases z; end = h.widths ∙ (ap (λ (ls : List (List ℕ)). i + sum_widths ls) z ∙ add-zero i) }

    pub blank-more : (y : Line) → y ≡ first_line (seq_at s i) → y.bases ≡ 0 → BlankSo s at (i + y.width)
    blank-more y e b =
        let w : y.width ≡ (first_line (seq_at s i)).width = ap (λ (x : Line). x.width) e in
        let v : y.bases ≡ (first_line (seq_at s i)).bases = ap (λ (x : Line). x.bases) e in
        let n : seq_at s (i + y.width) ≡ tail_of (seq_at s i) = rw w (seq_at-next s i h.within) in
        record {
          within = rw w (first-within s i h.within);
          bases = omega (arith, h.bases, first-bases (seq_at s i), v, b, ap sum_bases n);
          widths = omega (arith, h.widths, first-widths (seq_at s i), w, ap sum_widths n);
        }
