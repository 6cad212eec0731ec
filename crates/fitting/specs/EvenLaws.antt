-- The fast way over even lines: the lines like the first are passed at once, one line that has no more bases may follow, then blank lines.
use Prim.Native.Nat.{ℕ, suc, ◌+◌, ◌-◌, ◌*◌, ◌≤◌}
use Rattle.std.specs.Prelude.{◌≡◌, Bool, true, length, Option, Some, None, Ok}
use Rattle.std.proofs.Math.Path.{refl, sym}
use Rattle.std.proofs.Common.{ap, ◌∙◌, true≢false, arith, add-zero, zero-mul}
use mathlib.Core.List.{List, [], ◌∷◌}
use Rattle.std.proofs.Math.Numerals.{add-one}
use Rattle.std.proofs.Math.Nat.{add-mul, one-mul}
use Rattle.lines.specs.declared.Line.{Line}
use Rattle.definition.specs.declared.Definition.{Definition}
use Rattle.lines.specs.Lines.{bases_of, seq_at, first_line, tail_of, none, sum_bases, sum_widths}
use Rattle.lines.specs.Laws.{seq_at-next, first-within, bases-le}
use Rattle.lines.specs.Alike.{alike, alike-passes, LineLike}
use Rattle.record.specs.EvenLines.{EvenLines, length-bases_at}
use Rattle.record.specs.EvenLines.EvenLines.{none as no_more, last as last_Line, more as line-more}
use Rattle.indexer.specs.Laws.{like-room}
use Rattle.fitting.specs.declared.LineAt.{LineAt}
use Rattle.indexer.specs.Rule.{row_for, sequence_by}
use Rattle.fitting.specs.Complete.{from_bases, complete}
use Rattle.fitting.specs.FirstLine.{terminated-here}
use Rattle.fitting.specs.Even.{FirstLineFits, even-fits}
use Rattle.fitting.specs.BlankLines.{PastBlank, same_start, no-bases, no_lines}

-- what is said of the sequence from an offset on: its lines are even, it has so many bases, and it ends there; or nothing
pub data EvenLinesAt (s : List ℕ) (at : ℕ) : Option (ℕ × ℕ) → Type 0 where
  even : {n e : ℕ} → FirstLineFits at (seq_at s at) → n ≡ sum_bases (seq_at s at) → e ≡ at + sum_widths (seq_at s at) → EvenLinesAt s at (Some (n, e))
  nothing : EvenLinesAt s at None

none_left : (ls : List (List ℕ)) → none ls ≡ true → ls ≡ []
none_left [] e = refl
none_left (l ∷ ls) e = absurd (true≢false (sym e))

-- no line is left, so none is blank
pub past-none : (s : List ℕ) (at : ℕ) → at ≤ length s → (t : Bool) → t ≡ none (seq_at s at) → t ≡ true → PastBlank s at (record { at = at; line = record { width = 0; bases = 0 } })
unfolding from_bases
past-none s at h t ht y =
    let q : seq_at s at ≡ [] = none_left (seq_at s at) (sym ht ∙ y) in
    record { same = same_start s at h; lines = rw q; line = rw q }

-- ---- the lines like the first

module _ (s : List ℕ) (x : Line) (from : ℕ) where
  -- k of them are passed, and i is behind them
  record Onto (k i : ℕ) : Type 0 where
    pub even : EvenLines x.bases x.width (seq_at s i) → EvenLines x.bases x.width (seq_at s from)
    pub bases : sum_bases (seq_at s from) ≡ k * x.bases + sum_bases (seq_at s i)
    pub widths : from + sum_widths (seq_at s from) ≡ i + sum_widths (seq_at s i)

  onto-line : (k i : ℕ) (l : List ℕ) → LineLike s x i l → Onto k i → Onto (suc k) (i + x.width)
  unfolding sum_bases sum_widths
  onto-line k i l y o =
      let q : suc k * x.bases ≡ k * x.bases + x.bases = rw (← add-one k, add-mul k 1 x.bases, one-mul x.bases) in
      record {
        even = λ e. o.even (rw y.here (line-more y.bases y.width e));
        bases = rw q (omega (arith, rw y.here at o.bases, y.bases));
        widths = omega (arith, rw y.here at o.widths, y.width);
      }

  onto-all : from ≤ length s → Onto (alike x (seq_at s from)) (from + alike x (seq_at s from) * x.width)
  onto-all h = alike-passes s x Onto onto-line from h (record { even = λ e. e; bases = rw (zero-mul x.bases) (omega arith); widths = refl })

-- ---- the whole sequence

module _ (s : List ℕ) (at : ℕ) (h : at ≤ length s) (x : Line) (hx : x ≡ first_line (seq_at s at)) where
  pub first_fits : (at + x.width ≤ length s) × (x.bases ≤ x.width)
  first_fits = rw hx (first-within s at h, bases-le (seq_at s at))

  module _ (z : x.bases ≡ 0 → ⊥) where
    -- by the lines behind the first
    even-from : (n j : ℕ) → EvenLines x.bases x.width (seq_at s (at + x.width)) → n ≡ x.bases + sum_bases (seq_at s (at + x.width))
        → j ≡ at + x.width + sum_widths (seq_at s (at + x.width)) → EvenLinesAt s at (Some (n, j))
    unfolding sum_bases sum_widths
    even-from n j c hn hj = go (seq_at s at) refl hx
      where
        next : seq_at s (at + x.width) ≡ tail_of (seq_at s at)
        next = rw hx (seq_at-next s at h)

        go : (ls : List (List ℕ)) → seq_at s at ≡ ls → x ≡ first_line ls → EvenLinesAt s at (Some (n, j))
        go [] e q = absurd (z (ap (λ (l : Line). l.bases) q))
        go (l ∷ ls) e q =
            let b : length (bases_of l) ≡ x.bases = sym (ap (λ (v : Line). v.bases) q) in
            let w : length l ≡ x.width = sym (ap (λ (v : Line). v.width) q) in
            let t : seq_at s (at + x.width) ≡ ls = rw e at next in
            let a : EvenLines x.bases x.width ls = rw t at c in
            let d : EvenLines (length (bases_of l)) (length l) ls = rw (b, w) a in
            let u : EvenLines (length (bases_of l)) (length l) (l ∷ ls) = line-more refl refl d in
            let v : FirstLineFits at (l ∷ ls) = even-fits at l ls u (omega (arith, b, z)) (rw e at (terminated-here s at h)) in
            let m : n ≡ sum_bases (seq_at s at) = rw e (omega (arith, b, rw t at hn)) in
            let k : j ≡ at + sum_widths (seq_at s at) = rw e (omega (arith, w, rw t at hj)) in
            even (rw e v) m k

    -- none follows it
    pub one-even : (t : Bool) → t ≡ none (seq_at s (at + x.width)) → t ≡ true → EvenLinesAt s at (Some (x.bases, (at + x.width)))
    unfolding sum_bases sum_widths
    one-even t ht y =
        let q : seq_at s (at + x.width) ≡ [] = none_left (seq_at s (at + x.width)) (sym ht ∙ y) in
        even-from x.bases (at + x.width) (rw q (no_more refl)) (rw q (omega arith)) (rw q (omega arith))

  module _ (k : ℕ) (hk : k ≡ alike x (seq_at s (at + x.width))) where
    pub like-fits : (at + x.width + k * x.width ≤ length s) × (k * x.bases ≤ k * x.width)
    like-fits = like-room s (at + x.width) x first_fits.0 k hk first_fits.1

    module _ (y : Line) (hy : y ≡ first_line (seq_at s (at + x.width + k * x.width))) where
      pub last_fits : (at + x.width + k * x.width + y.width ≤ length s) × (y.bases ≤ y.width)
      last_fits = rw hy (first-within s (at + x.width + k * x.width) like-fits.0, bases-le (seq_at s (at + x.width + k * x.width)))

      module _ (z : x.bases ≡ 0 → ⊥) (short : y.bases ≤ x.bases) (r : LineAt) (hr : PastBlank s (at + x.width + k * x.width + y.width) r) (blank : r.line.bases ≡ 0) where
        -- no base is behind the last of them
        none-behind : sum_bases (seq_at s (at + x.width + k * x.width + y.width)) ≡ 0
        none-behind =
            sym (length-bases_at (at + x.width + k * x.width + y.width) (seq_at s (at + x.width + k * x.width + y.width)))
            ∙ ap length (no-bases s (at + x.width + k * x.width + y.width) r hr blank)

        ends : r.at ≡ at + x.width + k * x.width + y.width + sum_widths (seq_at s (at + x.width + k * x.width + y.width))
        unfolding sum_widths
        ends = sym (add-zero r.at) ∙ rw (no_lines s _ r hr blank) at hr.same.next

        record Left (ls : List (List ℕ)) : Type 0 where
          pub even : EvenLines x.bases x.width ls
          pub bases : sum_bases ls ≡ y.bases
          pub widths : at + x.width + k * x.width + sum_widths ls ≡ r.at

        -- the last
        left : Left (seq_at s (at + x.width + k * x.width))
        unfolding sum_bases sum_widths
        left = go (seq_at s (at + x.width + k * x.width)) refl hy
          where
            next : seq_at s (at + x.width + k * x.width + y.width) ≡ tail_of (seq_at s (at + x.width + k * x.width))
            next = rw hy (seq_at-next s (at + x.width + k * x.width) like-fits.0)

            go : (ls : List (List ℕ)) → seq_at s (at + x.width + k * x.width) ≡ ls → y ≡ first_line ls → Left ls
            go [] e q =
                let b : y.bases ≡ 0 = ap (λ (l : Line). l.bases) q in
                let w : y.width ≡ 0 = ap (λ (l : Line). l.width) q in
                let t : seq_at s (at + x.width + k * x.width + y.width) ≡ [] = rw e at next in
                record { even = no_more refl; bases = sym b; widths = omega (arith, rw t at ends, w) }
            go (m ∷ ms) e q =
                let b : y.bases ≡ length (bases_of m) = ap (λ (l : Line). l.bases) q in
                let w : y.width ≡ length m = ap (λ (l : Line). l.width) q in
                let t : seq_at s (at + x.width + k * x.width + y.width) ≡ ms = rw e at next in
                let n : sum_bases ms ≡ 0 = rw t at none-behind in
                let c : length (bases_of m) ≤ x.bases = omega (arith, b) in
                record { even = last_Line c n; bases = omega (arith, b, n); widths = omega (arith, rw t at ends, w) }

        onto : Onto s x (at + x.width) k (at + x.width + k * x.width)
        onto = rw hk (onto-all s x (at + x.width) first_fits.0)

        pub even-said : EvenLinesAt s at (Some ((x.bases + k * x.bases + y.bases), r.at))
        even-said =
            even-from z (x.bases + k * x.bases + y.bases) r.at (onto.even left.even) (omega (arith, onto.bases, left.bases))
            (omega (arith, onto.widths, left.widths))

-- ---- a record whose lines are even, by its first line x

pub even-record : (s : List ℕ) (at e : ℕ) (d : Definition) → at ≤ e → (x : Line) → x ≡ first_line (seq_at s e) → (n j : ℕ) → EvenLinesAt s e (Some (n, j))
    → record { answer = Ok (Some (row_for at d n e x.bases x.width)); next = record { at = j } } ≡ sequence_by complete at (e - at) d (seq_at s e)
unfolding sequence_by
even-record s at e d le x hx n j (even same hn hj) =
    let split : at + (e - at) ≡ e = omega arith in
    rw (split, same.fits, hn, hj, hx) (rw (split, same.numbers))
