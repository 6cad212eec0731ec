-- Laws of one record by the ported rule: its lines after the first, turn by turn.
use Rattle.std.specs.Prelude.{ℕ, suc, ◌+◌, ◌-◌, ◌*◌, ◌≤◌, ◌<◌, ◌≡◌, Bool, true, false, leb, Some, Result, Ok, Err}
use Rattle.std.proofs.Math.Path.{refl}
use Rattle.std.proofs.Common.{ap, sym, ◌∙◌, true≢false, arith, add-one, add_assoc, add-mul, one-mul, zero-mul, mul-le-mul_left}
use mathlib.Core.List.{List, [], ◌∷◌}
use Rattle.std.proofs.Math.ListN.{length}
use Rattle.std.proofs.Math.Dec.{leb-zero}
use borrow.Author.Tests.{eq-eqb, ne_eqb, le-leb}
use Rattle.std.proofs.Math.Nat.{add-zero}
use Rattle.refusal.specs.declared.Refusal.{Refusal}
use Rattle.refusal.specs.declared.Refusal.TheVariants.{NoBases, LineBases, LineWidth}
use Rattle.lines.specs.declared.Line.{Line}
use Rattle.definition.specs.declared.Definition.{Definition}
use Rattle.lines.specs.Lines.{bases_of, seq_at, first_line, tail_of, none, sum_bases, sum_widths}
use Rattle.lines.specs.Laws.{seq_at-next, first-within, bases-le}
use Rattle.lines.specs.Alike.{LineLike, first_like, alike, alike-passes, alike-within, alike-ends, unlike-last}
use Rattle.indexer.specs.Rule.{Verdict, good, bad, row_for, judged_by, sequence_by}
use Rattle.indexer.specs.Index.{fits_last, rest_of, judge, ported, sequence_says, rest_as, rest_says}
use Rattle.indexer.specs.declared.Step.{Step}

-- the line at a place of a file ends in the file, and has no more bases than bytes
pub line-fits : (s : List ℕ) (e : ℕ) → e ≤ length s → (x : Line) → x ≡ first_line (seq_at s e) → (e + x.width ≤ length s) × (x.bases ≤ x.width)
line-fits s e h x hx = rw hx (first-within s e h, bases-le (seq_at s e))

-- ---- may a line be the last

fits-go : (last : Bool) (l first : Line) → last ≡ true → l.width ≤ first.width → leb l.bases first.bases ≡ fits_last last l first
unfolding fits_last
fits-go last l first h k = rw (h, le-leb l.width first.width k)

-- if there is no line at all, the end is good
fits-none : (first : Line) → fits_last true (first_line []) first ≡ true
unfolding fits_last
fits-none first = rw (leb-zero first.width, leb-zero first.bases)

-- ---- one turn: the first of some lines, by how it is judged

rest-shift : (n at : ℕ) (l : List ℕ) (ls : List (List ℕ)) (v : Verdict)
    → rest_as (n + length (bases_of l)) (at + length l) ls v ≡ rest_as n at (l ∷ ls) v
unfolding sum_bases sum_widths
rest-shift n at l ls good = rw (add_assoc n (length (bases_of l)) (sum_bases ls), add_assoc at (length l) (sum_widths ls))
rest-shift n at l ls (bad x) = refl

module _ (first : Line) (n at : ℕ) where
  pub rest-done : (ls : List (List ℕ)) → fits_last (none (tail_of ls)) (first_line ls) first ≡ true
      → Ok ((n + (first_line ls).bases), (at + (first_line ls).width)) ≡ rest_says first n at ls
  unfolding fits_last rest_says rest_of sum_bases sum_widths
  rest-done [] f = refl
  rest-done (l ∷ []) f = rw (f, add-zero (length l), add-zero (length (bases_of l)))
  rest-done (l ∷ m ∷ ls) f = absurd (true≢false (sym f))

  pub rest-bases : (ls : List (List ℕ)) → fits_last (none (tail_of ls)) (first_line ls) first ≡ false
      → ((first_line ls).bases ≡ first.bases → ⊥) → Err (LineBases (first_line ls).bases first.bases) ≡ rest_says first n at ls
  unfolding rest_says rest_of
  rest-bases [] f h = absurd (true≢false (sym (fits-none first) ∙ f))
  rest-bases (l ∷ ls) f h = rw (f, ne_eqb (length (bases_of l)) first.bases h)

  pub rest-width : (ls : List (List ℕ)) → fits_last (none (tail_of ls)) (first_line ls) first ≡ false
      → (first_line ls).bases ≡ first.bases → ((first_line ls).width ≡ first.width → ⊥) → Err (LineWidth (first_line ls).width first.width) ≡ rest_says first n at ls
  unfolding rest_says rest_of
  rest-width [] f h k = absurd (true≢false (sym (fits-none first) ∙ f))
  rest-width (l ∷ ls) f h k = rw (f, eq-eqb (length (bases_of l)) first.bases h, ne_eqb (length l) first.width k)

  pub rest-on : (ls : List (List ℕ)) → fits_last (none (tail_of ls)) (first_line ls) first ≡ false
      → (first_line ls).bases ≡ first.bases → (first_line ls).width ≡ first.width
      → rest_says first (n + (first_line ls).bases) (at + (first_line ls).width) (tail_of ls) ≡ rest_says first n at ls
  unfolding fits_last rest_says rest_of sum_bases sum_widths
  rest-on [] f h k = absurd (true≢false (sym (fits-none first) ∙ f))
  rest-on (l ∷ ls) f h k = rw (f, eq-eqb (length (bases_of l)) first.bases h, eq-eqb (length l) first.width k) (rest-shift n at l ls (rest_of first ls))

-- the same turn, by what the code has at hand: the line x at i, whether its sequence ends behind it, whether it fits
module _ (s : List ℕ) (i n : ℕ) (first x : Line) (h : i ≤ length s) (hx : x ≡ first_line (seq_at s i)) (t f : Bool)
    (ht : t ≡ none (seq_at s (i + x.width))) (hf : f ≡ fits_last t x first) where
  fate : fits_last (none (tail_of (seq_at s i))) (first_line (seq_at s i)) first ≡ f
  fate = sym (hf ∙ rw (ht, hx, seq_at-next s i h))

  pub turn-done : f ≡ true → Ok ((n + x.bases), (i + x.width)) ≡ rest_says first n i (seq_at s i)
  turn-done e = rw hx (rest-done first n i (seq_at s i) (fate ∙ e))

  pub turn-bases : f ≡ false → (x.bases ≡ first.bases → ⊥) → Err (LineBases x.bases first.bases) ≡ rest_says first n i (seq_at s i)
  turn-bases e k = rw hx (rest-bases first n i (seq_at s i) (fate ∙ e) (rw hx at k))

  pub turn-width : f ≡ false → x.bases ≡ first.bases → (x.width ≡ first.width → ⊥) → Err (LineWidth x.width first.width) ≡ rest_says first n i (seq_at s i)
  turn-width e k m = rw hx (rest-width first n i (seq_at s i) (fate ∙ e) (rw hx at k) (rw hx at m))

  pub turn_on : f ≡ false → x.bases ≡ first.bases → x.width ≡ first.width
      → rest_says first (n + x.bases) (i + x.width) (seq_at s (i + x.width)) ≡ rest_says first n i (seq_at s i)
  turn_on e k m = rw (hx, seq_at-next s i h) (rest-on first n i (seq_at s i) (fate ∙ e) (rw hx at k) (rw hx at m))

-- ---- the lines that are like the first

module _ (first : Line) (n at : ℕ) (l : List ℕ) (w : length l ≡ first.width) (b : length (bases_of l) ≡ first.bases) where
  -- one of them may be the last: then none is left, and that is good too
  last-like : (ls : List (List ℕ)) → fits_last (none ls) (first_line (l ∷ ls)) first ≡ true
      → rest_says first (n + length (bases_of l)) (at + length l) ls ≡ rest_says first n at (l ∷ ls)
  unfolding fits_last rest_of rest_says
  last-like [] f = rw f (rest-shift n at l [] good)
  last-like (m ∷ ls) f = absurd (true≢false (sym f))

  like-shift : (ls : List (List ℕ)) (t : Bool) → fits_last (none ls) (first_line (l ∷ ls)) first ≡ t
      → rest_says first (n + length (bases_of l)) (at + length l) ls ≡ rest_says first n at (l ∷ ls)
  like-shift ls true f = last-like ls f
  like-shift ls false f = rest-on first n at (l ∷ ls) f b w

  rest-like : (ls : List (List ℕ)) → rest_says first (n + first.bases) (at + first.width) ls ≡ rest_says first n at (l ∷ ls)
  rest-like ls = rw (b, w) at (like-shift ls (fits_last (none ls) (first_line (l ∷ ls)) first) refl)

module _ (s : List ℕ) (at : ℕ) (first : Line) (h : at ≤ length s) where
  -- they are passed all at once
  module _ (n : ℕ) where
    like-on : (k i : ℕ) (l : List ℕ) → LineLike s first i l → rest_says first (n + k * first.bases) i (seq_at s i) ≡ rest_says first n at (seq_at s at)
        → rest_says first (n + suc k * first.bases) (i + first.width) (seq_at s (i + first.width)) ≡ rest_says first n at (seq_at s at)
    like-on k i l y e =
        let q : n + suc k * first.bases ≡ n + k * first.bases + first.bases = rw (← add-one k, add-mul k 1 first.bases, one-mul first.bases) (omega arith) in
        rw q (rest-like first (n + k * first.bases) i l y.width y.bases (seq_at s (i + first.width)) ∙ sym (ap (rest_says first (n + k * first.bases) i) y.here) ∙ e)

    pub like-passed : (k i m : ℕ) → k ≡ alike first (seq_at s at) → i ≡ at + k * first.width → m ≡ n + k * first.bases → rest_says first m i (seq_at s i) ≡ rest_says first n at (seq_at s at)
    like-passed k i m hk hi hm =
        rw (hm, hi, hk) (alike-passes s first (λ k i. rest_says first (n + k * first.bases) i (seq_at s i) ≡ rest_says first n at (seq_at s at)) like-on at h (rw (zero-mul first.bases, add-zero n)))

  -- what they have fits in the file
  pub like-room : (k : ℕ) → k ≡ alike first (seq_at s at) → first.bases ≤ first.width → (at + k * first.width ≤ length s) × (k * first.bases ≤ k * first.width)
  like-room k hk b = (rw hk (alike-within s first at h), mul-le-mul_left k b)

  -- the line behind them has another width than the first, if it has the first's bases and may not be the last
  pub width-differs : (k i : ℕ) (x : Line) (t f : Bool) → k ≡ alike first (seq_at s at) → i ≡ at + k * first.width → x ≡ first_line (seq_at s i) → t ≡ none (seq_at s (i + x.width)) → f ≡ fits_last t x first
      → 0 < first.bases → f ≡ false → x.bases ≡ first.bases → x.width ≡ first.width → ⊥
  width-differs k i x t f hk hi hx ht hf z e b w =
      let m : i ≤ length s = rw (hi, hk) (alike-within s first at h) in
      let u : first_like first (seq_at s i) ≡ false = rw (hi, hk) (alike-ends s first at h) in
      let n : none (seq_at s i) ≡ false = some-bases (seq_at s i) (omega (arith, ap (λ (y : Line). y.bases) hx, b, z)) in
      let last : t ≡ true = ht ∙ ap (λ (v : ℕ). none (seq_at s (i + v))) w ∙ unlike-last s i first m n u (ap (λ (y : Line). y.width) (sym hx) ∙ w) (ap (λ (y : Line). y.bases) (sym hx) ∙ b) in
      true≢false (sym (sym (fits-go t x first last (omega (arith, w))) ∙ le-leb x.bases first.bases (omega (arith, b))) ∙ sym hf ∙ e)
    where
      some-bases : (ls : List (List ℕ)) → 0 < (first_line ls).bases → none ls ≡ false
      some-bases [] q = absurd (omega arith)
      some-bases (l ∷ ls) q = refl

-- ---- a record from its first line on

-- what the rest says, as the answer on the whole record
abbrev pub answer_as : ℕ → Definition → ℕ → Line → Result (ℕ × ℕ) Refusal → Step
answer_as at d p x (Ok (m, e)) = record { answer = Ok (Some (row_for at d m p x.bases x.width)); next = record { at = e } }
answer_as at d p x (Err r) = record { answer = Err r; next = record { at = at } }

module _ (at n : ℕ) (d : Definition) where
  pub judge-none : (ls : List (List ℕ)) → (first_line ls).bases ≡ 0
      → record { answer = Err (NoBases (at + n + (first_line ls).width)); next = record { at = at } } ≡ sequence_says at n d ls
  unfolding judge sequence_by
  judge-none [] h = rw (add-zero (at + n))
  judge-none (l ∷ ls) h = rw (eq-eqb (length (bases_of l)) 0 h)

  pub judge-some : (ls : List (List ℕ)) → ((first_line ls).bases ≡ 0 → ⊥)
      → answer_as at d (at + n) (first_line ls) (rest_says (first_line ls) (first_line ls).bases (at + n + (first_line ls).width) (tail_of ls)) ≡ sequence_says at n d ls
  unfolding judge sequence_by rest_says sum_bases sum_widths
  judge-some [] h = absurd (h refl)
  judge-some (l ∷ ls) h = rw (ne_eqb (length (bases_of l)) 0 h) (go (rest_of (first_line (l ∷ ls)) ls))
    where
      go : (v : Verdict) → answer_as at d (at + n) (first_line (l ∷ ls)) (rest_as (length (bases_of l)) (at + n + length l) ls v) ≡ judged_by ported at n d (l ∷ ls) v
      go good = rw (add_assoc (at + n) (length l) (sum_widths ls))
      go (bad r) = refl

-- the same, by what the code has at hand: the first line x at e
module _ (s : List ℕ) (at e : ℕ) (d : Definition) (le : at ≤ e) (h : e ≤ length s) (x : Line) (hx : x ≡ first_line (seq_at s e)) where
  split : at + (e - at) ≡ e
  split = omega arith

  pub record-none : x.bases ≡ 0 → record { answer = Err (NoBases (e + x.width)); next = record { at = at } } ≡ sequence_says at (e - at) d (seq_at s e)
  record-none z = rw hx (rw split at (judge-none at (e - at) d (seq_at s e) (rw hx at z)))

  pub record-some : (x.bases ≡ 0 → ⊥) → (r v : Result (ℕ × ℕ) Refusal) → r ≡ rest_says x x.bases (e + x.width) (seq_at s (e + x.width)) → r ≡ v
      → answer_as at d e x v ≡ sequence_says at (e - at) d (seq_at s e)
  record-some z r v hr hv =
      rw (← hv, hr, hx, seq_at-next s e h) (rw split at (judge-some at (e - at) d (seq_at s e) (rw hx at z)))
