-- Records that lie whole in a piece: what the lines of such a record give, one after another, is its row, by either rule.
use Prim.Native.Nat.{ℕ, zero, suc, ◌+◌, ◌-◌, ◌*◌, ◌%◌, ◌^◌, ◌≤◌, ◌<◌}
use Rattle.std.specs.Prelude.{◌≡◌, List, [], ◌∷◌, Bool, ◌&&◌, length, drop, get_or, eqb, ltb, None}
use Rattle.std.proofs.Math.Path.{refl, ap}
use Rattle.std.proofs.Common.{sym, ◌∙◌, length-drop, arith, add-zero, zero-add, mul-le-mul_left}
use Rattle.std.proofs.Math.Bool.{true, false}
use Rattle.std.proofs.Math.Dec.{leb}
use borrow.Author.Tests.{eq-eqb, ne_eqb, leb-true, ltb-true, le-leb}
use Rattle.std.proofs.Math.Nat.{one-mul, zero-mod, add-sub_cancel_left}
use Rattle.lines.specs.declared.Line.{Line}
use Rattle.lines.specs.Lines.{part, lines, line_len, line_end, chop, ends, bases_of, begins, seq_at, first_line, up_from}
use Rattle.lines.specs.Laws.{lines_at-cut, line_end-gt, line_end-le, part_length, first-within, bases-le, chop-le, ends-chop}
use Rattle.lines.specs.Alike.{is_like, alike, alike-within, open-last, both_left, like-width, like-bases}
use Rattle.lines.specs.Feeding.{FedSum, absorb_sum, absorb_sums}
use Rattle.indexer.specs.Index.{fits_last}
use Rattle.record.specs.Laws.{place-first}
use Rattle.walking.specs.Places.{first_elsewhere}
use Rattle.fitting.specs.declared.Numbers.{Numbers}
use Rattle.fitting.specs.declared.Rule.{Rule}
use Rattle.fitting.specs.declared.Rule.TheVariants.{Strict, Complete}
use Rattle.fitting.specs.Complete.{place_by}
use Rattle.feeder.specs.declared.Waiting.{Waiting}
use Rattle.feeder.specs.declared.Opened.{Opened}
use Rattle.feeder.specs.declared.SoFar.TheVariants.{Blank, Run, Rows}
use Rattle.feeder.specs.declared.Phase.{Phase}
use Rattle.feeder.specs.declared.Phase.TheVariants.{Lines}
use Rattle.feeder.specs.declared.Out.TheVariants.{Keeps, Emits}
use Rattle.feeder.specs.declared.Sequence.{Sequence}
use Rattle.feeder.specs.Waiting.{no_line, waiting_of}
use Rattle.feeder.specs.WaitingLaws.{new_line}
use Rattle.feeder.specs.Machine.{row_of, numbers_of_line, first_out, further_out, strict_out, told_row, passed_out, rows_out, bases_out, complete_out, line_out, out_of, Filling, filling, applied, step_by, machine}
use Rattle.feeder.specs.CodeLaws.{bases-there, begins-part}
use Rattle.feeder.specs.SmallLaws.{two}
use Rattle.feeder.specs.Passing.{waiting_like, like-waiting, seq-line, next-times, column-on, place-on, step-on, all-on}

-- ---- a sequence that lies whole in a piece

-- may a line be the last of some that are like x
unfoldable pub may_end : Line → Line → Bool
may_end l x = (ltb 0 l.bases && leb l.bases x.bases) && leb l.width x.width

-- what is left of a piece from i on, if no line waits
abbrev pub left : Rule → List ℕ → Filling → ℕ → FedSum Filling Waiting
left rule p st i = absorb_sums (machine rule) (record { state = st; waiting = no_line }) (lines (drop i p))

-- a sequence from e on: whatever its record, wherever it lies, and by either rule, it gives the row with its first line's numbers and its count
-- of bases, and the next record begins at `next`
pub record SequenceAt (p : List ℕ) (e : ℕ) (r : Sequence) : Type 0 where
  pub here : e < length p
  pub starts : eqb (get_or p e 0) 62 ≡ false
  pub on : e < r.next
  pub ahead : r.next < length p
  pub gives : (rule : Rule) (d : Opened) (z n : ℕ) (t : List ℕ) → z + length p < 2 ^ 61
      → left rule p (filling (Lines d Blank z) n t) e ≡ left rule p (applied n t (Emits (row_of d (numbers_of_line z r.line) r.bases) (z + (r.next - e)))) r.next

-- ---- a line, if none waits

module _ (rule : Rule) (p : List ℕ) where
  -- it waits
  pub left-line : (st : Filling) (i j : ℕ) (l : List ℕ) → 0 < length l → lines (drop i p) ≡ l ∷ lines (drop j p)
      → left rule p st i ≡ absorb_sums (machine rule) (record { state = st; waiting = waiting_of l }) (lines (drop j p))
  left-line st i j l h e = ap (absorb_sums (machine rule) (record { state = st; waiting = no_line })) e ∙ unfold absorb_sums absorb_sum in ap (λ (t : Waiting). absorb_sums (machine rule) (record { state = st; waiting = t }) (lines (drop j p))) (sym (new_line l h))

  -- a whole one is judged by its next byte
  pub left-ready : (x : FedSum Filling Waiting) (j : ℕ) → x.waiting.whole ≡ true → j < length p
      → absorb_sums (machine rule) x (lines (drop j p)) ≡ left rule p (step_by rule x.state x.waiting (eqb (get_or p j 0) 62)) j
  left-ready x j w h =
      let b : eqb (get_or p j 0) 62 ≡ begins (part p j (line_end p j)) = begins-part p j (line_end p j) (line_end-gt p j h) (line_end-le p j (omega arith)) in
      ap (absorb_sums (machine rule) x) (lines_at-cut p j h)
      ∙ judged (part p j (line_end p j)) (lines (drop (line_end p j) p)) b
      ∙ sym (left-line (step_by rule x.state x.waiting (eqb (get_or p j 0) 62)) j (line_end p j) (part p j (line_end p j)) (omega (arith, part_length p j (line_end p j) (line_end-le p j (omega arith)), line_end-gt p j h)) (lines_at-cut p j h))
    where
      judged : (l : List ℕ) (ls : List (List ℕ)) → eqb (get_or p j 0) 62 ≡ begins l
          → absorb_sums (machine rule) x (l ∷ ls) ≡ absorb_sums (machine rule) (record { state = step_by rule x.state x.waiting (eqb (get_or p j 0) 62); waiting = waiting_of l }) ls
      judged l ls b = unfold absorb_sums absorb_sum in rw (w, b)

-- a line with something behind it ends in LF
pub ends-before : (p : List ℕ) (i : ℕ) → i < length p → line_end p i < length p → ends 10 (part p i (line_end p i)) ≡ true
ends-before p i h k = go (ends 10 (part p i (line_end p i))) refl
  where
    go : (t : Bool) → ends 10 (part p i (line_end p i)) ≡ t → t ≡ true
    go true e = refl
    go false e =
        let o = open-last (drop i p) (rw (add-sub_cancel_left i (line_len (drop i p))) at e) in
        absurd (omega (arith, k, o, length-drop i p))

is-like : (x : Line) (l : List ℕ) → ends 10 l ≡ true → length l ≡ x.width → length (bases_of l) ≡ x.bases → is_like x l ≡ true
unfolding is_like
is-like x l e w b = rw (e, eq-eqb (length l) x.width w, eq-eqb (length (bases_of l)) x.bases b)

-- the sequence line at i, with something behind it
record LineAt (p : List ℕ) (i : ℕ) (x : Line) : Type 0 where
  bytes : List ℕ
  here : lines (drop i p) ≡ bytes ∷ lines (drop (i + x.width) p)
  starts : begins bytes ≡ false
  like : is_like x bytes ≡ true
  within : i < length p
  first : eqb (get_or p i 0) 62 ≡ false

line_at : (p : List ℕ) (i : ℕ) (x : Line) → i ≤ length p → x ≡ first_line (seq_at p i) → 0 < x.bases → i + x.width < length p → LineAt p i x
line_at p i x h e s w = go (seq_at p i) refl (ap (λ (y : Line). y.bases) e) (ap (λ (y : Line). y.width) e)
  where
    go : (ls : List (List ℕ)) → seq_at p i ≡ ls → x.bases ≡ (first_line ls).bases → x.width ≡ (first_line ls).width → LineAt p i x
    go [] q b c = absurd (omega arith)
    go (l ∷ ls) q b c =
        let here : i < length p = omega arith in
        let r = seq-line p i l ls here q in
        let cut : part p i (line_end p i) ∷ lines (drop (line_end p i) p) ≡ l ∷ lines (drop (i + length l) p) = sym (lines_at-cut p i here) ∙ r.1 in
        let same : part p i (line_end p i) ≡ l = cc in
        let far : line_end p i ≡ i + length l = omega (arith, ap length same, part_length p i (line_end p i) (line_end-le p i h), line_end-gt p i here) in
        let ended : ends 10 l ≡ true = ap (ends 10) (sym same) ∙ ends-before p i here (omega (arith, far, c, w)) in
        record {
          bytes = l;
          here = rw c r.1;
          starts = r.0;
          like = is-like x l ended (sym c) (sym b);
          within = here;
          first = begins-part p i (line_end p i) (line_end-gt p i here) (line_end-le p i h) ∙ ap begins same ∙ r.0;
        }

like-ends : (x : Line) (l : List ℕ) → is_like x l ≡ true → ends 10 l ≡ true
unfolding is_like
like-ends x l e = both_left (ends 10 l) _ (both_left (ends 10 l && eqb (length l) x.width) _ e)

like-apart : (x : Line) (l : List ℕ) → is_like x l ≡ true → x.bases < x.width
like-apart x l q = omega (arith, like-width x l q, like-bases x l q, chop-le 13 (chop 10 l), ltb-true (length (chop 10 l)) (length l) (sym (ends-chop 10 l) ∙ like-ends x l q))

-- a line and those like it lie in the piece
module _ (p : List ℕ) (e : ℕ) (h : e ≤ length p) (x : Line) (hx : x ≡ first_line (seq_at p e)) where
  pub first-in : e + x.width ≤ length p
  first-in = rw hx (first-within p e h)

  pub first_some : x.bases ≤ x.width
  first_some = rw hx (bases-le (seq_at p e))

  pub lines-in : (k : ℕ) → k ≡ alike x (seq_at p (e + x.width)) → (e + x.width + k * x.width ≤ length p) × (x.bases + k * x.bases ≤ length p)
  lines-in k hk =
      let a = rw (← hk) at (alike-within p x (e + x.width) first-in) in
      let b : k * x.bases ≤ k * x.width = mul-le-mul_left k first_some in
      (a, omega (arith, a, b, first_some))

-- ---- what the lines give

module _ (d : Opened) (x : Line) (z : ℕ) (some : 0 < x.bases) (apart : x.bases < x.width) where
  abbrev nums : Numbers
  nums = numbers_of_line z x

  -- behind k + 1 lines like x
  abbrev goes_on : Rule → ℕ → Phase
  goes_on Strict k = Lines d (Rows nums (suc k * x.bases)) (z + suc k * x.width)
  goes_on Complete zero = Lines d (Run nums) (z + 1 * x.width)
  goes_on Complete (suc k) = Lines d (Rows nums (suc (suc k) * x.bases)) (z + suc (suc k) * x.width)

  -- behind k of them
  abbrev phase_at : Rule → ℕ → Phase
  phase_at rule zero = Lines d Blank z
  phase_at rule (suc k) = goes_on rule k

  place-zero : z ≡ place_by nums 0
  place-zero = sym (place-first z x.bases x.width 0 some ∙ add-zero z)

  column : (k : ℕ) → (suc k * x.bases) % x.bases ≡ 0
  column k = rw (zero-add (suc k * x.bases)) at (column-on d nums 0 z some apart (zero-mod x.bases) place-zero (suc k))

  place : (k : ℕ) → z + suc k * x.width ≡ place_by nums (suc k * x.bases)
  place k = rw (zero-add (suc k * x.bases)) at (place-on d nums 0 z some apart (zero-mod x.bases) place-zero (suc k))

  module _ (k : ℕ) (t : Waiting) (bases : 0 < t.bases) (less : t.bases ≤ x.bases) (small : z + suc k * x.width + t.bases < 2 ^ 62) where
    there : None ≡ first_elsewhere (place_by nums) (suc k * x.bases) (up_from (z + suc k * x.width) t.bases)
    there =
        bases-there nums (suc k * x.bases) (z + suc k * x.width) t.bases some apart bases small (eqb (z + suc k * x.width) (place_by nums (suc k * x.bases))) refl
        (eq-eqb _ _ (place k)) (omega (arith, column k))

    rows-there : (last : Bool) → rows_out d nums (suc k * x.bases) (z + suc k * x.width) (record { width = t.width; bases = t.bases }) last
        ≡ passed_out d (Rows nums (suc k * x.bases + t.bases)) (z + suc k * x.width + t.width) last
    unfolding rows_out
    rows-there last = rw (← there)

  complete-out : (k : ℕ) (t : Waiting) → 0 < t.bases → t.bases ≤ x.bases → z + suc k * x.width + t.bases < 2 ^ 62 → (last : Bool)
      → out_of Complete (goes_on Complete k) t last ≡ passed_out d (Rows nums (suc k * x.bases + t.bases)) (z + suc k * x.width + t.width) last
  unfolding out_of line_out complete_out bases_out
  complete-out zero t b l v last = rw (ne_eqb t.bases 0 (λ e. omega arith), width) (ap (λ (c : ℕ). rows_out d nums c (z + 1 * x.width) (record { width = t.width; bases = t.bases }) last) (sym (one-mul x.bases)) ∙ rows-there zero t b l v last)
    where
      width : z + 1 * x.width - z ≡ x.width
      width = omega (arith, one-mul x.width)
  complete-out (suc k) t b l v last = rw (ne_eqb t.bases 0 (λ e. omega arith)) (rows-there (suc k) t b l v last)

  -- one more like them
  next-rows : (k : ℕ) → Lines d (Rows nums (suc k * x.bases + x.bases)) (z + suc k * x.width + x.width) ≡ Lines d (Rows nums (suc (suc k) * x.bases)) (z + suc (suc k) * x.width)
  next-rows k = rw (next-times (suc k) x.bases, next-times (suc k) x.width) (ap (Lines d (Rows nums (suc k * x.bases + x.bases))) q)
    where
      q : z + suc k * x.width + x.width ≡ z + (suc k * x.width + x.width)
      q = omega arith

  on_out : (rule : Rule) (k : ℕ) → z + suc k * x.width + x.bases < 2 ^ 62 → out_of rule (goes_on rule k) (waiting_like nums) false ≡ Keeps (goes_on rule (suc k))
  on_out Strict k v = unfold out_of line_out strict_out further_out fits_last in rw (eq-eqb x.bases x.bases refl, eq-eqb x.width x.width refl) (ap Keeps (next-rows k))
  on_out Complete k v = complete-out k (waiting_like nums) some (omega arith) v false ∙ (unfold passed_out in ap Keeps (next-rows k))

  -- the last
  last_out : (rule : Rule) (k : ℕ) (t : Waiting) → 0 < t.bases → t.bases ≤ x.bases → t.width ≤ x.width → z + suc k * x.width + t.bases < 2 ^ 62
      → out_of rule (goes_on rule k) t true ≡ Emits (row_of d nums (suc k * x.bases + t.bases)) (z + suc k * x.width + t.width)
  last_out Strict k t b l w v = unfold out_of line_out strict_out further_out fits_last in rw (le-leb t.width x.width w, le-leb t.bases x.bases l)
  last_out Complete k t b l w v = complete-out k t b l v true ∙ (unfold passed_out told_row in refl)

  first-out : (rule : Rule) → out_of rule (Lines d Blank z) (waiting_like nums) false ≡ Keeps (goes_on rule 0)
  first-out Strict = unfold out_of line_out strict_out first_out in rw (ne_eqb x.bases 0 (λ e. omega arith), one-mul x.bases, one-mul x.width)
  first-out Complete = unfold out_of line_out complete_out bases_out passed_out in rw (ne_eqb x.bases 0 (λ e. omega arith), one-mul x.width)

  first-last : (rule : Rule) → out_of rule (Lines d Blank z) (waiting_like nums) true ≡ Emits (row_of d nums (1 * x.bases)) (z + 1 * x.width)
  first-last Strict = unfold out_of line_out strict_out first_out in rw (ne_eqb x.bases 0 (λ e. omega arith), one-mul x.bases, one-mul x.width)
  first-last Complete = unfold out_of line_out complete_out bases_out passed_out told_row in rw (ne_eqb x.bases 0 (λ e. omega arith), one-mul x.bases, one-mul x.width)

  pub phase-on : (rule : Rule) (k : ℕ) → z + k * x.width + x.bases < 2 ^ 62 → out_of rule (phase_at rule k) (waiting_like nums) false ≡ Keeps (phase_at rule (suc k))
  phase-on rule zero v = first-out rule
  phase-on rule (suc k) v = on_out rule k v

  pub phase-last : (rule : Rule) (k : ℕ) → z + k * x.width + x.bases < 2 ^ 62 → out_of rule (phase_at rule k) (waiting_like nums) true ≡ Emits (row_of d nums (suc k * x.bases)) (z + suc k * x.width)
  phase-last rule zero v = first-last rule
  phase-last rule (suc k) v = last_out rule k (waiting_like nums) some (omega arith) (omega arith) v ∙ rw (next-times (suc k) x.bases, next-times (suc k) x.width) (ap (Emits (row_of d nums (suc k * x.bases + x.bases))) q)
    where
      q : z + suc k * x.width + x.width ≡ z + (suc k * x.width + x.width)
      q = omega arith

-- ---- the sequence

module _ (p : List ℕ) (e : ℕ) (h : e ≤ length p) (v : length p ≤ 2 ^ 40) (x : Line) (hx : x ≡ first_line (seq_at p e)) (some : 0 < x.bases) (k : ℕ) (hk : k ≡ alike x (seq_at p (e + x.width))) where
  abbrev behind : ℕ
  behind = e + x.width + k * x.width

  module _ (w : behind < length p) where
    first : LineAt p e x
    first = line_at p e x h hx some (omega (arith, w))

    apart : x.bases < x.width
    apart = like-apart x first.bytes first.like

    module _ (rule : Rule) (d : Opened) (z n : ℕ) (t : List ℕ) (u : z + length p < 2 ^ 61) where
      abbrev F : ℕ → Phase
      F = phase_at d x z some apart rule

      F-on : (j : ℕ) → j * x.width ≤ 2 ^ 40 → out_of rule (F j) (waiting_like (numbers_of_line z x)) false ≡ Keeps (F (suc j))
      F-on j q = phase-on d x z some apart rule j (omega (arith, q, u, v, apart, w))

      lines-before : left rule p (filling (Lines d Blank z) n t) e ≡ absorb_sums (machine rule) (record { state = filling (F k) n t; waiting = waiting_like (numbers_of_line z x) }) (lines (drop behind p))
      lines-before =
          left-line rule p (filling (Lines d Blank z) n t) e (e + x.width) first.bytes (omega (arith, like-width x first.bytes first.like, apart)) first.here
          ∙ ap (λ (y : Waiting). absorb_sums (machine rule) (record { state = filling (Lines d Blank z) n t; waiting = y }) (lines (drop (e + x.width) p))) (like-waiting (numbers_of_line z x) first.bytes first.like first.starts)
          ∙ sym (rw (← hk) at (all-on rule (numbers_of_line z x) (omega (arith, apart)) F (2 ^ 40) F-on n t p (e + x.width) (omega (arith, w)) v).is)

    so-many : suc k * x.bases ≡ x.bases + k * x.bases
    so-many = omega (arith, next-times k x.bases)

    so_far : (z : ℕ) → z + suc k * x.width ≡ z + (behind - e)
    so_far z = omega (arith, next-times k x.width)

    judged-alike : (rule : Rule) (d : Opened) (z n : ℕ) (t : List ℕ) (u : z + length p < 2 ^ 61) → eqb (get_or p behind 0) 62 ≡ true
        → step_by rule (filling (F rule d z n t u k) n t) (waiting_like (numbers_of_line z x)) (eqb (get_or p behind 0) 62)
        ≡ applied n t (Emits (row_of d (numbers_of_line z x) (x.bases + k * x.bases)) (z + (behind - e)))
    unfolding step_by
    judged-alike rule d z n t u g = rw (g, phase-last d x z some apart rule k (omega (arith, u, v, w, apart)), so-many, so_far z)

    -- the next record begins behind them
    pub ends-alike : eqb (get_or p behind 0) 62 ≡ true → SequenceAt p e (record { line = x; bases = x.bases + k * x.bases; next = behind })
    ends-alike g = record {
      here = first.within;
      starts = first.first;
      on = omega (arith, apart);
      ahead = w;
      gives = λ rule d z n t u.
          lines-before rule d z n t u
          ∙ left-ready rule p (record { state = filling (F rule d z n t u k) n t; waiting = waiting_like (numbers_of_line z x) }) behind refl w
          ∙ ap (λ (st : Filling). left rule p st behind) (judged-alike rule d z n t u g);
    }

    -- or behind one line more, which may be shorter
    module _ (y : Line) (hy : y ≡ first_line (seq_at p behind)) (m : may_end y x ≡ true) (q : behind + y.width < length p) (g : eqb (get_or p (behind + y.width) 0) 62 ≡ true) where
      may : (0 < y.bases) × (y.bases ≤ x.bases) × (y.width ≤ x.width)
      unfolding may_end
      may =
          let a = two (ltb 0 y.bases && leb y.bases x.bases) (leb y.width x.width) m in
          let b = two (ltb 0 y.bases) (leb y.bases x.bases) a.0 in
          (ltb-true 0 y.bases b.0, leb-true y.bases x.bases b.1, leb-true y.width x.width a.1)

      last : LineAt p behind y
      last = line_at p behind y (omega (arith, w)) hy may.0 q

      module _ (rule : Rule) (d : Opened) (z n : ℕ) (t : List ℕ) (u : z + length p < 2 ^ 61) where
        abbrev stood : FedSum Filling Waiting
        stood = record { state = filling (F rule d z n t u k) n t; waiting = waiting_like (numbers_of_line z x) }

        taken : absorb_sums (machine rule) stood (lines (drop behind p))
            ≡ absorb_sums (machine rule) (record { state = filling (goes_on d x z some apart rule k) n t; waiting = waiting_like (numbers_of_line z y) }) (lines (drop (behind + y.width) p))
        taken = ap (absorb_sums (machine rule) stood) last.here ∙ line_taken last.bytes (lines (drop (behind + y.width) p)) last.starts last.like
          where
            line_taken : (l : List ℕ) (ls : List (List ℕ)) → begins l ≡ false → is_like y l ≡ true
                → absorb_sums (machine rule) stood (l ∷ ls) ≡ absorb_sums (machine rule) (record { state = filling (goes_on d x z some apart rule k) n t; waiting = waiting_like (numbers_of_line z y) }) ls
            line_taken l ls b m = unfold absorb_sums absorb_sum in
                rw (b, step-on rule (numbers_of_line z x) (omega (arith, apart)) (F rule d z n t u) (2 ^ 40) (F-on rule d z n t u) n t p k (omega (arith, w, v)), like-waiting (numbers_of_line z y) l m b)

        so_far_last : z + suc k * x.width + y.width ≡ z + (behind + y.width - e)
        so_far_last = omega (arith, next-times k x.width)

        judged-last : step_by rule (filling (goes_on d x z some apart rule k) n t) (waiting_like (numbers_of_line z y)) (eqb (get_or p (behind + y.width) 0) 62)
            ≡ applied n t (Emits (row_of d (numbers_of_line z x) (x.bases + k * x.bases + y.bases)) (z + (behind + y.width - e)))
        unfolding step_by
        judged-last = rw (g, last_out d x z some apart rule k (waiting_like (numbers_of_line z y)) may.0 may.1 may.2 (omega (arith, u, v, w, may, apart, next-times k x.width)), so-many, so_far_last)

        last-gives : left rule p (filling (Lines d Blank z) n t) e ≡ left rule p (applied n t (Emits (row_of d (numbers_of_line z x) (x.bases + k * x.bases + y.bases)) (z + (behind + y.width - e)))) (behind + y.width)
        last-gives =
            lines-before rule d z n t u
            ∙ taken
            ∙ left-ready rule p (record { state = filling (goes_on d x z some apart rule k) n t; waiting = waiting_like (numbers_of_line z y) }) (behind + y.width) refl q
            ∙ ap (λ (st : Filling). left rule p st (behind + y.width)) judged-last

      pub ends_last : SequenceAt p e (record { line = x; bases = x.bases + k * x.bases + y.bases; next = behind + y.width })
      ends_last = record { here = first.within; starts = first.first; on = omega (arith, apart); ahead = q; gives = last-gives }
