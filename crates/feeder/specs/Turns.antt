-- How the code goes through a piece in which records lie whole: each part leaves what its lines leave, one after another.
use Rattle.std.specs.Prelude.{ℕ, ◌+◌, ◌-◌, ◌^◌, ◌≤◌, ◌<◌, ◌≡◌, List, Bool, cond, not, ◌&&◌, length, drop, get_or, eqb, Result, Ok, Err, ⊤}
use Rattle.std.proofs.Math.Path.{refl, ap, sym}
use Rattle.std.proofs.Common.{◌∙◌, eqb-true, arith}
use Rattle.std.proofs.Math.Bool.{true, false}
use Rattle.refusal.specs.declared.Refusal.{Refusal}
use Rattle.lines.specs.Lines.{part, lines, line_end}
use Rattle.lines.specs.Laws.{lines_at-cut, line_end-gt, line_end-le, part_length}
use Rattle.lines.specs.Feeding.{FedSum, absorb_sums}
use Rattle.definition.specs.declared.Definition as definition
use Rattle.definition.specs.Definition.{definition_says}
use Rattle.indexer.specs.LineSums.{sum_of}
use Rattle.record.specs.declared.Record.{Record}
use Rattle.table.specs.Numbers.{numbers_in, rest_of}
use Rattle.table.specs.NumberLaws.{length-numbers}
use Rattle.table.specs.Rows.{row_count}
use Rattle.table.specs.RowLaws.{without-row, kept-inside, full-outside}
use Rattle.table.specs.Bytes.{StoredIn}
use Rattle.fitting.specs.declared.Rule.{Rule}
use Rattle.feeder.specs.declared.Waiting.{Waiting}
use Rattle.feeder.specs.declared.SoFar.TheVariants.{Blank}
use Rattle.feeder.specs.declared.Phase.TheVariants.{Definition, Lines}
use Rattle.feeder.specs.declared.Out.{Out}
use Rattle.feeder.specs.declared.Out.TheVariants.{Emits}
use Rattle.feeder.specs.declared.Settled.{Settled}
use Rattle.feeder.specs.declared.Fed.{Fed}
use Rattle.feeder.specs.declared.Sequence.{Sequence}
use Rattle.feeder.specs.declared.Reached.{Reached}
use Rattle.feeder.specs.Waiting.{no_line, waiting_of}
use Rattle.feeder.specs.WaitingLaws.{new_line}
use Rattle.feeder.specs.Machine.{row_of, numbers_of_line, opened_at, definition_out, out_of, Filling, filling, applied, step_by, machine, fed_in, SettleDone}
use Rattle.feeder.specs.Small.{SmallPhase, SmallWaiting, FitsWithin}
use Rattle.feeder.specs.SmallLaws.{SmallSaid, says-small, grow-small, none-small, step_small}
use Rattle.feeder.specs.CodeLaws.{settled-row, fed-same}
use Rattle.feeder.specs.Fitted.{says-line}
use Rattle.feeder.specs.Passing.{seven, off, TurnDone}
use Rattle.feeder.specs.Records.{left, SequenceAt, left-line, left-ready, ends-before}

-- ---- contracts

-- a whole line that waits is judged as the last of its sequence
unfoldable pub readied : Rule → FedSum Filling Waiting → FedSum Filling Waiting
readied rule x = cond x.waiting.whole (record { state = step_by rule x.state x.waiting true; waiting = no_line }) x

pub record ReadyDone (rule : Rule) (f : Fed) (before : List ℕ) (r : Fed) (after : List ℕ) : Type 0 where
  pub is : fed_in r (numbers_in after) ≡ readied rule (fed_in f (numbers_in before))
  pub rest : rest_of after ≡ rest_of before

-- a record from i on, which begins at an offset: its row is written, and the next begins at r; or it is left
pub record RecordDone (at rows : ℕ) (p : List ℕ) (i : ℕ) (before : List ℕ) (r : ℕ) (after : List ℕ) : Type 0 where
  pub on : i ≤ r
  pub ahead : r < length p
  pub stays : r ≡ i → numbers_in after ≡ numbers_in before
  pub room : i < r → rows < length before
  pub gives : i < r → (rule : Rule) → left rule p (filling (Definition at) rows (numbers_in before)) i ≡ left rule p (filling (Definition (at + (r - i))) (rows + 1) (numbers_in after)) r
  pub rest : rest_of after ≡ rest_of before

-- records from i on
pub record RecordsDone (at rows : ℕ) (p : List ℕ) (i : ℕ) (before : List ℕ) (r : Reached) (after : List ℕ) : Type 0 where
  pub on : i ≤ r.at
  pub ahead : r.at < length p
  pub next : r.next + i ≡ at + r.at
  pub gives : (rule : Rule) → left rule p (filling (Definition at) rows (numbers_in before)) i ≡ left rule p (filling (Definition r.next) r.rows (numbers_in after)) r.at
  pub rest : rest_of after ≡ rest_of before

pub record WholeDone (f : Fed) (p : List ℕ) (i : ℕ) (before : List ℕ) (g : Fed) (j : ℕ) (after : List ℕ) : Type 0 where
  pub on : i ≤ j
  pub turn : (rule : Rule) → TurnDone rule f p i before g j after

-- is there no byte of a line that waits
unfoldable pub no_bytes : Waiting → Bool
no_bytes t = (((((not t.whole && not t.starts) && eqb t.width 0) && eqb t.bases 0) && eqb t.name 0) && eqb t.text 0) && eqb t.kept 0

pub no-bytes : (t : Waiting) → no_bytes t ≡ true → t ≡ no_line
unfolding no_bytes
no-bytes t e =
    let x = seven (not t.whole) (not t.starts) (eqb t.width 0) (eqb t.bases 0) (eqb t.name 0) (eqb t.text 0) (eqb t.kept 0) e in
    same t.width t.bases t.whole t.starts t.name t.text t.kept (eqb-true _ _ x.2) (eqb-true _ _ x.3) (off t.whole x.0) (off t.starts x.1) (eqb-true _ _ x.4) (eqb-true _ _ x.5) (eqb-true _ _ x.6)
  where
    same : (w b : ℕ) (u v : Bool) (x y z : ℕ) → w ≡ 0 → b ≡ 0 → u ≡ false → v ≡ false → x ≡ 0 → y ≡ 0 → z ≡ 0
        → record { width = w; bases = b; whole = u; starts = v; name = x; text = y; kept = z } ≡ no_line
    same w b u v x y z p q r s i j k = rw (p, q, r, s, i, j, k)

-- ---- a line that waits

module _ (rule : Rule) (f : Fed) (t : List ℕ) where
  readied-whole : (x : FedSum Filling Waiting) → x.waiting.whole ≡ true → readied rule x ≡ record { state = step_by rule x.state x.waiting true; waiting = no_line }
  unfolding readied
  readied-whole x w = rw w

  pub ready-whole : (out : Out) (s : Settled) (n : Waiting) (u : List ℕ) → f.waiting.whole ≡ true → out ≡ out_of rule f.phase f.waiting true → SettleDone out f.rows t s u → n ≡ no_line
      → ReadyDone rule f t (record { phase = s.phase; rows = s.rows; waiting = n }) u
  ready-whole out s n u w o d e = record { is = fed-same (d.is ∙ judged) e ∙ sym (readied-whole (fed_in f (numbers_in t)) w); rest = d.rest }
    where
      judged : applied f.rows (numbers_in t) out ≡ step_by rule (filling f.phase f.rows (numbers_in t)) f.waiting true
      judged = unfold step_by in ap (applied f.rows (numbers_in t)) o

  pub ready-open : f.waiting.whole ≡ false → ReadyDone rule f t f t
  unfolding readied
  ready-open w = record { is = rw w; rest = refl }

  module _ (p : List ℕ) (i : ℕ) (h : i < length p) (b : eqb (get_or p i 0) 62 ≡ true) (fits : FitsWithin (2 ^ 41 + i) f.phase f.waiting) where
    readied-is : (x : FedSum Filling Waiting) → absorb_sums (machine rule) (readied rule x) (lines (drop i p)) ≡ absorb_sums (machine rule) x (lines (drop i p))
    unfolding readied
    readied-is x = go x.waiting.whole refl
      where
        go : (w : Bool) → x.waiting.whole ≡ w
            → absorb_sums (machine rule) (cond w (record { state = step_by rule x.state x.waiting true; waiting = no_line }) x) (lines (drop i p)) ≡ absorb_sums (machine rule) x (lines (drop i p))
        go true w = sym (left-ready rule p x i w h ∙ ap (λ (last : Bool). left rule p (step_by rule x.state x.waiting last) i) b)
        go false w = refl

    readied-fits : (c : ℕ) (x : FedSum Filling Waiting) → FitsWithin c x.state.phase x.waiting → FitsWithin c (readied rule x).state.phase (readied rule x).waiting
    unfolding readied
    readied-fits c x g = go x.waiting.whole refl
      where
        go : (w : Bool) → x.waiting.whole ≡ w
            → FitsWithin c (cond {A = FedSum Filling Waiting} w (record { state = step_by rule x.state x.waiting true; waiting = no_line }) x).state.phase
            (cond {A = FedSum Filling Waiting} w (record { state = step_by rule x.state x.waiting true; waiting = no_line }) x).waiting
        go true w = record { most = g.most + x.waiting.width; phase = step_small rule g.most x.waiting true g.waiting w x.state g.phase; waiting = none-small; both = omega (arith, g.both) }
        go false w = g

    pub ready-turn : (r : Fed) (u : List ℕ) → ReadyDone rule f t r u → TurnDone rule f p i t r i u
    ready-turn r u d = record {
      is = ap (λ (x : FedSum Filling Waiting). absorb_sums (machine rule) x (lines (drop i p))) d.is ∙ readied-is (fed_in f (numbers_in t));
      rest = d.rest;
      within = omega (arith, h);
      fits = rw (← d.is) at (readied-fits (2 ^ 41 + i) (fed_in f (numbers_in t)) fits);
    }

pub turn-then : (rule : Rule) (p : List ℕ) (f : Fed) (i : ℕ) (t : List ℕ) (g : Fed) (j : ℕ) (u : List ℕ) (r : Fed) (k : ℕ) (v : List ℕ) → TurnDone rule f p i t g j u → TurnDone rule g p j u r k v → TurnDone rule f p i t r k v
turn-then rule p f i t g j u r k v a b = record { is = b.is ∙ a.is; rest = b.rest ∙ a.rest; within = b.within; fits = b.fits }

pub turn-here : (rule : Rule) (p : List ℕ) (f : Fed) (i : ℕ) (t : List ℕ) (g : Fed) (u : List ℕ) (j : ℕ) → j ≡ i → TurnDone rule f p i t g j u → TurnDone rule f p i t g i u
turn-here rule p f i t g u j e d = rw e at d

-- ---- a record

module _ (at rows : ℕ) (p : List ℕ) (i : ℕ) (h : i < length p) (t : List ℕ) where
  pub record-left : (u : List ℕ) → numbers_in u ≡ numbers_in t → rest_of u ≡ rest_of t → RecordDone at rows p i t i u
  record-left u e r = record {
    on = omega arith;
    ahead = h;
    stays = λ q. e;
    room = λ q. absurd (omega arith);
    gives = λ q. absurd (omega arith);
    rest = r;
  }

  pub record-full : (x : Record) (told : Result ⊤ Refusal) (u : List ℕ) (f : Refusal) → StoredIn t rows x told u → told ≡ Err f → RecordDone at rows p i t i u
  record-full x told u f s k =
      let r = full-outside (numbers_in t) rows f (sym s.stored.answer ∙ k) in
      record-left u (s.stored.table ∙ without-row (numbers_in t) rows x r.0) s.rest

  module _ (v : length p ≤ 2 ^ 40) (a : at ≤ 2 ^ 42) (e : ℕ) (q : e ≡ line_end p i) (said : definition.Definition) (n : definition_says (part p i e) ≡ Ok said) where
    abbrev l : List ℕ
    l = part p i e

    within : e ≤ length p
    within = omega (arith, q, line_end-le p i (omega arith))

    behind : i < e
    behind = omega (arith, q, line_end-gt p i h)

    long : length l ≡ e - i
    long = part_length p i e within

    line_small : SmallWaiting (waiting_of l)
    line_small = rw (new_line l (omega (arith, long, behind))) (grow-small no_line l none-small (omega (arith, long, behind)))

    line-wide : (waiting_of l).width ≡ length l
    unfolding waiting_of sum_of
    line-wide = refl

    said-small : SmallSaid (waiting_of l).width said
    said-small = says-small (waiting_of l) line_small said (says-line l ∙ n)

    pub record-small : (at + said.name.start < 2 ^ 63) × (at + said.description.start < 2 ^ 63)
    record-small = (omega (arith, said-small.name-start, line-wide, long, within, v, a), omega (arith, said-small.text-start, line-wide, long, within, v, a))

    opens : (rule : Rule) (m : ℕ) (b : List ℕ) → step_by rule (filling (Definition at) m b) (waiting_of l) false ≡ filling (Lines (opened_at at (e - i) said) Blank (at + (e - i))) m b
    unfolding step_by applied out_of definition_out
    opens rule m b = rw (says-line l, n, line-wide, long)

    opened : (s : Sequence) → SequenceAt p e s → (rule : Rule) (b : List ℕ) → left rule p (filling (Definition at) rows b) i ≡ left rule p (filling (Lines (opened_at at (e - i) said) Blank (at + (e - i))) rows b) e
    opened s o rule b =
        left-line rule p (filling (Definition at) rows b) i e l (omega (arith, long, behind)) (rw (← q) at (lines_at-cut p i h))
        ∙ left-ready rule p (record { state = filling (Definition at) rows b; waiting = waiting_of l }) e ended o.here
        ∙ ap (λ (st : Filling). left rule p st e) (ap (step_by rule (filling (Definition at) rows b) (waiting_of l)) o.starts ∙ opens rule rows b)
      where
        ended : (waiting_of l).whole ≡ true
        ended = unfold waiting_of sum_of in rw (← q) at (ends-before p i h (omega (arith, q, o.here)))

    pub record-kept : (s : Sequence) → SequenceAt p e s → (x : Record) (told : Result ⊤ Refusal) (u : List ℕ)
        → x ≡ row_of (record { at = at; end = at + (e - i); said = said }) (record { position = at + (e - i); bases = s.line.bases; width = s.line.width }) s.bases
        → StoredIn t rows x told u → told ≡ Ok tt → RecordDone at rows p i t s.next u
    record-kept s o x told u r d k = record {
      on = omega (arith, o.on, behind);
      ahead = o.ahead;
      stays = λ z. absurd (omega (arith, o.on, behind));
      room = λ z. (unfold row_count in omega (arith, kept-inside (numbers_in t) rows (sym d.stored.answer ∙ k), length-numbers t));
      gives = λ z rule. opened s o rule (numbers_in t) ∙ o.gives rule (opened_at at (e - i) said) (at + (e - i)) rows (numbers_in t) (omega (arith, a, v, within)) ∙ ap (λ (st : Filling). left rule p st s.next) written;
      rest = d.rest;
    }
      where
        written : applied rows (numbers_in t) (Emits (row_of (opened_at at (e - i) said) (numbers_of_line (at + (e - i)) s.line) s.bases) (at + (e - i) + (s.next - e))) ≡ filling (Definition (at + (s.next - i))) (rows + 1) (numbers_in u)
        written =
            let far : at + (e - i) + (s.next - e) ≡ at + (s.next - i) = omega (arith, o.on, behind) in
            sym (rw (← far, ← r) (settled-row (Emits x (at + (e - i) + (s.next - e))) rows t x (at + (e - i) + (s.next - e)) refl told u d k).is)

-- ---- records

module _ (at rows : ℕ) (p : List ℕ) (i : ℕ) (t : List ℕ) where
  pub records-none : i < length p → RecordsDone at rows p i t (record { next = at; rows = rows; at = i }) t
  records-none h = record { on = omega arith; ahead = h; next = refl; gives = λ rule. refl; rest = refl }

  module _ (r : Reached) (u : List ℕ) (o : RecordsDone at rows p i t r u) (e : ℕ) (v : List ℕ) (d : RecordDone r.next r.rows p r.at u e v) where
    pub records-on : r.at < e → RecordsDone at rows p i t (record { next = r.next + (e - r.at); rows = r.rows + 1; at = e }) v
    records-on h = record {
      on = omega (arith, o.on, h);
      ahead = d.ahead;
      next = omega (arith, o.next, h, o.on);
      gives = λ rule. o.gives rule ∙ d.gives h rule;
      rest = d.rest ∙ o.rest;
    }

    pub records-end : e ≡ r.at → RecordsDone at rows p i t r v
    records-end h = record {
      on = o.on;
      ahead = o.ahead;
      next = o.next;
      gives = λ rule. o.gives rule ∙ ap (λ (b : List ℕ). left rule p (filling (Definition r.next) r.rows b) r.at) (sym (d.stays h));
      rest = d.rest ∙ o.rest;
    }

module _ (f : Fed) (p : List ℕ) (i : ℕ) (h : i < length p) (t : List ℕ) (fits : FitsWithin (2 ^ 41 + i) f.phase f.waiting) where
  pub whole-none : WholeDone f p i t f i t
  whole-none = record { on = omega arith; turn = λ rule. record { is = refl; rest = refl; within = omega (arith, h); fits = fits } }

  module _ (at : ℕ) (a : f.phase ≡ Definition at) where
    pub whole-place : at ≤ 2 ^ 41 + i
    unfolding SmallPhase
    whole-place = let s = rw a at fits.phase in omega (arith, s, fits.both)

    pub whole-records : (r : Reached) (u : List ℕ) → no_bytes f.waiting ≡ true → RecordsDone at f.rows p i t r u
        → WholeDone f p i t (record { phase = Definition r.next; rows = r.rows; waiting = f.waiting }) r.at u
    whole-records r u e d = record {
      on = d.on;
      turn = λ rule. record {
        is = rw (a, no-bytes f.waiting e) (sym (d.gives rule));
        rest = d.rest;
        within = omega (arith, d.ahead);
        fits = record { most = r.next; phase = unfold SmallPhase in omega arith; waiting = fits.waiting; both = omega (arith, whole-place, d.next, ap (λ (x : Waiting). x.width) (no-bytes f.waiting e)) };
      };
    }
