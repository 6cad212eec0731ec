-- Every state that calls reach from the start of a file is sound, and takes bytes unless it is refused; and a refusal stays.
use Rattle.std.specs.Prelude.{ℕ, ◌+◌, ◌-◌, ◌≤◌, ◌<◌, ◌≡◌, Bool, cond, not, ◌||◌, eqb, ltb, Option, Some, None, Result, Ok, Err}
use Rattle.std.proofs.Math.Path.{refl}
use Rattle.std.proofs.Common.{arith}
use mathlib.Core.List.{List, [], ◌∷◌}
use Rattle.std.proofs.Math.Bool.{true, false}
use Rattle.record.specs.declared.Offset.{Offset}
use Rattle.record.specs.declared.Position.{Position}
use Rattle.definition.specs.declared.Definition as definition
use Rattle.definition.specs.declared.Fault.{Fault}
use borrow.Author.Tests.{le-leb, lt-ltb}
use Rattle.refusal.specs.declared.Numbers as refused
use Rattle.record.specs.declared.Record.{Record}
use Rattle.lines.specs.declared.Line.{Line}
use Rattle.lines.specs.Lines.{lines, begins, up_from}
use Rattle.lines.specs.Feeding.{FedSum, absorb_sum, absorb_sums, feed_sum}
use Rattle.indexer.specs.Index.{fits_last}
use Rattle.indexer.specs.LineSums.{sum_says}
use Rattle.walking.specs.Places.{first_elsewhere}
use Rattle.table.specs.Rows.{row_count}
use Rattle.fitting.specs.declared.Numbers.{Numbers}
use Rattle.fitting.specs.Complete.{place_by}
use Rattle.fitting.specs.declared.Rule.{Rule}
use Rattle.fitting.specs.declared.Rule.TheVariants.{Strict, Complete}
use Rattle.feeder.specs.declared.Waiting.{Waiting}
use Rattle.feeder.specs.declared.Opened.{Opened}
use Rattle.feeder.specs.declared.SoFar.{SoFar}
use Rattle.feeder.specs.declared.SoFar.TheVariants.{Blank, Run, Rows}
use Rattle.feeder.specs.declared.Phase.{Phase}
use Rattle.feeder.specs.declared.Phase.TheVariants.{Definition, Lines, Halted, Ended}
use Rattle.feeder.specs.declared.Out.{Out}
use Rattle.feeder.specs.declared.Out.TheVariants.{Keeps, Emits}
use Rattle.feeder.specs.declared.Feeder.{Feeder}
use Rattle.feeder.specs.Waiting.{unpack, waiting_of, grow_by}
use Rattle.feeder.specs.Machine.{close_alone, definition_out, first_out, further_out, strict_out, passed_out, placed_out, rows_out, bases_out, complete_out, line_out, out_of, Filling, filling, applied, step_by, machine}
use Rattle.feeder.specs.Small.{SmallWaiting, SmallOpened, SmallNumbers, SmallSoFar, SmallPhase, FitsWithin}
use Rattle.feeder.specs.Calls.{limit, sound_waiting, sound_opened, sound_numbers, sound_so_far, sound_phase, sound_of}

-- ---- a state that fits is sound

small-waiting : (t : Waiting) → SmallWaiting t → t.width ≤ limit → sound_waiting t ≡ true
unfolding sound_waiting
small-waiting t s h =
    rw (le-leb t.bases t.width s.bases, le-leb t.name t.width s.name, le-leb t.text t.width s.text, le-leb t.kept t.width s.kept, le-leb t.width limit h)
    (go t.whole s.ended)
  where
    go : (w : Bool) → (w ≡ true → t.bases < t.width) → (not w || ltb t.bases t.width) ≡ true
    go true e = lt-ltb _ _ (e refl)
    go false e = refl

module _ (m : ℕ) (h : m ≤ limit) where
  small-opened : (d : Opened) → SmallOpened m d → sound_opened d ≡ true
  unfolding sound_opened
  small-opened d s =
      rw (
        le-leb d.at limit (omega (arith, s.at)),
        le-leb d.end limit (omega (arith, s.end)),
        le-leb d.said.name.start limit (omega (arith, s.name-start)),
        le-leb d.said.name.length limit (omega (arith, s.name-length)),
        le-leb d.said.description.start limit (omega (arith, s.text-start)),
        le-leb d.said.description.length limit (omega (arith, s.text-length)),
      )

  small-numbers : (n : Numbers) → SmallNumbers m n → sound_numbers n ≡ true
  unfolding sound_numbers
  small-numbers n s =
      rw (
        le-leb n.position limit (omega (arith, s.position)),
        le-leb n.bases limit (omega (arith, s.bases)),
        le-leb n.width limit (omega (arith, s.width)),
        lt-ltb 0 n.bases s.some,
        lt-ltb n.bases n.width s.apart,
      )

  small-so-far : (z : ℕ) (t : SoFar) → SmallSoFar m z t → sound_so_far z t ≡ true
  unfolding sound_so_far
  small-so-far z Blank s = refl
  small-so-far z (Run n) s = rw (small-numbers n s.0, lt-ltb n.position z (omega (arith, s.1)), lt-ltb n.bases (z - n.position) (omega (arith, s.1)))
  small-so-far z (Rows n k) s = rw (small-numbers n s.0, le-leb k limit (omega (arith, s.1)))

  small-phase : (p : Phase) → SmallPhase m p → sound_phase p ≡ true
  unfolding sound_phase SmallPhase
  small-phase (Definition at) s = le-leb at limit (omega arith)
  small-phase (Lines d t z) s = rw (small-opened d s.0, le-leb z limit (omega (arith, s.2)), small-so-far z t s.1)
  small-phase (Halted n) s = refl
  small-phase Ended s = refl

pub fits-sound : (f : Feeder) (c : ℕ) → c ≤ limit → f.total ≤ limit → FitsWithin c f.phase f.waiting → sound_of f ≡ true
unfolding sound_of
fits-sound f c h k s =
    rw (le-leb f.total limit k, small-phase s.most (omega (arith, s.both)) f.phase s.phase, small-waiting f.waiting s.waiting (omega (arith, s.both)))

-- ---- no line ends a file

abbrev pub over : Phase → Bool
over (Definition at) = false
over (Lines d t z) = false
over (Halted n) = false
over Ended = true

abbrev over_out : Out → Bool
over_out (Keeps p) = over p
over_out (Emits x z) = false

module _ (d : Opened) (z : ℕ) (x : Line) where
  passed_over : (t : SoFar) (e : ℕ) (last : Bool) → over_out (passed_out d t e last) ≡ false
  unfolding passed_out
  passed_over t e true = refl
  passed_over t e false = refl

  further-over : (n : Numbers) (m : ℕ) (last : Bool) → over_out (further_out d n m z x last) ≡ false
  unfolding further_out
  further-over n m last = go (fits_last last x (record { width = n.width; bases = n.bases })) (eqb x.bases n.bases) (eqb x.width n.width) _ _ _
    where
      go : (a b c : Bool) (y : Record) (f g : refused.Numbers) → over_out (cond a (Emits y (z + x.width)) (cond b (cond c (Keeps (Lines d (Rows n (m + x.bases)) (z + x.width))) (Keeps (Halted f))) (Keeps (Halted g)))) ≡ false
      go true b c y f g = refl
      go false true true y f g = refl
      go false true false y f g = refl
      go false false c y f g = refl

  first-over : (last : Bool) → over_out (first_out d z x last) ≡ false
  unfolding first_out
  first-over last = go (eqb x.bases 0) last _ _
    where
      go : (a b : Bool) (f : refused.Numbers) (y : Record)
          → over_out (cond a (Keeps (Halted f)) (cond b (Emits y (z + x.width)) (Keeps (Lines d (Rows (record { position = z; bases = x.bases; width = x.width }) x.bases) (z + x.width))))) ≡ false
      go true b f y = refl
      go false true f y = refl
      go false false f y = refl

  rows-over : (n : Numbers) (m : ℕ) (last : Bool) → over_out (rows_out d n m z x last) ≡ false
  unfolding rows_out
  rows-over n m last = go (first_elsewhere (place_by n) m (up_from z x.bases))
    where
      go : (v : Option (Position × Offset)) → over_out (placed_out d n (m + x.bases) (z + x.width) last v) ≡ false
      go None = passed_over (Rows n (m + x.bases)) (z + x.width) last
      go (Some (p, o)) = refl

  bases-over : (t : SoFar) (last : Bool) → over_out (bases_out d t z x last) ≡ false
  unfolding bases_out
  bases-over Blank last = passed_over (Run (record { position = z; bases = x.bases; width = x.width })) (z + x.width) last
  bases-over (Run n) last = rows-over (record { position = n.position; bases = n.bases; width = z - n.position }) n.bases last
  bases-over (Rows n m) last = rows-over n m last

  line-over : (rule : Rule) (t : SoFar) (last : Bool) → over_out (line_out rule d t z x last) ≡ false
  unfolding line_out strict_out complete_out
  line-over Strict Blank last = first-over last
  line-over Strict (Run n) last = further-over n n.bases last
  line-over Strict (Rows n m) last = further-over n m last
  line-over Complete t last = go (eqb x.bases 0)
    where
      go : (a : Bool) → over_out (cond a (passed_out d t (z + x.width) last) (bases_out d t z x last)) ≡ false
      go true = passed_over t (z + x.width) last
      go false = bases-over t last

definition-over : (rule : Rule) (at w : ℕ) (last : Bool) (p : Result definition.Definition Fault) → over_out (definition_out rule at w last p) ≡ false
unfolding definition_out close_alone
definition-over Strict at w true (Ok said) = refl
definition-over Complete at w true (Ok said) = refl
definition-over rule at w false (Ok said) = refl
definition-over rule at w last (Err f) = refl

out-over : (rule : Rule) (p : Phase) (t : Waiting) (last : Bool) → over p ≡ false → over_out (out_of rule p t last) ≡ false
unfolding out_of
out-over rule (Definition at) t last h = definition-over rule at t.width last (sum_says (unpack t))
out-over rule (Lines d so z) t last h = line-over d z (record { width = t.width; bases = t.bases }) rule so last
out-over rule (Halted n) t last h = refl
out-over rule Ended t last h = h

applied-over : (n : ℕ) (b : List ℕ) (out : Out) → over_out out ≡ false → over (applied n b out).phase ≡ false
unfolding applied
applied-over n b (Keeps p) h = h
applied-over n b (Emits x z) h = go (ltb n (row_count b)) _ _
  where
    go : (u : Bool) (f : refused.Numbers) (b' : List ℕ) → over (cond {A = Filling} u (filling (Definition z) (n + 1) b') (filling (Halted f) n b)).phase ≡ false
    go true f b' = refl
    go false f b' = refl

module _ (rule : Rule) where
  pub step-over : (st : Filling) (t : Waiting) (last : Bool) → over st.phase ≡ false → over (step_by rule st t last).phase ≡ false
  unfolding step_by
  step-over st t last h = applied-over st.rows st.table (out_of rule st.phase t last) (out-over rule st.phase t last h)

  absorb-over : (ls : List (List ℕ)) (x : FedSum Filling Waiting) → over x.state.phase ≡ false → over (absorb_sums (machine rule) x ls).state.phase ≡ false
  unfolding absorb_sums absorb_sum
  absorb-over [] x h = h
  absorb-over (l ∷ ls) x h = absorb-over ls (absorb_sum (machine rule) x l) (go x.waiting.whole)
    where
      go : (w : Bool) → over (cond {A = FedSum Filling Waiting} w (record { state = step_by rule x.state x.waiting (begins l); waiting = waiting_of l }) (record { state = x.state; waiting = grow_by x.waiting l })).state.phase ≡ false
      go true = step-over x.state x.waiting (begins l) h
      go false = h

  pub feed-over : (x : FedSum Filling Waiting) (p : List ℕ) → over x.state.phase ≡ false → over (feed_sum (machine rule) x p).state.phase ≡ false
  unfolding feed_sum
  feed-over x p h = absorb-over (lines p) x h

  -- ---- a refusal stays

  pub step-halted : (m : refused.Numbers) (n : ℕ) (b : List ℕ) (t : Waiting) (last : Bool) → step_by rule (filling (Halted m) n b) t last ≡ filling (Halted m) n b
  unfolding step_by out_of applied
  step-halted m n b t last = refl

  absorb-halted : (m : refused.Numbers) (n : ℕ) (b : List ℕ) (ls : List (List ℕ)) (t : Waiting) → (absorb_sums (machine rule) (record { state = filling (Halted m) n b; waiting = t }) ls).state ≡ filling (Halted m) n b
  unfolding absorb_sums absorb_sum
  absorb-halted m n b [] t = refl
  absorb-halted m n b (l ∷ ls) t = go t.whole (λ u. absorb-halted m n b ls u)
    where
      go : (w : Bool) → ((u : Waiting) → (absorb_sums (machine rule) (record { state = filling (Halted m) n b; waiting = u }) ls).state ≡ filling (Halted m) n b)
          → (absorb_sums (machine rule) (cond w (record { state = step_by rule (filling (Halted m) n b) t (begins l); waiting = waiting_of l }) (record { state = filling (Halted m) n b; waiting = grow_by t l })) ls).state ≡ filling (Halted m) n b
      go true r = rw (step-halted m n b t (begins l)) (r (waiting_of l))
      go false r = r (grow_by t l)

  pub feed-halted : (m : refused.Numbers) (n : ℕ) (b : List ℕ) (t : Waiting) (p : List ℕ) → (feed_sum (machine rule) (record { state = filling (Halted m) n b; waiting = t }) p).state ≡ filling (Halted m) n b
  unfolding feed_sum
  feed-halted m n b t p = absorb-halted m n b (lines p) t
