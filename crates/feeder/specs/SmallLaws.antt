-- The numbers of a feeder stay small: with each line they are no more than the bytes that have come.
use Rattle.std.specs.Prelude.{ℕ, zero, suc, ◌+◌, ◌-◌, ◌≤◌, ◌<◌, ◌^◌, ◌≡◌, Bool, not, ◌&&◌, ◌||◌, drop, ltb, leb, Option, Some, None, Result, Ok, Err}
use Rattle.std.proofs.Math.Path.{refl}
use Rattle.std.proofs.Common.{sym, ◌∙◌, true≢false, add_assoc}
use mathlib.Core.List.{List, [], ◌∷◌}
use Rattle.std.proofs.Math.Bool.{true, false, cond}
use Rattle.std.proofs.Math.ListN.{length}
use Rattle.std.proofs.Math.Dec.{eqb}
use borrow.Author.Tests.{eqb-false, leb-true, ltb-true}
use native.Mathlib.Omega.{arith}
use Rattle.record.specs.declared.Offset.{Offset}
use Rattle.record.specs.declared.Position.{Position}
use Rattle.definition.specs.declared.Fault.{Fault}
use Rattle.lines.specs.declared.Line.{Line}
use Rattle.lines.specs.Lines.{lines, chop, ends, bases_of, begins, up_from, sum_widths}
use Rattle.lines.specs.Laws.{chop-le, ends-chop}
use Rattle.lines.specs.GroupLaws.{lines-behind}
use Rattle.lines.specs.Sums.{widths-lines}
use Rattle.lines.specs.Feeding.{FedSum, absorb_sum, absorb_sums, feed_sum}
use Rattle.definition.specs.declared.Definition as definition
use Rattle.definition.specs.declared.Fault.TheVariants.{Empty, NoPrefix}
use Rattle.definition.specs.Definition.{is_space, spaced, run, keep, described}
use Rattle.definition.specs.Laws.{run-le, keep-le}
use Rattle.indexer.specs.Index.{fits_last}
use Rattle.indexer.specs.LineSums.{skip, grow, named_as, blank, sum_says}
use Rattle.walking.specs.Places.{first_elsewhere}
use Rattle.refusal.specs.declared.Numbers as refused
use Rattle.record.specs.declared.Record.{Record}
use Rattle.table.specs.Rows.{row_count}
use Rattle.fitting.specs.declared.Numbers.{Numbers}
use Rattle.fitting.specs.Complete.{place_by}
use Rattle.fitting.specs.declared.Rule.{Rule}
use Rattle.fitting.specs.declared.Rule.TheVariants.{Strict, Complete}
use Rattle.feeder.specs.declared.Waiting.{Waiting}
use Rattle.feeder.specs.declared.Opened.{Opened}
use Rattle.feeder.specs.declared.SoFar.{SoFar}
use Rattle.feeder.specs.declared.SoFar.TheVariants.{Blank, Run, Rows}
use Rattle.feeder.specs.declared.Phase.{Phase}
use Rattle.feeder.specs.declared.Phase.TheVariants.{Definition, Lines, Halted, Ended}
use Rattle.feeder.specs.declared.Out.{Out}
use Rattle.feeder.specs.declared.Out.TheVariants.{Keeps, Emits}
use Rattle.feeder.specs.declared.Feeder.{Feeder}
use Rattle.feeder.specs.Waiting.{unpack, no_line, grow_by, waiting_of}
use Rattle.feeder.specs.WaitingLaws.{lines-some, new_line}
use Rattle.feeder.specs.Machine.{close_alone, opened_at, definition_out, first_out, further_out, strict_out, passed_out, placed_out, rows_out, bases_out, complete_out, line_out, out_of, Filling, filling, applied, step_by, machine}
use Rattle.feeder.specs.Small.{SmallWaiting, SmallOpened, SmallNumbers, SmallSoFar, SmallPhase, FitsWithin}
use Rattle.feeder.specs.Calls.{limit, sound_waiting, sound_opened, sound_numbers, sound_so_far, sound_phase, sound_of}

-- ---- what a definition says

pub record SmallSaid (w : ℕ) (d : definition.Definition) : Type 0 where
  pub name-start : d.name.start ≤ w
  pub name-length : d.name.length ≤ w
  pub text-start : d.description.start ≤ w
  pub text-length : d.description.length ≤ w

pub says-small : (t : Waiting) → SmallWaiting t → (said : definition.Definition) → sum_says (unpack t) ≡ Ok said → SmallSaid t.width said
unfolding sum_says
says-small t s said e = go (blank (unpack t)) t.starts e
  where
    texted : (n k : ℕ) → k ≤ t.kept → suc n ≤ t.width → SmallSaid t.width (record { name = record { start = 1; length = suc n }; description = described t.text k })
    texted n zero q h = record { name-start = omega arith; name-length = h; text-start = omega arith; text-length = omega arith }
    texted n (suc k) q h = record { name-start = omega arith; name-length = h; text-start = s.text; text-length = omega (arith, s.kept) }

    called : (n : ℕ) → n ≡ t.name → named_as n t.text t.kept ≡ Ok said → SmallSaid t.width said
    called zero q h = let z : ◌≡◌ {A = ℕ} 0 1 = cc in absurd (omega arith)
    called (suc n) q h =
        let r : record { name = record { start = 1; length = suc n }; description = described t.text (t.kept - t.text) } ≡ said = cc in
        rw (sym r) (texted n (t.kept - t.text) (omega arith) (omega (arith, s.name, q)))

    go : (u v : Bool) → cond u (Err Empty) (cond v (named_as t.name t.text t.kept) (Err NoPrefix)) ≡ Ok said → SmallSaid t.width said
    go true v h = let z : ◌≡◌ {A = ℕ} 0 1 = cc in absurd (omega arith)
    go false true h = called t.name refl h
    go false false h = let z : ◌≡◌ {A = ℕ} 0 1 = cc in absurd (omega arith)

-- ---- a line that is judged

module _ (m m' : ℕ) (h : m ≤ m') where
  pub opened-weak : (d : Opened) → SmallOpened m d → SmallOpened m' d
  opened-weak d s = record {
    at = omega (arith, s.at);
    end = omega (arith, s.end);
    name-start = omega (arith, s.name-start);
    name-length = omega (arith, s.name-length);
    text-start = omega (arith, s.text-start);
    text-length = omega (arith, s.text-length);
  }

  pub numbers-weak : (n : Numbers) → SmallNumbers m n → SmallNumbers m' n
  numbers-weak n s = record { position = omega (arith, s.position); bases = omega (arith, s.bases); width = omega (arith, s.width); some = s.some; apart = s.apart }

  so-far-weak : (z z' : ℕ) → z ≤ z' → (t : SoFar) → SmallSoFar m z t → SmallSoFar m' z' t
  so-far-weak z z' k Blank s = tt
  so-far-weak z z' k (Run n) s = (numbers-weak n s.0, omega (arith, s.1))
  so-far-weak z z' k (Rows n c) s = (numbers-weak n s.0, omega (arith, s.1))

  pub phase-weak : (p : Phase) → SmallPhase m p → SmallPhase m' p
  unfolding SmallPhase
  phase-weak (Definition at) s = omega arith
  phase-weak (Lines d t z) s = (opened-weak d s.0, so-far-weak z z (omega arith) t s.1, omega (arith, s.2))
  phase-weak (Halted n) s = tt
  phase-weak Ended s = tt

abbrev SmallOut : ℕ → Out → Type 0
SmallOut m (Keeps p) = SmallPhase m p
SmallOut m (Emits x z) = z ≤ m

module _ (m : ℕ) (d : Opened) (z : ℕ) (x : Line) (last : Bool) (o : SmallOpened m d) (h : z ≤ m) (b : x.bases < x.width) where
  first_small : SmallOut (m + x.width) (first_out d z x last)
  unfolding first_out SmallPhase
  first_small = go (eqb x.bases 0) refl last _ _
    where
      go : (t : Bool) → eqb x.bases 0 ≡ t → (u : Bool) (f : refused.Numbers) (y : Record)
          → SmallOut (m + x.width) (cond t (Keeps (Halted f)) (cond u (Emits y (z + x.width)) (Keeps (Lines d (Rows (record { position = z; bases = x.bases; width = x.width }) x.bases) (z + x.width)))))
      go true e u f y = tt
      go false e true f y = omega arith
      go false e false f y = (
        opened-weak m (m + x.width) (omega arith) d o,
        (record { position = omega arith; bases = omega arith; width = omega arith; some = omega (arith, eqb-false x.bases 0 e); apart = b }, omega arith),
        omega arith,
      )

  further-small : (n : Numbers) (k : ℕ) → SmallNumbers m n → k ≤ m → SmallOut (m + x.width) (further_out d n k z x last)
  unfolding further_out SmallPhase
  further-small n k s q = go (fits_last last x (record { width = n.width; bases = n.bases })) (eqb x.bases n.bases) (eqb x.width n.width) _ _ _
    where
      go : (t u v : Bool) (f g : refused.Numbers) (y : Record)
          → SmallOut (m + x.width) (cond t (Emits y (z + x.width)) (cond u (cond v (Keeps (Lines d (Rows n (k + x.bases)) (z + x.width))) (Keeps (Halted f))) (Keeps (Halted g))))
      go true u v f g y = omega arith
      go false true true f g y = (opened-weak m (m + x.width) (omega arith) d o, (numbers-weak m (m + x.width) (omega arith) n s, omega arith), omega arith)
      go false true false f g y = tt
      go false false v f g y = tt

  strict-small : (t : SoFar) → SmallSoFar m z t → SmallOut (m + x.width) (strict_out d t z x last)
  unfolding strict_out
  strict-small Blank s = first_small
  strict-small (Run n) s = further-small n n.bases s.0 s.0.bases
  strict-small (Rows n k) s = further-small n k s.0 s.1

  passed-small : (t : SoFar) → SmallSoFar (m + x.width) (z + x.width) t → SmallOut (m + x.width) (passed_out d t (z + x.width) last)
  unfolding passed_out SmallPhase
  passed-small t s = go last _
    where
      go : (u : Bool) (y : Record) → SmallOut (m + x.width) (cond u (Emits y (z + x.width)) (Keeps (Lines d t (z + x.width))))
      go true y = omega arith
      go false y = (opened-weak m (m + x.width) (omega arith) d o, s, omega arith)

  rows-small : (n : Numbers) (k : ℕ) → SmallNumbers m n → k ≤ m → SmallOut (m + x.width) (rows_out d n k z x last)
  unfolding rows_out SmallPhase
  rows-small n k s q = go (first_elsewhere (place_by n) k (up_from z x.bases))
    where
      go : (v : Option (Position × Offset)) → SmallOut (m + x.width) (placed_out d n (k + x.bases) (z + x.width) last v)
      go None = passed-small (Rows n (k + x.bases)) (numbers-weak m (m + x.width) (omega arith) n s, omega arith)
      go (Some (p, o)) = tt

  bases-small : (t : SoFar) → SmallSoFar m z t → 0 < x.bases → SmallOut (m + x.width) (bases_out d t z x last)
  unfolding bases_out
  bases-small Blank s q = passed-small (Run (record { position = z; bases = x.bases; width = x.width })) (record { position = omega arith; bases = omega arith; width = omega arith; some = q; apart = b }, omega arith)
  bases-small (Run n) s q =
      rows-small (record { position = n.position; bases = n.bases; width = z - n.position }) n.bases
      (record { position = s.0.position; bases = s.0.bases; width = omega arith; some = s.0.some; apart = omega (arith, s.1) }) s.0.bases
  bases-small (Rows n k) s q = rows-small n k s.0 s.1

  complete-small : (t : SoFar) → SmallSoFar m z t → SmallOut (m + x.width) (complete_out d t z x last)
  unfolding complete_out
  complete-small t s = go (eqb x.bases 0) refl
    where
      go : (u : Bool) → eqb x.bases 0 ≡ u → SmallOut (m + x.width) (cond u (passed_out d t (z + x.width) last) (bases_out d t z x last))
      go true e = passed-small t (so-far-weak m (m + x.width) (omega arith) z (z + x.width) (omega arith) t s)
      go false e = bases-small t s (omega (arith, eqb-false x.bases 0 e))

module _ (rule : Rule) (m : ℕ) (t : Waiting) (last : Bool) (s : SmallWaiting t) (w : t.whole ≡ true) where
  line_small : (d : Opened) (so : SoFar) (z : ℕ) → SmallOpened m d → SmallSoFar m z so → z ≤ m → SmallOut (m + t.width) (line_out rule d so z (record { width = t.width; bases = t.bases }) last)
  unfolding line_out
  line_small d so z o f h = go rule
    where
      go : (r : Rule) → SmallOut (m + t.width) (line_out r d so z (record { width = t.width; bases = t.bases }) last)
      go Strict = strict-small m d z (record { width = t.width; bases = t.bases }) last o h (s.ended w) so f
      go Complete = complete-small m d z (record { width = t.width; bases = t.bases }) last o h (s.ended w) so f

  opened-small : (at : ℕ) (said : definition.Definition) → at ≤ m → SmallSaid t.width said → SmallOpened (m + t.width) (opened_at at t.width said)
  opened-small at said h q = record {
    at = omega arith;
    end = omega arith;
    name-start = omega (arith, q.name-start);
    name-length = omega (arith, q.name-length);
    text-start = omega (arith, q.text-start);
    text-length = omega (arith, q.text-length);
  }

  definition-small : (at : ℕ) → at ≤ m → SmallOut (m + t.width) (definition_out rule at t.width last (sum_says (unpack t)))
  unfolding definition_out SmallPhase close_alone
  definition-small at h = go (sum_says (unpack t)) refl last rule
    where
      go : (p : Result definition.Definition Fault) → sum_says (unpack t) ≡ p → (u : Bool) (r : Rule) → SmallOut (m + t.width) (definition_out r at t.width u p)
      go (Ok said) e true Strict = tt
      go (Ok said) e true Complete = omega arith
      go (Ok said) e false r = (opened-small at said h (says-small t s said e), tt, omega arith)
      go (Err f) e u r = tt

  out-small : (p : Phase) → SmallPhase m p → SmallOut (m + t.width) (out_of rule p t last)
  unfolding out_of SmallPhase
  out-small (Definition at) h = definition-small at h
  out-small (Lines d so z) h = line_small d so z h.0 h.1 h.2
  out-small (Halted n) h = tt
  out-small Ended h = tt

  applied-small : (n : ℕ) (b : List ℕ) (out : Out) → SmallOut (m + t.width) out → SmallPhase (m + t.width) (applied n b out).phase
  unfolding applied SmallPhase
  applied-small n b (Keeps p) h = h
  applied-small n b (Emits x z) h = go (ltb n (row_count b)) _ _
    where
      go : (u : Bool) (f : refused.Numbers) (b' : List ℕ) → SmallPhase (m + t.width) (cond {A = Filling} u (filling (Definition z) (n + 1) b') (filling (Halted f) n b)).phase
      go true f b' = h
      go false f b' = tt

  pub step_small : (st : Filling) → SmallPhase m st.phase → SmallPhase (m + t.width) (step_by rule st t last).phase
  unfolding step_by
  step_small st h = applied-small st.rows st.table (out_of rule st.phase t last) (out-small st.phase h)

-- ---- a line that grows

pub skip-le : (named : Bool) (s : List ℕ) → skip named s ≤ length s
unfolding skip
skip-le named [] = omega arith
skip-le true (b ∷ s) = omega (arith, skip-le (not (is_space b)) s)
skip-le false (b ∷ s) = go (is_space b) (skip-le false s)
  where
    go : (t : Bool) → skip false s ≤ length s → cond t (suc (skip false s)) 0 ≤ suc (length s)
    go true h = omega arith
    go false h = omega arith

module _ (t : Waiting) (l : List ℕ) (s : SmallWaiting t) (h : 0 < length l) where
  bases-le : (grow (unpack t) l).line.bases ≤ t.width + length (chop 10 l)
  unfolding grow
  bases-le = go (eqb (length (chop 10 l)) 0)
    where
      go : (u : Bool) → cond u t.bases (t.width + length (bases_of l)) ≤ t.width + length (chop 10 l)
      go true = omega (arith, s.bases)
      go false = omega (arith, chop-le 13 (chop 10 l))

  tail-le : (l : List ℕ) → length (drop 1 l) ≤ length l - 1
  tail-le [] = omega arith
  tail-le (b ∷ l) = omega arith

  name-le : (grow (unpack t) l).name ≤ t.width + length l
  unfolding grow
  name-le = go (eqb t.width 0) (eqb (suc t.name) t.width)
    where
      go : (u v : Bool) → cond u (run (spaced false) (drop 1 l)) (cond v (t.name + run (spaced false) l) t.name) ≤ t.width + length l
      go true v = omega (arith, run-le (spaced false) (drop 1 l), tail-le l)
      go false true = omega (arith, run-le (spaced false) l, s.name)
      go false false = omega (arith, s.name)

  text-le : (grow (unpack t) l).text ≤ t.width + length l
  unfolding grow
  text-le = go (eqb t.width 0) (eqb (suc t.name) t.width) (eqb t.text t.width)
    where
      go : (u v w : Bool) → cond u (suc (skip true (drop 1 l))) (cond v (t.width + skip true l) (cond w (t.width + skip false l) t.text)) ≤ t.width + length l
      go true v w = omega (arith, skip-le true (drop 1 l), tail-le l)
      go false true w = omega (arith, skip-le true l)
      go false false true = omega (arith, skip-le false l)
      go false false false = omega (arith, s.text)

  kept-le : (grow (unpack t) l).kept ≤ t.width + length l
  unfolding grow
  kept-le = go (eqb (keep is_space l) 0)
    where
      go : (u : Bool) → cond u t.kept (t.width + keep is_space l) ≤ t.width + length l
      go true = omega (arith, s.kept)
      go false = omega (arith, keep-le is_space l)

  maybe-le : (u : Bool) (n m : ℕ) → n ≤ m → cond u n 0 ≤ m
  maybe-le true n m q = q
  maybe-le false n m q = omega arith

  grown-width : (grow_by t l).width ≡ t.width + length l
  unfolding grow_by grow
  grown-width = refl

  is-end : (grow (unpack t) l).whole ≡ true → ends 10 l ≡ true
  unfolding grow
  is-end e = e

  pub grow-small : SmallWaiting (grow_by t l)
  unfolding grow_by
  grow-small = record {
    bases = omega (arith, bases-le, chop-le 10 l, grown-width);
    ended = λ e. omega (arith, bases-le, grown-width, ltb-true (length (chop 10 l)) (length l) (sym (ends-chop 10 l) ∙ is-end e));
    name = omega (arith, maybe-le (grow (unpack t) l).starts _ _ name-le, grown-width);
    text = omega (arith, maybe-le (grow (unpack t) l).starts _ _ text-le, grown-width);
    kept = omega (arith, maybe-le (grow (unpack t) l).starts _ _ kept-le, grown-width);
  }

pub none-small : SmallWaiting no_line
none-small = record { bases = omega arith; ended = λ e. absurd (true≢false (sym e)); name = omega arith; text = omega arith; kept = omega arith }

-- ---- a piece

module _ (rule : Rule) where
  open-fits : (c m : ℕ) (p : Phase) (t : Waiting) (l : List ℕ) → 0 < length l → SmallPhase m p → SmallWaiting t → m + t.width ≤ c → FitsWithin (c + length l) p (grow_by t l)
  open-fits c m p t l z s h k = record { most = m; phase = s; waiting = grow-small t l h z; both = omega (arith, k, grown-width t l h z) }

  pub fits-absorb : (c : ℕ) (x : FedSum Filling Waiting) (l : List ℕ) → 0 < length l → FitsWithin c x.state.phase x.waiting
      → FitsWithin (c + length l) (absorb_sum (machine rule) x l).state.phase (absorb_sum (machine rule) x l).waiting
  unfolding absorb_sum
  fits-absorb c x l z f = go x.waiting.whole refl
    where
      go : (t : Bool) → x.waiting.whole ≡ t
          → FitsWithin (c + length l) (cond {A = FedSum Filling Waiting} t (record { state = step_by rule x.state x.waiting (begins l); waiting = waiting_of l }) (record { state = x.state; waiting = grow_by x.waiting l })).state.phase
          (cond {A = FedSum Filling Waiting} t (record { state = step_by rule x.state x.waiting (begins l); waiting = waiting_of l }) (record { state = x.state; waiting = grow_by x.waiting l })).waiting
      go true e =
          rw (new_line l z)
          (open-fits c (f.most + x.waiting.width) (step_by rule x.state x.waiting (begins l)).phase no_line l z
          (step_small rule f.most x.waiting (begins l) f.waiting e x.state f.phase) none-small (omega (arith, f.both)))
      go false e = open-fits c f.most x.state.phase x.waiting l z f.phase f.waiting f.both

  fits-lines : (ls : List (List ℕ)) (s : List ℕ) → lines s ≡ ls → (c : ℕ) (x : FedSum Filling Waiting) → FitsWithin c x.state.phase x.waiting
      → FitsWithin (c + sum_widths ls) (absorb_sums (machine rule) x ls).state.phase (absorb_sums (machine rule) x ls).waiting
  unfolding absorb_sums sum_widths
  fits-lines [] s e c x f = record { most = f.most; phase = f.phase; waiting = f.waiting; both = omega (arith, f.both) }
  fits-lines (l ∷ ls) s e c x f =
      rw (sym (add_assoc c (length l) (sum_widths ls)))
      (fits-lines ls (drop (length l) s) (lines-behind s l ls e) (c + length l) (absorb_sum (machine rule) x l) (fits-absorb c x l (lines-some s l ls e) f))

  pub fits-piece : (c : ℕ) (x : FedSum Filling Waiting) (p : List ℕ) → FitsWithin c x.state.phase x.waiting
      → FitsWithin (c + length p) (feed_sum (machine rule) x p).state.phase (feed_sum (machine rule) x p).waiting
  unfolding feed_sum
  fits-piece c x p f = rw (sym (widths-lines p)) (fits-lines (lines p) p refl c x f)

-- ---- sound states

pub two : (a b : Bool) → (a && b) ≡ true → (a ≡ true) × (b ≡ true)
two true b e = (refl, e)
two false b e = absurd (true≢false (sym e))

three : (a b c : Bool) → ((a && b) && c) ≡ true → (a ≡ true) × (b ≡ true) × (c ≡ true)
three a b c e = let x = two (a && b) c e in let y = two a b x.0 in (y.0, y.1, x.1)

five : (a b c d f : Bool) → ((((a && b) && c) && d) && f) ≡ true → (a ≡ true) × (b ≡ true) × (c ≡ true) × (d ≡ true) × (f ≡ true)
five a b c d f e = let x = two (((a && b) && c) && d) f e in let y = two ((a && b) && c) d x.0 in let z = three a b c y.0 in (z.0, z.1, z.2, y.1, x.1)

pub six : (a b c d f g : Bool) → (((((a && b) && c) && d) && f) && g) ≡ true → (a ≡ true) × (b ≡ true) × (c ≡ true) × (d ≡ true) × (f ≡ true) × (g ≡ true)
six a b c d f g e = let x = two ((((a && b) && c) && d) && f) g e in let y = five a b c d f x.0 in (y.0, y.1, y.2, y.3, y.4, x.1)

implied : (a b : Bool) → (not a || b) ≡ true → a ≡ true → b ≡ true
implied true b e h = e
implied false b e h = absurd (true≢false (sym h))

waiting-sound : (t : Waiting) → sound_waiting t ≡ true → SmallWaiting t × (t.width ≤ limit)
unfolding sound_waiting
waiting-sound t e =
    let x = six (leb t.bases t.width) (leb t.name t.width) (leb t.text t.width) (leb t.kept t.width) (leb t.width limit) (not t.whole || ltb t.bases t.width) e in (
      record {
        bases = leb-true _ _ x.0;
        ended = λ w. ltb-true _ _ (implied t.whole (ltb t.bases t.width) x.5 w);
        name = leb-true _ _ x.1;
        text = leb-true _ _ x.2;
        kept = leb-true _ _ x.3;
      },
      leb-true _ _ x.4,
    )

opened-sound : (d : Opened) → sound_opened d ≡ true → SmallOpened limit d
unfolding sound_opened
opened-sound d e =
    let x = six (leb d.at limit) (leb d.end limit) (leb d.said.name.start limit) (leb d.said.name.length limit) (leb d.said.description.start limit) (leb d.said.description.length limit) e in
    record {
      at = leb-true _ _ x.0;
      end = leb-true _ _ x.1;
      name-start = leb-true _ _ x.2;
      name-length = leb-true _ _ x.3;
      text-start = leb-true _ _ x.4;
      text-length = leb-true _ _ x.5;
    }

numbers-sound : (n : Numbers) → sound_numbers n ≡ true → SmallNumbers limit n
unfolding sound_numbers
numbers-sound n e =
    let x = five (leb n.position limit) (leb n.bases limit) (leb n.width limit) (ltb 0 n.bases) (ltb n.bases n.width) e in
    record { position = leb-true _ _ x.0; bases = leb-true _ _ x.1; width = leb-true _ _ x.2; some = ltb-true _ _ x.3; apart = ltb-true _ _ x.4 }

so-far-sound : (z : ℕ) (t : SoFar) → sound_so_far z t ≡ true → SmallSoFar limit z t
unfolding sound_so_far
so-far-sound z Blank e = tt
so-far-sound z (Run n) e =
    let x = two (sound_numbers n) (ltb n.position z && ltb n.bases (z - n.position)) e in
    let y = two (ltb n.position z) (ltb n.bases (z - n.position)) x.1 in
    (numbers-sound n x.0, omega (arith, ltb-true n.position z y.0, ltb-true n.bases (z - n.position) y.1))
so-far-sound z (Rows n k) e = let x = two (sound_numbers n) (leb k limit) e in (numbers-sound n x.0, leb-true _ _ x.1)

phase-sound : (p : Phase) → sound_phase p ≡ true → SmallPhase limit p
unfolding sound_phase SmallPhase
phase-sound (Definition at) e = leb-true _ _ e
phase-sound (Lines d t z) e = let x = three (sound_opened d) (leb z limit) (sound_so_far z t) e in (opened-sound d x.0, so-far-sound z t x.2, leb-true _ _ x.1)
phase-sound (Halted n) e = tt
phase-sound Ended e = tt

pub sound-fits : (f : Feeder) → sound_of f ≡ true → (f.total ≤ limit) × FitsWithin (2 ^ 41) f.phase f.waiting
unfolding sound_of
sound-fits f e =
    let x = three (leb f.total limit) (sound_phase f.phase) (sound_waiting f.waiting) e in
    let w = waiting-sound f.waiting x.2 in
    (leb-true _ _ x.0, record { most = limit; phase = phase-sound f.phase x.1; waiting = w.0; both = omega (arith, w.1) })

-- what fits is small enough for every sum
pub fits-small : (c : ℕ) (p : Phase) (t : Waiting) → FitsWithin c p t → c < 2 ^ 60 → SmallPhase (2 ^ 60) p × SmallWaiting t × (t.width < 2 ^ 60)
fits-small c p t f h = (phase-weak f.most (2 ^ 60) (omega (arith, f.both)) p f.phase, f.waiting, omega (arith, f.both))
