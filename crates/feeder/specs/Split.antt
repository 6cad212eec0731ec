-- However a file is split, its pieces leave the state that its bytes leave: `pieces-same`. Before the end the answer is what those lines give
-- that have come with their LF and one byte more: `fed-told`.
use Rattle.std.specs.Prelude.{ℕ, ◌+◌, ◌≤◌, ◌<◌, ◌≡◌, Bool, eqb}
use Rattle.std.proofs.Math.Path.{refl, ap}
use Rattle.std.proofs.Common.{sym, ◌∙◌, true≢false, zero-add}
use mathlib.Core.List.{List, [], ◌∷◌, ◌++◌, append_assoc, append-nil}
use Rattle.std.proofs.Math.Bool.{true, false, cond}
use Rattle.std.proofs.Math.ListN.{length, length-append}
use Rattle.std.proofs.Math.Dec.{eqb-suc-zero}
use borrow.Author.Tests.{lt-ltb, le-ltb}
use native.Mathlib.Omega.{arith}
use Rattle.refusal.specs.declared.Numbers as refused
use Rattle.refusal.specs.Numbers.{over_limit}
use Rattle.refusal.specs.declared.Refusal.TheVariants.{TooLong, AlreadyEnded}
use Rattle.lines.specs.Lines.{lines, chop, ends}
use Rattle.lines.specs.Feeding.{joined, Fed, FedSum, Sums, summed, judge_most, feed, absorb_sums, feed_sum, feed-summed, feed-pieces, fresh, fed-most, waiting-line}
use Rattle.indexer.specs.LineSums.{sum_of}
use Rattle.fitting.specs.declared.Rule.{Rule}
use Rattle.feeder.specs.declared.Waiting.{Waiting}
use Rattle.feeder.specs.declared.Phase.{Phase}
use Rattle.feeder.specs.declared.Phase.TheVariants.{Definition, Lines, Halted, Ended}
use Rattle.feeder.specs.declared.Feeder.{Feeder}
use Rattle.feeder.specs.Waiting.{no_line, waiting_of}
use Rattle.feeder.specs.WaitingLaws.{waiting-grows}
use Rattle.feeder.specs.Machine.{Filling, filling, step_by, machine}
use Rattle.feeder.specs.Small.{SmallPhase, FitsWithin}
use Rattle.feeder.specs.SmallLaws.{none-small, fits-piece}
use Rattle.feeder.specs.Calls.{limit, begun_by, stopped, refused_by, live, still_stopped, sound_of, With, with, kept_by, kept_in, piece_of, end_of, refusal_in}
use Rattle.feeder.specs.Reached.{fits-sound, over, feed-over, feed-halted}

module _ (rule : Rule) where
  -- a line judged by what is kept of it
  abbrev pub step_line : Filling → List ℕ → Bool → Filling
  step_line st l last = step_by rule st (waiting_of l) last

  pub machine-law : Sums step_line (machine rule)
  machine-law =
      record {
        judges = λ st l last. refl;
        ended = λ l. (unfold waiting_of sum_of in refl);
        none = unfold waiting_of sum_of in refl;
        some = λ b l. (unfold waiting_of sum_of in eqb-suc-zero (length l));
        grows = waiting-grows;
      }

  module _ (t : List ℕ) where
    abbrev pub first : Filling
    first = filling (Definition 0) 0 t

    abbrev pub start : FedSum Filling Waiting
    start = record { state = first; waiting = no_line }

    start-summed : summed (machine rule) (fresh step_line first) ≡ start
    start-summed = unfold waiting_of sum_of chop ends in refl

    -- the bytes so far, by the lines that are judged and the one that waits
    fed-as : (a : List ℕ) → feed_sum (machine rule) start a ≡ summed (machine rule) (feed step_line (fresh step_line first) a)
    fed-as a = sym (feed-summed (machine rule) step_line machine-law (fresh step_line first) a (unfold lines in refl) ∙ ap (λ (x : FedSum Filling Waiting). feed_sum (machine rule) x a) start-summed)

    two-pieces : (a b : List ℕ) → feed_sum (machine rule) (feed_sum (machine rule) start a) b ≡ feed_sum (machine rule) start (a ++ b)
    two-pieces a b =
        ap (λ (x : FedSum Filling Waiting). feed_sum (machine rule) x b) (fed-as a)
        ∙ sym (feed-summed (machine rule) step_line machine-law (feed step_line (fresh step_line first) a) b (waiting-line step_line (fresh step_line first) a))
        ∙ ap (summed (machine rule)) (feed-pieces step_line (fresh step_line first) a b)
        ∙ sym (fed-as (a ++ b))

    -- what is judged of some bytes
    pub so_far : (s : List ℕ) → (feed_sum (machine rule) start s).state ≡ (judge_most step_line first (lines s)).state
    so_far s = ap (λ (x : FedSum Filling Waiting). x.state) (fed-as s) ∙ ap (λ (x : Fed Filling). x.state) (fed-most step_line first s)

    -- the state that some bytes leave
    abbrev pub state_at : List ℕ → With
    state_at a = kept_in rule (length a) (feed_sum (machine rule) start a)

    pub fits-start : FitsWithin 0 first.phase no_line
    fits-start = record { most = 0; phase = unfold SmallPhase in omega arith; waiting = none-small; both = omega arith }

    -- one piece more, by where the bytes before it leave the machine
    module _ (a p : List ℕ) where
      abbrev here : FedSum Filling Waiting
      here = feed_sum (machine rule) start a

      on-from : feed_sum (machine rule) start (a ++ p) ≡ feed_sum (machine rule) here p
      on-from = sym (two-pieces a p)

      total : length (a ++ p) ≡ length a + length p
      total = length-append a p

      -- behind a refusal nothing changes
      halted-same : (m : refused.Numbers) (n : ℕ) (b : List ℕ) (u : Waiting) → here ≡ record { state = filling (Halted m) n b; waiting = u } → piece_of (state_at a).feeder p (state_at a).table ≡ state_at (a ++ p)
      halted-same m n b u e = rw (on-from, e) (kept ∙ sym (again (feed_sum (machine rule) (record { state = filling (Halted m) n b; waiting = u }) p) (feed-halted rule m n b u p)))
        where
          again : (x : FedSum Filling Waiting) → x.state ≡ filling (Halted m) n b → kept_in rule (length (a ++ p)) x ≡ with (stopped rule n (Halted m)) b
          again x q = rw q (unfold kept_by in refl)

          kept : piece_of (kept_by rule (length a) (Halted m) n u) p b ≡ with (stopped rule n (Halted m)) b
          kept = unfold piece_of kept_by live still_stopped in go (eqb (length p) 0)
            where
              go : (z : Bool) → cond z (with (stopped rule n (Halted m)) b) (with (stopped rule n (Halted m)) b) ≡ with (stopped rule n (Halted m)) b
              go true = refl
              go false = refl

    -- else the piece is read: here the machine stands at q
    module _ (a : List ℕ) (q : Phase) (n : ℕ) (b : List ℕ) (u : Waiting) (l : live q ≡ true) (e : feed_sum (machine rule) start a ≡ record { state = filling q n b; waiting = u })
        (k : (c : ℕ) → kept_by rule c q n u ≡ record { rule = rule; total = c; rows = n; phase = q; waiting = u }) where
      abbrev at : Feeder
      at = record { rule = rule; total = length a; rows = n; phase = q; waiting = u }

      sound-at : length a ≤ limit → sound_of at ≡ true
      sound-at h = fits-sound at (length a) h h (rw (zero-add (length a), e) at (fits-piece rule 0 start a fits-start))

      read_none : piece_of at [] b ≡ kept_in rule (length a) (feed_sum (machine rule) (record { state = filling q n b; waiting = u }) [])
      unfolding piece_of feed_sum absorb_sums lines
      read_none = ap (λ (f : Feeder). with f b) (sym (k (length a)))

      read_some : (c : ℕ) (p : List ℕ) → length a + length (c ∷ p) ≤ limit
          → piece_of at (c ∷ p) b ≡ kept_in rule (length a + length (c ∷ p)) (feed_sum (machine rule) (record { state = filling q n b; waiting = u }) (c ∷ p))
      unfolding piece_of over_limit
      read_some c p h = rw (eqb-suc-zero (length p), l, sound-at (omega arith), le-ltb limit (length a + length (c ∷ p)) h)

      read_same : (p : List ℕ) → length (a ++ p) ≤ limit → piece_of (state_at a).feeder p (state_at a).table ≡ state_at (a ++ p)
      read_same [] h = rw (append-nil a) (rw (e, k (length a)) (read_none ∙ none_more))
        where
          none_more : kept_in rule (length a) (feed_sum (machine rule) (record { state = filling q n b; waiting = u }) []) ≡ with at b
          none_more = sym read_none ∙ (unfold piece_of in refl)
      read_same (c ∷ p) h = rw (sym (two-pieces a (c ∷ p)), e, k (length a), length-append a (c ∷ p)) (read_some c p (omega (arith, length-append a (c ∷ p))))

    pub piece-same : (a p : List ℕ) → length (a ++ p) ≤ limit → piece_of (state_at a).feeder p (state_at a).table ≡ state_at (a ++ p)
    piece-same a p h = go x.state.phase refl (feed-over rule start a refl)
      where
        x : FedSum Filling Waiting
        x = feed_sum (machine rule) start a

        put : (q : Phase) → x.state.phase ≡ q → x ≡ record { state = filling q x.state.rows x.state.table; waiting = x.waiting }
        put q e = ap (λ (q : Phase). record { state = filling q x.state.rows x.state.table; waiting = x.waiting }) e

        go : (q : Phase) → x.state.phase ≡ q → over x.state.phase ≡ false → piece_of (state_at a).feeder p (state_at a).table ≡ state_at (a ++ p)
        go (Definition o) e v = read_same a (Definition o) x.state.rows x.state.table x.waiting (unfold live in refl) (put (Definition o) e) (λ c. (unfold kept_by in refl)) p h
        go (Lines d s z) e v = read_same a (Lines d s z) x.state.rows x.state.table x.waiting (unfold live in refl) (put (Lines d s z) e) (λ c. (unfold kept_by in refl)) p h
        go (Halted m) e v = halted-same a p m x.state.rows x.state.table x.waiting (put (Halted m) e)
        go Ended e v = absurd (true≢false (rw e at v))

    -- ---- any pieces

    pub begun-at : with (begun_by rule) t ≡ state_at []
    begun-at = unfold feed_sum absorb_sums lines kept_by in refl

-- the calls with some pieces, one after another, with one table
unfoldable pub all_pieces : With → List (List ℕ) → With
all_pieces w [] = w
all_pieces w (p ∷ ps) = all_pieces (piece_of w.feeder p w.table) ps

module _ (rule : Rule) (t : List ℕ) where
  pieces-from : (ps : List (List ℕ)) (a : List ℕ) → length (a ++ joined ps) ≤ limit → all_pieces (state_at rule t a) ps ≡ state_at rule t (a ++ joined ps)
  unfolding all_pieces joined
  pieces-from [] a h = ap (state_at rule t) (sym (append-nil a))
  pieces-from (p ∷ ps) a h =
      let q = append_assoc a p (joined ps) in
      ap (λ (w : With). all_pieces w ps) (piece-same rule t a p (omega (arith, h, ap length q, length-append (a ++ p) (joined ps))))
      ∙ pieces-from ps (a ++ p) (omega (arith, h, ap length q))
      ∙ ap (state_at rule t) q

  -- K1: some pieces leave what their bytes leave, however they are split
  pub pieces-same : (ps : List (List ℕ)) → length (joined ps) ≤ limit → all_pieces (with (begun_by rule) t) ps ≡ state_at rule t (joined ps)
  pieces-same ps h = ap (λ (w : With). all_pieces w ps) (begun-at rule t) ∙ pieces-from ps [] h

  pub split-same : (ps qs : List (List ℕ)) → joined ps ≡ joined qs → length (joined ps) ≤ limit → all_pieces (with (begun_by rule) t) ps ≡ all_pieces (with (begun_by rule) t) qs
  split-same ps qs e h = pieces-same ps h ∙ ap (state_at rule t) e ∙ sym (pieces-same qs (rw e at h))

  -- K1: before the end, what all lines but the last give; the byte behind a line says whether its sequence ends there
  abbrev pub judged_so_far : List ℕ → Filling
  judged_so_far s = (judge_most (step_line rule) (filling (Definition 0) 0 t) (lines s)).state

  pub record ToldAs (w : With) (st : Filling) : Type 0 where
    pub rows : w.feeder.rows ≡ st.rows
    pub refusal : refusal_in w.feeder.phase ≡ refusal_in st.phase
    pub table : w.table ≡ st.table

  kept-told : (c : ℕ) (q : Phase) (n : ℕ) (u : Waiting) → ((kept_by rule c q n u).rows ≡ n) × (refusal_in (kept_by rule c q n u).phase ≡ refusal_in q)
  unfolding kept_by
  kept-told c (Definition o) n u = (refl, refl)
  kept-told c (Lines d s z) n u = (refl, refl)
  kept-told c (Halted m) n u = (refl, refl)
  kept-told c Ended n u = (refl, refl)

  pub fed-told : (ps : List (List ℕ)) → length (joined ps) ≤ limit → ToldAs (all_pieces (with (begun_by rule) t) ps) (judged_so_far (joined ps))
  fed-told ps h = rw (pieces-same ps h) (told (feed_sum (machine rule) (start rule t) (joined ps)) (judged_so_far (joined ps)) (so_far rule t (joined ps)))
    where
      told : (x : FedSum Filling Waiting) (st : Filling) → x.state ≡ st → ToldAs (kept_in rule (length (joined ps)) x) st
      told x st e =
          let k = kept-told (length (joined ps)) x.state.phase x.state.rows x.waiting in
          record {
            rows = k.0 ∙ ap (λ (y : Filling). y.rows) e;
            refusal = k.1 ∙ ap (λ (y : Filling). refusal_in y.phase) e;
            table = ap (λ (y : Filling). y.table) e;
          }

-- ---- refusals

halted-live : (m : refused.Numbers) → live (Halted m) ≡ false
halted-live m = unfold live in refl

halted-still : (f : Feeder) (m : refused.Numbers) → still_stopped f (Halted m) ≡ f
halted-still f m = unfold still_stopped in refl

-- K1: after a refusal each later call only repeats it
pub stays-refused : (f : Feeder) (m : refused.Numbers) (p t : List ℕ) → f.phase ≡ Halted m → (piece_of f p t ≡ with f t) × (end_of f t ≡ with f t)
unfolding piece_of end_of
stays-refused f m p t e =
    let l : live f.phase ≡ false = ap live e ∙ halted-live m in
    let s : still_stopped f f.phase ≡ f = ap (still_stopped f) e ∙ halted-still f m in
    (rw (l, s) (go (eqb (length p) 0)), rw (l, s))
  where
    go : (z : Bool) → cond z (with f t) (with f t) ≡ with f t
    go true = refl
    go false = refl

-- 26, before 1, for bytes or a second end behind a good end; no bytes change nothing
pub ended-refused : (f : Feeder) (c : ℕ) (p t : List ℕ) → f.phase ≡ Ended
    → (piece_of f (c ∷ p) t ≡ with (refused_by f AlreadyEnded) t) × (end_of f t ≡ with (refused_by f AlreadyEnded) t) × (piece_of f [] t ≡ with f t)
unfolding piece_of end_of live still_stopped
ended-refused f c p t e = (rw (eqb-suc-zero (length p), e), rw e, refl)

-- 1 for a piece that brings the total over the limit: none of it is read, and the rows stay
pub passes-limit : (f : Feeder) (c : ℕ) (p t : List ℕ) → live f.phase ≡ true → limit < f.total + length (c ∷ p) → piece_of f (c ∷ p) t ≡ with (refused_by f TooLong) t
unfolding piece_of over_limit
passes-limit f c p t l h = rw (eqb-suc-zero (length p), l, lt-ltb limit (f.total + length (c ∷ p)) h) (go (sound_of f))
  where
    go : (z : Bool) → cond z (with (refused_by f TooLong) t) (with (refused_by f TooLong) t) ≡ with (refused_by f TooLong) t
    go true = refl
    go false = refl
