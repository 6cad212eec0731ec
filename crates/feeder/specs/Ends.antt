-- The end of a file. With it a feeder has what the lines of all bytes give, by either rule; and so what one call on the whole file gives: `fed-whole`.
use Rattle.std.specs.Prelude.{ℕ, ◌≤◌, ◌≡◌, Bool, length, eqb}
use Rattle.std.proofs.Math.Path.{refl}
use Rattle.std.proofs.Common.{ap, sym, ◌∙◌, true≢false, le-ltb, zero-add}
use mathlib.Core.List.{List, [], ◌∷◌, append-nil}
use Rattle.std.proofs.Math.Bool.{true, false, cond}
use Rattle.refusal.specs.declared.Numbers as refused
use Rattle.refusal.specs.Numbers.{over_limit}
use Rattle.lines.specs.Lines.{lines, chop, ends}
use Rattle.lines.specs.Feeding.{joined, judge_all, FedSum, feed_sum, feed_sums, finish_sum, sums-whole}
use Rattle.table.specs.Rows.{row_count, with_rows}
use Rattle.table.specs.Fill.{Found, held_in}
use Rattle.indexer.specs.LineSums.{sum_of}
use Rattle.indexer.specs.Rule.{call_by}
use Rattle.fitting.specs.declared.Rule.{Rule}
use Rattle.fitting.specs.declared.Rule.TheVariants.{Strict, Complete}
use Rattle.fitting.specs.Rules.{rows_by, rows_in}
use Rattle.feeder.specs.declared.Waiting.{Waiting}
use Rattle.feeder.specs.declared.Phase.{Phase}
use Rattle.feeder.specs.declared.Phase.TheVariants.{Definition, Lines, Halted, Ended}
use Rattle.feeder.specs.declared.Feeder.{Feeder}
use Rattle.feeder.specs.Waiting.{waiting_of}
use Rattle.feeder.specs.Machine.{Filling, filling, step_by, machine}
use Rattle.feeder.specs.SmallLaws.{fits-piece}
use Rattle.feeder.specs.Calls.{limit, begun_by, stopped, live, still_stopped, sound_of, With, with, kept_by, closed_by, closed_in, end_of, refusal_in}
use Rattle.feeder.specs.Reached.{fits-sound, over, feed-over, step-halted}
use Rattle.feeder.specs.Split.{step_line, machine-law, start, first, fits-start, state_at, all_pieces, pieces-same}
use Rattle.feeder.specs.Whole.{stop_numbers, ToldBy, strict-whole}
use Rattle.feeder.specs.Fitted.{complete-whole}

module _ (rule : Rule) (t : List ℕ) where
  -- all lines, with the last
  finished : (s : List ℕ) → finish_sum (machine rule) (feed_sum (machine rule) (start rule t) s) ≡ judge_all (step_line rule) (first rule t) (lines s)
  finished s = one ∙ sums-whole (machine rule) (step_line rule) (machine-law rule) (first rule t) (s ∷ []) ∙ ap (λ (a : List ℕ). judge_all (step_line rule) (first rule t) (lines a)) (unfold joined in append-nil s)
    where
      one : finish_sum (machine rule) (feed_sum (machine rule) (start rule t) s) ≡ finish_sum (machine rule) (feed_sums (machine rule) (record { state = first rule t; waiting = waiting_of [] }) (s ∷ []))
      one = unfold feed_sums waiting_of sum_of chop ends in refl

  module _ (s : List ℕ) (h : length s ≤ limit) where
    -- behind a refusal the end changes nothing
    halted-ends : (m : refused.Numbers) (n : ℕ) (b : List ℕ) (u : Waiting) → feed_sum (machine rule) (start rule t) s ≡ record { state = filling (Halted m) n b; waiting = u }
        → end_of (state_at rule t s).feeder (state_at rule t s).table ≡ closed_in rule (finish_sum (machine rule) (feed_sum (machine rule) (start rule t) s))
    halted-ends m n b u e = rw e (stays ∙ sym (ap (closed_in rule) (same (eqb u.width 0)) ∙ (unfold closed_by in refl)))
      where
        stays : end_of (kept_by rule (length s) (Halted m) n u) b ≡ with (stopped rule n (Halted m)) b
        stays = unfold end_of kept_by live still_stopped in refl

        same : (z : Bool) → finish_sum (machine rule) (record { state = filling (Halted m) n b; waiting = u }) ≡ filling (Halted m) n b
        same z = unfold finish_sum in go (eqb u.width 0)
          where
            go : (z : Bool) → cond z (filling (Halted m) n b) (step_by rule (filling (Halted m) n b) u true) ≡ filling (Halted m) n b
            go true = refl
            go false = step-halted rule m n b u true

    -- else the line that waits is judged
    live-ends : (q : Phase) (n : ℕ) (b : List ℕ) (u : Waiting) → live q ≡ true → feed_sum (machine rule) (start rule t) s ≡ record { state = filling q n b; waiting = u }
        → kept_by rule (length s) q n u ≡ record { rule = rule; total = length s; rows = n; phase = q; waiting = u }
        → end_of (state_at rule t s).feeder (state_at rule t s).table ≡ closed_in rule (finish_sum (machine rule) (feed_sum (machine rule) (start rule t) s))
    live-ends q n b u l e k = rw (e, k) (judged (record { rule = rule; total = length s; rows = n; phase = q; waiting = u }) refl)
      where
        at : Feeder
        at = record { rule = rule; total = length s; rows = n; phase = q; waiting = u }

        sound : sound_of at ≡ true
        sound = fits-sound at (length s) h h (rw (zero-add (length s), e) at (fits-piece rule 0 (start rule t) s (fits-start rule t)))

        judged : (f : Feeder) → f ≡ at → end_of at b ≡ closed_in rule (finish_sum (machine rule) (record { state = filling q n b; waiting = u }))
        judged f x = unfold end_of finish_sum in rw (l, sound)

    pub end_same : end_of (state_at rule t s).feeder (state_at rule t s).table ≡ closed_in rule (judge_all (step_line rule) (first rule t) (lines s))
    end_same = go x.state.phase refl (feed-over rule (start rule t) s refl) ∙ ap (closed_in rule) (finished s)
      where
        x : FedSum Filling Waiting
        x = feed_sum (machine rule) (start rule t) s

        put : (q : Phase) → x.state.phase ≡ q → x ≡ record { state = filling q x.state.rows x.state.table; waiting = x.waiting }
        put q e = ap (λ (q : Phase). record { state = filling q x.state.rows x.state.table; waiting = x.waiting }) e

        go : (q : Phase) → x.state.phase ≡ q → over x.state.phase ≡ false → end_of (state_at rule t s).feeder (state_at rule t s).table ≡ closed_in rule (finish_sum (machine rule) x)
        go (Definition o) e v = live-ends (Definition o) x.state.rows x.state.table x.waiting (unfold live in refl) (put (Definition o) e) (unfold kept_by in refl)
        go (Lines d so z) e v = live-ends (Lines d so z) x.state.rows x.state.table x.waiting (unfold live in refl) (put (Lines d so z) e) (unfold kept_by in refl)
        go (Halted m) e v = halted-ends m x.state.rows x.state.table x.waiting (put (Halted m) e)
        go Ended e v = absurd (true≢false (rw e at v))

-- ---- the whole file

-- what a call on a whole file answers and leaves
pub record WholeTold (f : Found) (t : List ℕ) (w : With) : Type 0 where
  pub rows : w.feeder.rows ≡ length f.rows
  pub refusal : refusal_in w.feeder.phase ≡ stop_numbers f.stop
  pub table : w.table ≡ with_rows t 0 f.rows

closed-keeps : (rule : Rule) (n : ℕ) (q : Phase) → ((closed_by rule q n).rows ≡ n) × (refusal_in (closed_by rule q n).phase ≡ refusal_in q)
unfolding closed_by refusal_in
closed-keeps rule n (Definition o) = (refl, refl)
closed-keeps rule n (Lines d so z) = (refl, refl)
closed-keeps rule n (Halted m) = (refl, refl)
closed-keeps rule n Ended = (refl, refl)

closed-told : (rule : Rule) (f : Found) (t : List ℕ) (st : Filling) → ToldBy f t st → WholeTold f t (closed_in rule st)
closed-told rule f t st o = let k = closed-keeps rule st.rows st.phase in record { rows = k.0 ∙ o.rows; refusal = k.1 ∙ o.refusal; table = o.table }

-- the machine over all lines, by each rule
whole_by : (rule : Rule) (t s : List ℕ) → ToldBy (held_in (row_count t) (row_count t) (rows_by rule s 0)) t (judge_all (step_line rule) (first rule t) (lines s))
whole_by Strict t s = strict-whole t s
whole_by Complete t s = complete-whole t s

-- K1 and C6: any pieces of a file within the size limit, with one table throughout, and the end
pub fed-whole : (rule : Rule) (t : List ℕ) (ps : List (List ℕ)) → length (joined ps) ≤ limit
    → WholeTold (rows_in rule (joined ps) (row_count t)) t (end_of (all_pieces (with (begun_by rule) t) ps).feeder (all_pieces (with (begun_by rule) t) ps).table)
unfolding call_by over_limit
fed-whole rule t ps h = rw (pieces-same rule t ps h, end_same rule t (joined ps) h, le-ltb limit (length (joined ps)) h) (closed-told rule (held_in (row_count t) (row_count t) (rows_by rule (joined ps) 0)) t (judge_all (step_line rule) (first rule t) (lines (joined ps))) (whole_by rule t (joined ps)))
