-- Each way out of the calls of a feeder is a case of its definition.
use Rattle.std.specs.Prelude.{ℕ, ◌+◌, ◌≤◌, ◌≡◌, List, Bool, true, false, not}
use Rattle.std.proofs.Math.Path.{refl}
use Rattle.std.proofs.Common.{ap, sym, arith}
use Rattle.std.proofs.Math.ListN.{length}
use borrow.Author.Tests.{eq-eqb, ne_eqb, lt-ltb, le-ltb}
use Rattle.refusal.specs.Numbers.{over_limit}
use Rattle.refusal.specs.declared.Refusal.TheVariants.{TooLong}
use Rattle.table.specs.Numbers.{numbers_in}
use Rattle.feeder.specs.declared.Settled.{Settled}
use Rattle.feeder.specs.declared.Fed.{Fed}
use Rattle.feeder.specs.declared.Out.{Out}
use Rattle.feeder.specs.declared.Feeder.{Feeder}
use Rattle.feeder.specs.Machine.{out_of, step_by, SettleDone, FeedDone}
use Rattle.feeder.specs.Calls.{limit, refused_by, live, still_stopped, sound_of, stopped, kept_by, kept_in, piece_of, closed_by, closed_in, end_of, CallDone, refusal_in}
use Rattle.refusal.specs.declared.Numbers as refused
use Rattle.fitting.specs.declared.Rule.{Rule}
use Rattle.feeder.specs.declared.Waiting.{Waiting}
use Rattle.feeder.specs.declared.Phase.{Phase}
use Rattle.feeder.specs.declared.Phase.TheVariants.{Definition, Lines, Halted, Ended}

module _ (f : Feeder) (p t : List ℕ) (r : Feeder) where
  pub piece-none : length p ≡ 0 → CallDone (piece_of f p (numbers_in t)) t f t
  unfolding piece_of
  piece-none h = record { is = rw (eq-eqb _ _ h); rest = refl }

  module _ (z : length p ≡ 0 → ⊥) where
    pub piece-stopped : live f.phase ≡ false → r ≡ still_stopped f f.phase → CallDone (piece_of f p (numbers_in t)) t r t
    unfolding piece_of
    piece-stopped l e = record { is = rw (ne_eqb _ _ z, l, e); rest = refl }

    module _ (l : live f.phase ≡ true) where
      pub piece-unsound : sound_of f ≡ false → r ≡ refused_by f TooLong → CallDone (piece_of f p (numbers_in t)) t r t
      unfolding piece_of
      piece-unsound s e = record { is = rw (ne_eqb _ _ z, l, s, e); rest = refl }

      module _ (s : sound_of f ≡ true) (k : f.total ≤ limit) where
        pub piece-long : limit + 1 ≤ f.total + length p → r ≡ refused_by f TooLong → CallDone (piece_of f p (numbers_in t)) t r t
        unfolding piece_of over_limit
        piece-long h e = record { is = rw (ne_eqb _ _ z, l, s, lt-ltb limit (f.total + length p) (omega arith), e); rest = refl }

        pub piece-fed : (g : Fed) (u : List ℕ) → f.total + length p ≤ limit → FeedDone f.rule (record { phase = f.phase; rows = f.rows; waiting = f.waiting }) p t g u
            → r ≡ kept_by f.rule (f.total + length p) g.phase g.rows g.waiting → CallDone (piece_of f p (numbers_in t)) t r u
        unfolding piece_of over_limit
        piece-fed g u h d e = record {
          is = rw (ne_eqb _ _ z, l, s, le-ltb limit (f.total + length p) h, e) (ap (kept_in f.rule (f.total + length p)) d.is);
          rest = d.rest;
        }

module _ (f : Feeder) (t : List ℕ) (r : Feeder) where
  pub end-stopped : live f.phase ≡ false → r ≡ still_stopped f f.phase → CallDone (end_of f (numbers_in t)) t r t
  unfolding end_of
  end-stopped l e = record { is = rw (l, e); rest = refl }

  module _ (l : live f.phase ≡ true) where
    pub end-unsound : sound_of f ≡ false → r ≡ refused_by f TooLong → CallDone (end_of f (numbers_in t)) t r t
    unfolding end_of
    end-unsound s e = record { is = rw (l, s, e); rest = refl }

    module _ (s : sound_of f ≡ true) where
      pub end_empty : f.waiting.width ≡ 0 → r ≡ closed_by f.rule f.phase f.rows → CallDone (end_of f (numbers_in t)) t r t
      unfolding end_of
      end_empty h e = record { is = rw (l, s, eq-eqb _ _ h, e); rest = refl }

      pub end-judged : (out : Out) (g : Settled) (u : List ℕ) → (f.waiting.width ≡ 0 → ⊥) → out ≡ out_of f.rule f.phase f.waiting true → SettleDone out f.rows t g u
          → r ≡ closed_by f.rule g.phase g.rows → CallDone (end_of f (numbers_in t)) t r u
      unfolding end_of step_by
      end-judged out g u h o d e = record {
        is = rw (l, s, ne_eqb _ _ h, e, ← o) (ap (closed_in f.rule) d.is);
        rest = d.rest;
      }

-- a negated test
pub not-true : (b : Bool) → not b ≡ true → b ≡ false
not-true true e = sym e
not-true false e = refl

pub not-false : (b : Bool) → not b ≡ false → b ≡ true
not-false true e = refl
not-false false e = sym e

-- ---- what holds of each phase but one

pub still-other : (f : Feeder) (p : Phase) → (p ≡ Ended → ⊥) → f ≡ still_stopped f p
unfolding still_stopped
still-other f (Definition at) h = refl
still-other f (Lines d so z) h = refl
still-other f (Halted n) h = refl
still-other f Ended h = absurd (h refl)

pub kept-other : (rule : Rule) (total rows : ℕ) (t : Waiting) (p : Phase) → ((n : refused.Numbers) → p ≡ Halted n → ⊥) → record { rule = rule; total = total; rows = rows; phase = p; waiting = t } ≡ kept_by rule total p rows t
unfolding kept_by
kept-other rule total rows t (Definition at) h = refl
kept-other rule total rows t (Lines d so z) h = refl
kept-other rule total rows t (Halted n) h = absurd (h n refl)
kept-other rule total rows t Ended h = refl

pub closed-other : (rule : Rule) (rows : ℕ) (p : Phase) → ((n : refused.Numbers) → p ≡ Halted n → ⊥) → stopped rule rows Ended ≡ closed_by rule p rows
unfolding closed_by
closed-other rule rows (Definition at) h = refl
closed-other rule rows (Lines d so z) h = refl
closed-other rule rows (Halted n) h = absurd (h n refl)
closed-other rule rows Ended h = refl

pub refusal-none : (p : Phase) → ((n : refused.Numbers) → p ≡ Halted n → ⊥) → record { refusal = 0; first = 0; second = 0 } ≡ refusal_in p
unfolding refusal_in
refusal-none (Definition at) h = refl
refusal-none (Lines d so z) h = refl
refusal-none (Halted n) h = absurd (h n refl)
refusal-none Ended h = refl
