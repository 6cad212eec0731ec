-- A feeder as a host keeps it between two calls: a struct of numbers. Any numbers make a feeder (`feederBy`), and those of a feeder make that
-- feeder again (`feeder-back`).
use Rattle.std.specs.Prelude.{ℕ, ◌<◌, ◌≡◌, refl, List, Bool, true, false, cond, not, eqb, get_or}
use Rattle.std.proofs.Common.{ap}
use Rattle.refusal.specs.declared.Numbers as refused
use Rattle.fitting.specs.declared.Numbers.{Numbers}
use Rattle.fitting.specs.declared.Rule.{Rule}
use Rattle.fitting.specs.declared.Rule.TheVariants.{Strict, Complete}
use Rattle.table.specs.Numbers.{numbers_in, with_numbers}
use Rattle.table.specs.NumberLaws.{became-bytes}
use Rattle.output.specs.Outcome.{Outcome, leaves}
use Rattle.feeder.specs.declared.Waiting.{Waiting}
use Rattle.feeder.specs.declared.Opened.{Opened}
use Rattle.feeder.specs.declared.SoFar.{SoFar}
use Rattle.feeder.specs.declared.SoFar.TheVariants.{Blank, Run, Rows}
use Rattle.feeder.specs.declared.Phase.{Phase}
use Rattle.feeder.specs.declared.Phase.TheVariants.{Definition, Lines, Halted, Ended}
use Rattle.feeder.specs.declared.Feeder.{Feeder}
use Rattle.feeder.specs.Calls.{With, CallDone}
use Rattle.wakeluri.specs.Answer.{fine, no_span, flag_of}
use Rattle.wakeluri.specs.declared.feeding.Feed.{Feed}
use Rattle.wakeluri.specs.declared.feeding.Told.{Told}

-- ---- a feeder by numbers

unfoldable pub rule_by : ℕ → Rule
rule_by n = cond (eqb n 0) Strict Complete

unfoldable pub rule_number : Rule → ℕ
rule_number Strict = 0
rule_number Complete = 1

unfoldable pub waiting_by : Feed → Waiting
waiting_by f = record {
  width = f.waiting_width;
  bases = f.waiting_bases;
  whole = not (eqb f.waiting_whole 0);
  starts = not (eqb f.waiting_starts 0);
  name = f.waiting_name;
  text = f.waiting_text;
  kept = f.waiting_kept;
}

abbrev pub opened_by : Feed → Opened
opened_by f = record {
  at = f.at;
  end = f.end;
  said = record { name = record { start = f.name_start; length = f.name_length }; description = record { start = f.description_start; length = f.description_length } };
}

abbrev pub numbers_by : Feed → Numbers
numbers_by f = record { position = f.position; bases = f.line_bases; width = f.line_width }

unfoldable pub so_far_by : Feed → SoFar
so_far_by f = cond (eqb f.lines 0) Blank (cond (eqb f.lines 1) (Run (numbers_by f)) (Rows (numbers_by f) f.bases))

-- 0 awaits a definition, 1 a line of a sequence; 2 is behind a refusal, and anything else behind the end
unfoldable pub phase_by : Feed → Phase
phase_by f =
    cond (eqb f.stage 0) (Definition f.next)
    (cond (eqb f.stage 1) (Lines (opened_by f) (so_far_by f) f.next)
    (cond (eqb f.stage 2) (Halted (record { refusal = f.refusal; first = f.first; second = f.second })) Ended))

abbrev pub feeder_by : Feed → Feeder
feeder_by f = record { rule = rule_by f.complete; total = f.total; rows = f.rows; phase = phase_by f; waiting = waiting_by f }

-- ---- the numbers of a feeder

abbrev pub no_numbers : Numbers
no_numbers = record { position = 0; bases = 0; width = 0 }

abbrev pub no_opened : Opened
no_opened = record { at = 0; end = 0; said = record { name = no_span; description = no_span } }

unfoldable pub lines_told : SoFar → Told
lines_told Blank = record { lines = 0; numbers = no_numbers; bases = 0 }
lines_told (Run n) = record { lines = 1; numbers = n; bases = 0 }
lines_told (Rows n k) = record { lines = 2; numbers = n; bases = k }

abbrev pub flat_of : Feeder → refused.Numbers → ℕ → ℕ → Opened → Told → Feed
flat_of f n stage next d t = record {
  refusal = n.refusal;
  first = n.first;
  second = n.second;
  rows = f.rows;
  complete = rule_number f.rule;
  total = f.total;
  stage = stage;
  next = next;
  at = d.at;
  end = d.end;
  name_start = d.said.name.start;
  name_length = d.said.name.length;
  description_start = d.said.description.start;
  description_length = d.said.description.length;
  lines = t.lines;
  position = t.numbers.position;
  line_bases = t.numbers.bases;
  line_width = t.numbers.width;
  bases = t.bases;
  waiting_width = f.waiting.width;
  waiting_bases = f.waiting.bases;
  waiting_whole = flag_of f.waiting.whole;
  waiting_starts = flag_of f.waiting.starts;
  waiting_name = f.waiting.name;
  waiting_text = f.waiting.text;
  waiting_kept = f.waiting.kept;
}

abbrev pub feed_in : Feeder → Phase → Feed
feed_in f (Definition at) = flat_of f fine 0 at no_opened (lines_told Blank)
feed_in f (Lines d t z) = flat_of f fine 1 z d (lines_told t)
feed_in f (Halted n) = flat_of f n 2 0 no_opened (lines_told Blank)
feed_in f Ended = flat_of f fine 3 0 no_opened (lines_told Blank)

unfoldable pub feed_told : Feeder → Feed
feed_told f = feed_in f f.phase

-- what a call answers, and leaves in the table's bytes
unfoldable pub call_told : With → List ℕ → Outcome Feed
call_told w t = leaves (feed_told w.feeder) (with_numbers t w.table)

-- ---- there and back

rule-back : (r : Rule) → rule_by (rule_number r) ≡ r
unfolding rule_by rule_number
rule-back Strict = refl
rule-back Complete = refl

flag-back : (b : Bool) → not (eqb (flag_of b) 0) ≡ b
flag-back true = refl
flag-back false = refl

phase-back : (f : Feeder) (p : Phase) → feeder_by (feed_in f p) ≡ record { rule = f.rule; total = f.total; rows = f.rows; phase = p; waiting = f.waiting }
unfolding waiting_by phase_by so_far_by lines_told
phase-back f (Definition at) = rw (rule-back f.rule, flag-back f.waiting.whole, flag-back f.waiting.starts)
phase-back f (Lines d Blank z) = rw (rule-back f.rule, flag-back f.waiting.whole, flag-back f.waiting.starts)
phase-back f (Lines d (Run n) z) = rw (rule-back f.rule, flag-back f.waiting.whole, flag-back f.waiting.starts)
phase-back f (Lines d (Rows n k) z) = rw (rule-back f.rule, flag-back f.waiting.whole, flag-back f.waiting.starts)
phase-back f (Halted n) = rw (rule-back f.rule, flag-back f.waiting.whole, flag-back f.waiting.starts)
phase-back f Ended = rw (rule-back f.rule, flag-back f.waiting.whole, flag-back f.waiting.starts)

-- what a host is handed is the feeder, when it comes back
pub feeder-back : (f : Feeder) → feeder_by (feed_told f) ≡ f
unfolding feed_told
feeder-back f = phase-back f f.phase

-- ---- the calls

pub call-told : (w : With) (t u : List ℕ) (r : Feeder) (a : Feed) → CallDone w t r u → a ≡ feed_told r → ((i : ℕ) → get_or u i 0 < 256) → leaves a u ≡ call_told w t
unfolding call_told
call-told w t u r a d e m = rw (← d.is, e) (ap (leaves (feed_told r)) (became-bytes t (numbers_in u) u (record { numbers = refl; rest = d.rest }) m))
