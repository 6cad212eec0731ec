-- 34 where a host meets it (request K7): at wakeluri_read_window, over the bytes that are lent.
--
-- `unseen-told`, `told-unseen`: it answers 34 and base position p exactly if base p is the first of the region that is in the file and not in the
-- window, and nothing else is refused (`FirstUnseen`); then the output is as it was.
use Rattle.std.specs.Prelude.{ℕ, ◌≡◌, List, Bool, true, false, cond, eqb, ltb, Result, Ok, Err}
use Rattle.std.proofs.Math.Path.{ap}
use Rattle.std.proofs.Common.{◌∙◌, arith}
use Rattle.refusal.specs.Numbers.{numbers_of}
use Rattle.refusal.specs.Apart.{case_of, case-by-number}
use Rattle.refusal.specs.declared.Refusal.{Refusal}
use Rattle.refusal.specs.declared.Refusal.TheVariants.{NotInWindow}
use Rattle.record.specs.declared.Record.{Record}
use Rattle.output.specs.Outcome.{Outcome}
use Rattle.table.specs.Rows.{row_count, row_at, no_row, bad_row, used_at, sound_row, held_of, held_at}
use Rattle.table.specs.Numbers.{numbers_in}
use Rattle.region.specs.Seen.{FirstUnseen}
use Rattle.region.specs.Window.{window_read}
use Rattle.region.specs.Windowed.{unseen-if, unseen-only-if}
use Rattle.wakeluri.specs.declared.answer.Answer.{Answer}
use Rattle.wakeluri.specs.Answer.{bound_of, written_answer}
use Rattle.wakeluri.specs.Told.{written_told}
use Rattle.demands.specs.Calls.{ReadWindow}

-- a row of a table is refused with 25 alone
sound-other : (r : ℕ) (x : Record) (q : ℕ) → sound_row r x ≡ Err (NotInWindow q) → ⊥
unfolding sound_row
sound-other r x q h = go (eqb x.line_bases 0) (eqb x.line_width 0) h
  where
    go : (b w : Bool) → cond b (bad_row r) (cond w (bad_row r) (Ok x)) ≡ Err (NotInWindow q) → ⊥
    go true w k = let z : ◌≡◌ {A = ℕ} 0 1 = cc in omega arith
    go false true k = let z : ◌≡◌ {A = ℕ} 0 1 = cc in omega arith
    go false false k = let z : ◌≡◌ {A = ℕ} 0 1 = cc in omega arith

row_other : (t : List ℕ) (u r q : ℕ) → held_at t u r ≡ Err (NotInWindow q) → ⊥
unfolding held_at held_of used_at
row_other t u r q h = go (ltb (row_count t) u) (ltb r u) h
  where
    go : (b c : Bool) → held_of (cond b (no_row (row_count t)) (cond c (Ok (r, (row_at t r))) (no_row r))) ≡ Err (NotInWindow q) → ⊥
    go true c k = let z : ◌≡◌ {A = ℕ} 0 1 = cc in omega arith
    go false true k = sound-other r (row_at t r) q k
    go false false k = let z : ◌≡◌ {A = ℕ} 0 1 = cc in omega arith

-- 34 and its base position are the whole refusal
by-34 : (f : Refusal) (p : ℕ) → (numbers_of f).refusal ≡ 34 → (numbers_of f).first ≡ p → f ≡ NotInWindow p
unfolding case_of
by-34 f p h k = case-by-number f ∙ rw (h, k)

answer-34 : (w : Result ℕ Refusal) (p : ℕ) → (written_answer w).refusal ≡ 34 → (written_answer w).first ≡ p → w ≡ Err (NotInWindow p)
unfolding written_answer
answer-34 (Ok n) p h k = absurd (omega arith)
answer-34 (Err f) p h k = ap Err (by-34 f p h k)

-- the answer
pub record Tells34 (a : Answer) (p : ℕ) (out out' : List ℕ) : Type 0 where
  pub refusal : a.refusal ≡ 34
  pub base : a.first ≡ p
  pub same : out' ≡ out

module _ (bytes : ℕ) (window : List ℕ) (from : ℕ) (table : List ℕ) (in_use row has-start start has_end end : ℕ) (out : List ℕ) (a : Answer) (out' : List ℕ)
    (call : ReadWindow bytes window from table in_use row has-start start has_end end out a out') (p : ℕ) where
  pub unseen-told : FirstUnseen bytes window from (held_at (numbers_in table) in_use row) (bound_of has-start start) (bound_of has_end end) out p → Tells34 a p out out'
  unfolding window_read written_told written_answer numbers_of
  unseen-told u =
      let w = rw (unseen-if bytes window from (held_at (numbers_in table) in_use row) (bound_of has-start start) (bound_of has_end end) out p u) at call in
      let b : a ≡ written_answer (Err (NotInWindow p)) = ap (λ (o : Outcome Answer). o.answer) w in
      record { refusal = rw b; base = rw b; same = ap (λ (o : Outcome Answer). o.output) w }

  pub told-unseen : a.refusal ≡ 34 → a.first ≡ p → FirstUnseen bytes window from (held_at (numbers_in table) in_use row) (bound_of has-start start) (bound_of has_end end) out p
  unfolding window_read written_told
  told-unseen h k =
      let b : a ≡ written_answer (window_read bytes window from (numbers_in table) in_use row (bound_of has-start start) (bound_of has_end end) out).answer = ap (λ (o : Outcome Answer). o.answer) call in
      unseen-only-if bytes window from (held_at (numbers_in table) in_use row) (bound_of has-start start) (bound_of has_end end) out p
      (row_other (numbers_in table) in_use row) (answer-34 _ p (rw b at h) (rw b at k))
