-- Laws of the checker's walk: from place to place, what the records and the lines from there on lead to stays.
use Prim.Native.Nat.{ℕ, ◌+◌, ◌≤◌, ◌<◌}
use Rattle.std.specs.Prelude.{◌≡◌, List, [], ◌∷◌, Bool, true, false, length, drop, ltb, Option, Some, None, Result, Ok, Err, ⊤}
use Rattle.std.proofs.Math.Path.{refl, sym}
use Rattle.std.proofs.Common.{ap, ◌∙◌, drop_of_length-le, ltb-true, ltb-false, arith, add-one, add-zero}
use Rattle.refusal.specs.declared.Refusal.{Refusal}
use Rattle.refusal.specs.declared.Refusal.TheVariants.{TooLong, BytesLeft}
use Rattle.refusal.specs.Numbers.{over_limit}
use Rattle.lines.specs.Lines.{line_len, line_end, lines, tail_of}
use Rattle.lines.specs.Laws.{lines_at-cut, line_end-le}
use Rattle.fastq.specs.Fastq.{record_at}
use Rattle.fastq.specs.declared.QualityRow.{QualityRow}
use Rattle.fastq.specs.declared.Step as fastq
use Rattle.fastq_table.specs.Fill.{Found, nothing, with_first}
use Rattle.fastq_index.specs.File.{rows_at}
use Rattle.fastq_index.specs.FileLaws.{file-row, file-end, file-refused}
use Rattle.checker.specs.Check.{and_then}
use Rattle.fastq_checker.specs.Check.{record_says, records_say, file_says, check_of}
use Rattle.fastq_checker.specs.Taken.{Taken, taken}
use Rattle.fastq_checker.specs.Steps.{stop_then, place_behind, judged_as, step_from, step_of, check_at}
use Rattle.fastq_checker.specs.declared.Place.{Place}
use Rattle.fastq_checker.specs.declared.Step.{Step}
use Rattle.fastq_checker.specs.declared.Step.TheVariants as step

-- ---- what the indexer refuses

module _ (f : List ℕ) (at : ℕ) (r : fastq.Step) (h : r ≡ record_at f at) where
  pub stop-on : (x : QualityRow) → r.answer ≡ Ok (Some x) → ((rows_at f r.next).stop ≡ (rows_at f at).stop) × (at < length f) × (at < r.next)
  stop-on x e = let k = file-row f at r h x e in (sym (ap (λ (g : Found). g.stop) k.0), k.1, k.2)

  pub stop-end : r.answer ≡ Ok None → Ok tt ≡ stop_then (rows_at f at).stop (Ok tt)
  unfolding stop_then
  stop-end e = sym (ap (λ (g : Found). stop_then g.stop (Ok tt)) (file-end f at r h e))

  pub stop-refused : (y : Refusal) → r.answer ≡ Err y → Err y ≡ stop_then (rows_at f at).stop (Ok tt)
  unfolding stop_then
  stop-refused y e = sym (ap (λ (g : Found). stop_then g.stop (Ok tt)) (file-refused f at r h y e))

pub rest-refused : (s : Result ⊤ Refusal) (r : Refusal) (v : Result ⊤ Refusal) → stop_then s (Ok tt) ≡ Err r → Err r ≡ stop_then s v
unfolding stop_then
rest-refused (Ok _) r v e = let z : ◌≡◌ {A = ℕ} 0 1 = cc in absurd (omega arith)
rest-refused (Err y) r v e = sym e

pub rest-taken : (s : Result ⊤ Refusal) (v : Result ⊤ Refusal) → stop_then s (Ok tt) ≡ Ok tt → v ≡ stop_then s v
unfolding stop_then
rest-taken (Ok _) v e = refl
rest-taken (Err y) v e = let z : ◌≡◌ {A = ℕ} 0 1 = cc in absurd (omega arith)

-- ---- the record at a place

pub row-taken : (f : List ℕ) (at : ℕ) (r : fastq.Step) → r ≡ record_at f at → (x : QualityRow) → r.answer ≡ Ok (Some x) → (at < length f) × Taken f x
row-taken f at r h x e = ((file-row f at r h x e).1, taken f at x (rw h at e))

module _ (f i : List ℕ) (w : Place) (r : fastq.Step) (h : r ≡ record_at f w.fastq) where
  pub step_row : (x : QualityRow) → r.answer ≡ Ok (Some x)
      → judged_as (record_says (w.records + 1) f x (lines (drop w.index i))) (place_behind i w r.next) ≡ step_of f i w
  unfolding step_of
  step_row x e = rw (← h, e)

  pub step_end : r.answer ≡ Ok None → step.End ≡ step_of f i w
  unfolding step_of
  step_end e = rw (← h, e)

  pub step-stopped : (y : Refusal) → r.answer ≡ Err y → step.Stopped y ≡ step_of f i w
  unfolding step_of
  step-stopped y e = rw (← h, e)

-- ---- from place to place

lines-tail : (i : List ℕ) (a : ℕ) → tail_of (lines (drop a i)) ≡ lines (drop (line_end i a) i)
unfolding lines line_len
lines-tail i a = go (ltb a (length i)) refl
  where
    go : (t : Bool) → ltb a (length i) ≡ t → tail_of (lines (drop a i)) ≡ lines (drop (line_end i a) i)
    go true e = rw (lines_at-cut i a (ltb-true _ _ e))
    go false e = rw (drop_of_length-le i (ltb-false _ _ e), add-zero a, drop_of_length-le i (ltb-false _ _ e))

-- behind all records the file no longer matters
records-none : (k : ℕ) (f : List ℕ) (ls : List (List ℕ)) → records_say k f [] ls ≡ records_say k [] [] ls
unfolding records_say
records-none k f [] = refl
records-none k f (l ∷ ls) = refl

-- what a step leads to
abbrev after : List ℕ → List ℕ → Place → Step → Result ⊤ Refusal
after f i w (step.Next n) = check_at f i n
after f i w step.End = records_say w.records [] [] (lines (drop w.index i))
after f i w (step.Stopped y) = Err y
after f i w (step.Refused x) = stop_then (rows_at f w.fastq).stop (Err x)

module _ (f i : List ℕ) (w : Place) where
  -- what is found from the place on, with what is found behind its record
  check-found : (g : Found) → rows_at f w.fastq ≡ g → check_at f i w ≡ stop_then g.stop (records_say w.records f g.rows (lines (drop w.index i)))
  unfolding check_at
  check-found g e = rw e

  -- a record that is judged
  check-judged : (g : Found) (v : Result ⊤ Refusal) (n : Place) → (rows_at f w.fastq).stop ≡ g.stop → rows_at f n.fastq ≡ g
      → stop_then g.stop (and_then v (records_say n.records f g.rows (lines (drop n.index i)))) ≡ after f i w (judged_as v n)
  unfolding judged_as check_at
  check-judged g (Ok _) n s e = rw e
  check-judged g (Err x) n s e = rw s

  check-step : check_at f i w ≡ after f i w (step_of f i w)
  unfolding step_of records_say stop_then
  check-step = go (record_at f w.fastq).answer refl
    where
      next : ℕ
      next = (record_at f w.fastq).next

      go : (a : Result (Option QualityRow) Refusal) → (record_at f w.fastq).answer ≡ a → check_at f i w ≡ after f i w (step_from f i w a (record_at f w.fastq).next)
      go (Ok (Some x)) e =
          let k = (file-row f w.fastq (record_at f w.fastq) refl x e).0 in
          check-found (with_first x (rows_at f next)) k
          ∙ rw (lines-tail i w.index, ← add-one w.records)
          (check-judged (rows_at f next) (record_says (w.records + 1) f x (lines (drop w.index i))) (place_behind i w next) (ap (λ (g : Found). g.stop) k) refl)
      go (Ok None) e = check-found (nothing (Ok tt)) (file-end f w.fastq (record_at f w.fastq) refl e) ∙ records-none w.records f (lines (drop w.index i))
      go (Err y) e = check-found (nothing (Err y)) (file-refused f w.fastq (record_at f w.fastq) refl y e)

  pub check-refused : (x : Refusal) → step_of f i w ≡ step.Refused x → stop_then (rows_at f w.fastq).stop (Err x) ≡ check_at f i w
  check-refused x e = sym (check-step ∙ ap (after f i w) e)

  pub check-stopped : (y : Refusal) → step_of f i w ≡ step.Stopped y → Err y ≡ check_at f i w
  check-stopped y e = sym (check-step ∙ ap (after f i w) e)

  pub check-on : (n : Place) → step_of f i w ≡ step.Next n → check_at f i n ≡ check_at f i w
  check-on n e = sym (check-step ∙ ap (after f i w) e)

  pub check-over : step_of f i w ≡ step.End → records_say w.records [] [] (lines (drop w.index i)) ≡ check_at f i w
  check-over e = sym (check-step ∙ ap (after f i w) e)

-- a step moves on in both, and leads to the same
pub record Moved (f i : List ℕ) (w n : Place) : Type 0 where
  pub before : w.fastq < length f
  pub on : w.fastq < n.fastq
  pub inside : n.index ≤ length i
  pub records : n.records ≡ w.records + 1
  pub leads : check_at f i n ≡ check_at f i w

-- a step that goes on is over a record
pub stepped : (f i : List ℕ) (w n : Place) → step_of f i w ≡ step.Next n → (w.fastq < length f) × (w.fastq < n.fastq) × (n ≡ place_behind i w n.fastq)
unfolding step_of judged_as
stepped f i w n e = go (record_at f w.fastq).answer refl e
  where
    next : (v : Result ⊤ Refusal) (m : Place) → judged_as v m ≡ step.Next n → n ≡ m
    next (Ok _) m q = cc
    next (Err y) m q = let z : ◌≡◌ {A = ℕ} 0 1 = cc in absurd (omega arith)

    go : (a : Result (Option QualityRow) Refusal) → (record_at f w.fastq).answer ≡ a → step_from f i w a (record_at f w.fastq).next ≡ step.Next n
        → (w.fastq < length f) × (w.fastq < n.fastq) × (n ≡ place_behind i w n.fastq)
    go (Ok (Some x)) h q =
        let p = next (record_says (w.records + 1) f x (lines (drop w.index i))) (place_behind i w (record_at f w.fastq).next) q in
        let k = file-row f w.fastq (record_at f w.fastq) refl x h in
        rw p (k.1, k.2, refl)
    go (Ok None) h q = let z : ◌≡◌ {A = ℕ} 0 1 = cc in absurd (omega arith)
    go (Err y) h q = let z : ◌≡◌ {A = ℕ} 0 1 = cc in absurd (omega arith)

pub check-next : (f i : List ℕ) (w n : Place) → w.index ≤ length i → step_of f i w ≡ step.Next n → Moved f i w n
check-next f i w n h e =
    let s = stepped f i w n e in
    record {
      before = s.0;
      on = s.1;
      inside = omega (arith, ap (λ (m : Place). m.index) s.2, line_end-le i w.index h);
      records = ap (λ (m : Place). m.records) s.2;
      leads = check-on f i w n e;
    }

pub check-start : (f i : List ℕ) → check_at f i (record { fastq = 0; index = 0; records = 0 }) ≡ file_says f (lines i) (rows_at f 0).rows (rows_at f 0).stop
unfolding check_at stop_then
check-start f i = go (rows_at f 0).stop
  where
    go : (s : Result ⊤ Refusal) → stop_then s (records_say 0 f (rows_at f 0).rows (lines i)) ≡ file_says f (lines i) (rows_at f 0).rows s
    go (Ok _) = refl
    go (Err y) = refl

-- ---- what is left of the index

module _ (i : List ℕ) (at k : ℕ) where
  pub left-some : at < length i → Err (BytesLeft k) ≡ records_say k [] [] (lines (drop at i))
  unfolding records_say
  left-some h = rw (lines_at-cut i at h)

  pub left-none : length i ≤ at → Ok tt ≡ records_say k [] [] (lines (drop at i))
  unfolding records_say lines
  left-none h = rw (drop_of_length-le i h)

-- ---- the call

module _ (f i : List ℕ) where
  pub check-long : over_limit (length f) ≡ true → Err TooLong ≡ check_of f i
  unfolding check_of
  check-long h = rw h

  module _ (h : over_limit (length f) ≡ false) where
    pub check-long-index : over_limit (length i) ≡ true → Err TooLong ≡ check_of f i
    unfolding check_of
    check-long-index k = rw (h, k)

    pub check-within : over_limit (length i) ≡ false → file_says f (lines i) (rows_at f 0).rows (rows_at f 0).stop ≡ check_of f i
    unfolding check_of
    check-within k = rw (h, k)
