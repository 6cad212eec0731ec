-- Laws of a part of a FASTQ file: a record moves the place on, so the count of records that bounds the definition does not matter; a part that
-- goes up to the end of the file has the file's rows; and what a turn of filling tells of the place.
use Rattle.std.specs.Prelude.{ℕ, zero, suc, ◌+◌, ◌-◌, ◌≤◌, ◌<◌, List, Bool, length, get_or, ltb, Option, Some, None, Result, Ok, Err}
use Rattle.std.proofs.Math.Path.{◌≡◌, refl, ap}
use Rattle.std.proofs.Common.{sym, ◌∙◌, lt-ltb, le-ltb, ltb-true, ltb-false, arith, add-one}
use Rattle.std.proofs.Math.Bool.{true, false, cond}
use Rattle.refusal.specs.declared.Refusal.{Refusal}
use Rattle.lines.specs.Lines.{line_end}
use Rattle.lines.specs.Laws.{line_end-le, line_end-gt, part_length}
use Rattle.table.specs.KindLaws.{next_row, next-stop, FilledRows, filled-bytes}
use Rattle.fastq.specs.Fastq.{record_at}
use Rattle.fastq.specs.RecordLaws.{record-end}
use Rattle.fastq.specs.declared.QualityRow.{QualityRow}
use Rattle.fastq.specs.declared.Step.{Step}
use Rattle.fastq_table.specs.Rows.{quality_rows}
use Rattle.fastq_table.specs.Fill.{Found, nothing, with_first, NextOf}
use Rattle.fastq_index.specs.Taken.{record-taken}
use Rattle.fastq_index.specs.File.{onwards, rows_of, rows_at}
use Rattle.fastq_index.specs.Part.{record_before, rows_up_to, rows_before, behind, next_for, next_before, PartBytes}
use Rattle.fastq_index.specs.declared.PartFilled.{PartFilled}
use Rattle.table.specs.Kinds.{no_more}

-- ---- a record moves the place on

pub record-moves : (s : List ℕ) (at : ℕ) (x : QualityRow) → (record_at s at).answer ≡ Ok (Some x) → (at < length s) × (at < (record_at s at).next)
record-moves s at x e =
    let t = record-taken s at x e in
    (t.here, omega (arith, t.here, t.good.on, part_length s at (line_end s at) (line_end-le s at (omega (arith, t.here))), line_end-gt s at t.here))

-- a row of a part is that of the file's record
pub record-before : (s : List ℕ) (to at : ℕ) (x : QualityRow) → (record_before s to at).answer ≡ Ok (Some x) → (record_before s to at ≡ record_at s at) × (at < to)
unfolding record_before
record-before s to at x e = go (ltb at to) refl e
  where
    go : (t : Bool) → ltb at to ≡ t → (cond t (record_at s at) (record { answer = Ok None; next = at })).answer ≡ Ok (Some x)
        → (cond t (record_at s at) (record { answer = Ok None; next = at }) ≡ record_at s at) × (at < to)
    go true h q = (refl, ltb-true _ _ h)
    go false h q = let z : ◌≡◌ {A = ℕ} 0 1 = cc in absurd (omega arith)

before-moves : (s : List ℕ) (to at : ℕ) (x : QualityRow) → (record_before s to at).answer ≡ Ok (Some x) → (at < length s) × (at < (record_before s to at).next)
before-moves s to at x e = let q = (record-before s to at x e).0 in rw q (record-moves s at x (ap (λ (y : Step). y.answer) (sym q) ∙ e))

-- ---- enough is enough

pub enough : (k m : ℕ) (s : List ℕ) (to at : ℕ) → length s - at < k → length s - at < m → rows_up_to k s to at ≡ rows_up_to m s to at
unfolding rows_up_to
enough zero m s to at h g = absurd (omega arith)
enough (suc k) zero s to at h g = absurd (omega arith)
enough (suc k) (suc m) s to at h g = go (record_before s to at).answer refl (enough k m s to (record_before s to at).next)
  where
    go : (a : Result (Option QualityRow) Refusal) → (record_before s to at).answer ≡ a
        → (length s - (record_before s to at).next < k → length s - (record_before s to at).next < m → rows_up_to k s to (record_before s to at).next ≡ rows_up_to m s to (record_before s to at).next)
        → onwards a (rows_up_to k s to (record_before s to at).next) ≡ onwards a (rows_up_to m s to (record_before s to at).next)
    go (Ok (Some x)) e ih = let v = before-moves s to at x e in ap (with_first x) (ih (omega (arith, v)) (omega (arith, v)))
    go (Ok None) e ih = refl
    go (Err y) e ih = refl

pub enough-before : (k : ℕ) (s : List ℕ) (to at : ℕ) → length s - at < k → rows_up_to k s to at ≡ rows_before s to at
unfolding rows_before
enough-before k s to at h = enough k (suc (length s - at)) s to at h (omega arith)

-- ---- before the part's end, and from there on

pub before_at : (s : List ℕ) (to at : ℕ) → at < to → record_before s to at ≡ record_at s at
unfolding record_before
before_at s to at h = rw (lt-ltb at to h)

pub before-past : (s : List ℕ) (to at : ℕ) → to ≤ at → record_before s to at ≡ record { answer = Ok None; next = at }
unfolding record_before
before-past s to at h = rw (le-ltb at to h)

-- ---- a part up to the end of the file

record-whole : (s : List ℕ) (to at : ℕ) → length s ≤ to → record_before s to at ≡ record_at s at
record-whole s to at h = go (ltb at to) refl
  where
    go : (t : Bool) → ltb at to ≡ t → record_before s to at ≡ record_at s at
    go true q = before_at s to at (ltb-true at to q)
    go false q = let l = ltb-false at to q in before-past s to at l ∙ record-end s at (omega (arith, l))

pub up-to-whole : (k : ℕ) (s : List ℕ) (to at : ℕ) → length s ≤ to → rows_up_to k s to at ≡ rows_of k s at
unfolding rows_up_to rows_of
up-to-whole zero s to at h = refl
up-to-whole (suc k) s to at h = rw (record-whole s to at h) (ap (onwards (record_at s at).answer) (up-to-whole k s to (record_at s at).next h))

pub part-whole : (s : List ℕ) (to at : ℕ) → length s ≤ to → rows_before s to at ≡ rows_at s at
unfolding rows_before rows_at
part-whole s to at h = up-to-whole (suc (length s - at)) s to at h

-- ---- by the record at a place

module _ (s : List ℕ) (to at : ℕ) where
  step : rows_before s to at ≡ onwards (record_before s to at).answer (rows_up_to (length s - at) s to (record_before s to at).next)
  unfolding rows_before rows_up_to
  step = refl

  pub part-row : (x : QualityRow) → (record_before s to at).answer ≡ Ok (Some x) → (rows_before s to at ≡ with_first x (rows_before s to (record_before s to at).next)) × (at < length s) × (at < (record_before s to at).next)
  unfolding rows_before
  part-row x e =
      let v = before-moves s to at x e in
      let b = (record_before s to at).next in
      (step ∙ ap (λ (a : Result (Option QualityRow) Refusal). onwards a (rows_up_to (length s - at) s to b)) e ∙ ap (with_first x) (enough (length s - at) (suc (length s - b)) s to b (omega (arith, v)) (omega arith)), v.0, v.1)

  pub part_end : (record_before s to at).answer ≡ Ok None → rows_before s to at ≡ nothing (Ok tt)
  part_end e = step ∙ ap (λ (a : Result (Option QualityRow) Refusal). onwards a (rows_up_to (length s - at) s to (record_before s to at).next)) e

  pub part-refused : (y : Refusal) → (record_before s to at).answer ≡ Err y → rows_before s to at ≡ nothing (Err y)
  part-refused y e = step ∙ ap (λ (a : Result (Option QualityRow) Refusal). onwards a (rows_up_to (length s - at) s to (record_before s to at).next)) e

  -- what the code finds at a place
  pub next_past : to ≤ at → no_more (Ok tt) ≡ next_before s to at
  unfolding next_before
  next_past h = rw (before-past s to at h)

  pub next-at : at < to → (r : Step) → r ≡ record_at s at → (a : Result (Option QualityRow) Refusal) → r.answer ≡ a → next_for a r.next ≡ next_before s to at
  unfolding next_before
  next-at h r e a q = rw (before_at s to at h, ← e, q)

  -- the next row of a part
  pub next-before : (x : Result (Option (QualityRow × ℕ)) Refusal) → x ≡ next_before s to at → NextOf (rows_before s to at) (rows_before s to) at (length s) x
  unfolding next_before
  next-before x q = rw q (go (record_before s to at).answer refl)
    where
      go : (a : Result (Option QualityRow) Refusal) → (record_before s to at).answer ≡ a → NextOf (rows_before s to at) (rows_before s to) at (length s) (next_for a (record_before s to at).next)
      go (Ok (Some x)) e = next_row _ _ _ _ _ _ (part-row x e)
      go (Ok None) e = next-stop _ _ _ _ _ (part_end e)
      go (Err y) e = next-stop _ _ _ _ _ (part-refused y e)

  -- behind the next row the record ends
  pub next-place : (x : QualityRow) (b : ℕ) → next_before s to at ≡ Ok (Some (x, b)) → b ≡ (record_at s at).next
  unfolding next_before
  next-place x b q = go (record_before s to at).answer refl q
    where
      go : (y : Result (Option QualityRow) Refusal) → (record_before s to at).answer ≡ y → next_for y (record_before s to at).next ≡ Ok (Some (x, b)) → b ≡ (record_at s at).next
      go (Ok (Some z)) e w =
          let p : ◌≡◌ {A = QualityRow × ℕ} (x, b) (z, (record_before s to at).next) = cc in
          ap (λ (y : QualityRow × ℕ). y.1) p ∙ ap (λ (y : Step). y.next) (record-before s to at z e).0
      go (Ok None) e w = let z : ◌≡◌ {A = ℕ} 0 1 = cc in absurd (omega arith)
      go (Err y) e w = let z : ◌≡◌ {A = ℕ} 0 1 = cc in absurd (omega arith)

-- ---- the offset behind some records

-- one record more
behind-last : (s : List ℕ) (n at : ℕ) → behind s (suc n) at ≡ (record_at s (behind s n at)).next
unfolding behind
behind-last s zero at = refl
behind-last s (suc n) at = behind-last s n (record_at s at).next

pub behind_more : (s : List ℕ) (n from at b : ℕ) → at ≡ behind s n from → b ≡ (record_at s at).next → b ≡ behind s (n + 1) from
behind_more s n from at b h e = e ∙ ap (λ (i : ℕ). (record_at s i).next) h ∙ sym (behind-last s n from) ∙ ap (λ (k : ℕ). behind s k from) (sym (add-one n))

pub behind-none : (s : List ℕ) (at : ℕ) → at ≡ behind s 0 at
unfolding behind
behind-none s at = refl

-- some records, and some more
pub behind-add : (s : List ℕ) (n m at : ℕ) → behind s (n + m) at ≡ behind s m (behind s n at)
unfolding behind
behind-add s zero m at = let e : zero + m ≡ m = omega arith in rw e
behind-add s (suc n) m at = let e : suc n + m ≡ suc (n + m) = omega arith in rw e (behind-add s n m (record_at s at).next)

-- ---- the call

pub part-filled : (s : List ℕ) (from : ℕ) (f : Found) (t t' : List ℕ) (r : PartFilled) → FilledRows quality_rows f t t' r.filled → r.next ≡ behind s r.filled.rows from
    → ((i : ℕ) → get_or t' i 0 < 256) → PartBytes s from f t t' r
part-filled s from f t t' r h n m = record { filled = filled-bytes f t t' r.filled h m; next = n ∙ ap (λ (k : ℕ). behind s k from) h.filled.rows }
