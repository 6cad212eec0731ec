-- Laws of a FASTQ file's rows: a record moves the place on, so the count of records that bounds the definition does not matter.
use Rattle.std.specs.Prelude.{ℕ, suc, ◌-◌, ◌≤◌, ◌<◌, ◌≡◌, List, length, Option, Some, None, Result, Ok, Err}
use Rattle.std.proofs.Math.Path.{ap}
use Rattle.std.proofs.Common.{sym, ◌∙◌, arith}
use Rattle.refusal.specs.declared.Refusal.{Refusal}
use Rattle.fastq.specs.Fastq.{record_at}
use Rattle.fastq.specs.declared.QualityRow.{QualityRow}
use Rattle.fastq.specs.declared.Step.{Step}
use Rattle.fastq_table.specs.Fill.{nothing, with_first}
use Rattle.fastq_index.specs.PartLaws.{record-moves, up-to-whole}
use Rattle.fastq_index.specs.PartLaws as parts
use Rattle.fastq_index.specs.File.{onwards, rows_of, rows_at}

-- ---- enough is enough

enough : (k m : ℕ) (s : List ℕ) (at : ℕ) → length s - at < k → length s - at < m → rows_of k s at ≡ rows_of m s at
enough k m s at h g =
    let e : length s ≤ length s = omega arith in
    sym (up-to-whole k s (length s) at e) ∙ parts.enough k m s (length s) at h g ∙ up-to-whole m s (length s) at e

-- ---- by the record at a place

module _ (s : List ℕ) (at : ℕ) (r : Step) (h : r ≡ record_at s at) where
  step : rows_at s at ≡ onwards r.answer (rows_of (length s - at) s r.next)
  unfolding rows_at rows_of
  step = rw h

  pub file-row : (x : QualityRow) → r.answer ≡ Ok (Some x) → (rows_at s at ≡ with_first x (rows_at s r.next)) × (at < length s) × (at < r.next)
  unfolding rows_at
  file-row x e =
      let v = record-moves s at x (ap (λ (y : Step). y.answer) (sym h) ∙ e) in
      let n : at < r.next = rw h v.1 in
      (step ∙ ap (λ (a : Result (Option QualityRow) Refusal). onwards a (rows_of (length s - at) s r.next)) e ∙ ap (with_first x) (enough (length s - at) (suc (length s - r.next)) s r.next (omega (arith, v.0)) (omega arith)), v.0, n)

  pub file-end : r.answer ≡ Ok None → rows_at s at ≡ nothing (Ok tt)
  file-end e = step ∙ ap (λ (a : Result (Option QualityRow) Refusal). onwards a (rows_of (length s - at) s r.next)) e

  pub file-refused : (y : Refusal) → r.answer ≡ Err y → rows_at s at ≡ nothing (Err y)
  file-refused y e = step ∙ ap (λ (a : Result (Option QualityRow) Refusal). onwards a (rows_of (length s - at) s r.next)) e
