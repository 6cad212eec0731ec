-- Laws of reading a row, seven numbers to a row. What is the same for rows of any kind stands in the crate `table`.
use Rattle.std.specs.Prelude.{ℕ, ◌*◌, ◌≤◌, ◌<◌, ◌≡◌, List, Bool, true, false, cond, ltb, Result, Ok, Err}
use Rattle.std.proofs.Common.{◌∙◌, ap, sym, arith}
use borrow.Author.Tests.{lt-ltb, le-ltb}
use Rattle.record.specs.declared.Record.{Record}
use Rattle.record.specs.declared.Offset.{Offset}
use Rattle.refusal.specs.declared.Refusal.{Refusal}
use Rattle.refusal.specs.declared.Refusal.TheVariants.{BadRow}
use Rattle.table.specs.Rows.{no_row}
use Rattle.table.specs.Kinds.{used_in}
use Rattle.fastq.specs.declared.QualityRow.{QualityRow}
use Rattle.fastq.specs.declared.Part.{Part}
use Rattle.fastq.specs.Parts.{part_of}
use Rattle.fastq_table.specs.Rows.{row_words, numbers_at, quality_rows, row_count, row_at, used_at, qualities_at}

module _ (t : List ℕ) (n r : ℕ) (p : Part) where
  -- the row is not in use; it is
  pub used-unused : n ≤ row_count t → n ≤ r → no_row r ≡ used_at t n r p
  unfolding used_at
  used-unused h k = rw (le-ltb _ _ h, le-ltb _ _ k)

  pub used-row : n ≤ row_count t → r < n → Ok (r, (part_of p (row_at t r))) ≡ used_at t n r p
  unfolding used_at
  used-row h k = rw (le-ltb _ _ h, lt-ltb _ _ k)

-- the bases, or the qualities, of a row in use: by what the row in use is
module _ (t : List ℕ) (n r : ℕ) (p : Part) (u : Result (ℕ × QualityRow) Refusal) (e : u ≡ used_in quality_rows numbers_at t n r) where
  pub used_none : (f : Refusal) → u ≡ Err f → Err f ≡ used_at t n r p
  unfolding used_at
  used_none f q = go (ltb (row_count t) n) (ltb r n) (sym e ∙ q)
    where
      go : (l m : Bool) → cond {A = Result (ℕ × QualityRow) Refusal} l (Err (BadRow (row_count t))) (cond {A = Result (ℕ × QualityRow) Refusal} m (Ok (r, numbers_at t (r * row_words))) (Err (BadRow r))) ≡ Err f
          → Err f ≡ cond l (no_row (row_count t)) (cond {A = Result (ℕ × Record) Refusal} m (Ok (r, part_of p (row_at t r))) (no_row r))
      go true m h = let z : BadRow (row_count t) ≡ f = cc in ap Err (sym z)
      go false true h = let z : ◌≡◌ {A = ℕ} 0 1 = cc in absurd (omega arith)
      go false false h = let z : BadRow r ≡ f = cc in ap Err (sym z)

  pub used_some : (s : ℕ) (x : QualityRow) → u ≡ Ok (s, x) → Ok (s, part_of p x) ≡ used_at t n r p
  unfolding used_at row_at
  used_some s x q = go (ltb (row_count t) n) (ltb r n) (sym e ∙ q)
    where
      go : (l m : Bool) → cond {A = Result (ℕ × QualityRow) Refusal} l (Err (BadRow (row_count t))) (cond {A = Result (ℕ × QualityRow) Refusal} m (Ok (r, numbers_at t (r * row_words))) (Err (BadRow r))) ≡ Ok (s, x)
          → Ok (s, part_of p x) ≡ cond l (no_row (row_count t)) (cond {A = Result (ℕ × Record) Refusal} m (Ok (r, part_of p (row_at t r))) (no_row r))
      go true m h = let z : ◌≡◌ {A = ℕ} 0 1 = cc in absurd (omega arith)
      go false true h =
          let z : ◌≡◌ {A = ℕ × QualityRow} (r, numbers_at t (r * row_words)) (s, x) = cc in
          ap {B = Result (ℕ × Record) Refusal} (λ (y : ℕ × QualityRow). Ok (y.0, part_of p y.1)) (sym z)
      go false false h = let z : ◌≡◌ {A = ℕ} 0 1 = cc in absurd (omega arith)

-- where its qualities begin
module _ (t : List ℕ) (r : ℕ) where
  pub qualities-none : row_count t ≤ r → record { 0 = 0 } ≡ qualities_at t r
  unfolding qualities_at
  qualities-none h = rw (le-ltb _ _ h)

  pub qualities-some : r < row_count t → (o : Offset) → o ≡ (row_at t r).qualities → o ≡ qualities_at t r
  unfolding qualities_at
  qualities-some h o e = rw (lt-ltb _ _ h) e
