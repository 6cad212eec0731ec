-- Laws of an index text of six columns, line by line.
use Rattle.std.specs.Prelude.{ℕ, ◌+◌, ◌-◌, ◌≤◌, ◌<◌, ◌≡◌, refl, List, Bool, true, false, length, ltb, Option, Some, None, Result, Ok, Err}
use Rattle.std.proofs.Common.{ap, sym, ◌∙◌, drop_of_length-le, ltb-true, ltb-false}
use native.Mathlib.Omega.{arith}
use Rattle.std.proofs.Math.Numerals.{add-one}
use Rattle.fastq_line.specs.declared.Entry.{Entry}
use Rattle.refusal.specs.declared.Refusal.{Refusal}
use Rattle.lines.specs.declared.Cursor.{Cursor}
use Rattle.lines.specs.Lines.{part, line_end, lines}
use Rattle.lines.specs.Laws.{lines_at-cut, line_end-le, line_end-gt, part_length}
use Rattle.fastq.specs.declared.QualityRow.{QualityRow}
use Rattle.fastq_table.specs.Fill.{nothing, with_first}
use Rattle.fastq_line.specs.SixColumns.{six_line_says}
use Rattle.fastq_index.specs.Text.{placed_at, row_as, row_at, onwards, lines_say, index_at}

-- ---- line by line

module _ (text : List ℕ) (line at : ℕ) where
  pub row-end : length text ≤ at → Ok None ≡ row_at text line at
  unfolding row_at lines
  row-end h = rw (drop_of_length-le text h)

  -- by what the code has at hand: the line's end, and what the line says
  pub row_here : at < length text → (e : ℕ) → e ≡ line_end text at → (r v : Result Entry Refusal) → r ≡ six_line_says line (part text at e) → r ≡ v → row_as at e v ≡ row_at text line at
  unfolding row_at
  row_here h e he r v hr hv =
      let m : line_end text at ≡ at + (line_end text at - at) = omega arith in
      rw (← hv, hr, he, lines_at-cut text at h, part_length text at (line_end text at) (line_end-le text at (omega arith)), ← m)

  row_next : (x : QualityRow) (c : Cursor) (v : Result Entry Refusal) → row_as at (line_end text at) v ≡ Ok (Some (x, c)) → c.at ≡ line_end text at
  row_next x c (Ok e) q =
      let p : ◌≡◌ {A = QualityRow × Cursor} (placed_at at e.row, record { at = line_end text at }) (x, c) = cc in
      sym (ap (λ (y : QualityRow × Cursor). y.1.at) p)
  row_next x c (Err f) q = let z : ◌≡◌ {A = ℕ} 0 1 = cc in absurd (omega arith)

  index-step : at < length text → index_at text line at ≡ onwards (row_at text line at) (index_at text (line + 1) (line_end text at))
  unfolding index_at lines_say row_at
  index-step h =
      let m : line_end text at ≡ at + (line_end text at - at) = omega arith in
      rw (lines_at-cut text at h, part_length text at (line_end text at) (line_end-le text at (omega arith)), ← m, add-one line)

  index-end : length text ≤ at → index_at text line at ≡ nothing (Ok tt)
  unfolding index_at lines_say lines
  index-end h = rw (drop_of_length-le text h)

  -- by the row at a place
  module _ (r : Result (Option (QualityRow × Cursor)) Refusal) (h : r ≡ row_at text line at) where
    within : (r ≡ Ok None → ⊥) → at < length text
    within n = go (ltb at (length text)) refl
      where
        go : (t : Bool) → ltb at (length text) ≡ t → at < length text
        go true e = ltb-true _ _ e
        go false e = absurd (n (h ∙ sym (row-end (ltb-false _ _ e))))

    pub index-row : (x : QualityRow) (c : Cursor) → r ≡ Ok (Some (x, c))
        → (index_at text line at ≡ with_first x (index_at text (line + 1) c.at)) × (at < length text) × (at < c.at)
    index-row x c q =
        let k : at < length text = within (λ e. (let z : ◌≡◌ {A = ℕ} 0 1 = cc in omega arith)) in
        let n : c.at ≡ line_end text at = row_next x c (six_line_says line (part text at (line_end text at))) (row_here k (line_end text at) refl _ _ refl refl ∙ sym h ∙ q) in
        (index-step k ∙ rw (← h, q, n), k, omega (arith, line_end-gt text at k))

    pub index-ended : r ≡ Ok None → index_at text line at ≡ nothing (Ok tt)
    index-ended q = go (ltb at (length text)) refl
      where
        go : (t : Bool) → ltb at (length text) ≡ t → index_at text line at ≡ nothing (Ok tt)
        go true e = index-step (ltb-true _ _ e) ∙ rw (← h, q)
        go false e = index-end (ltb-false _ _ e)

    pub index-refused : (y : Refusal) → r ≡ Err y → index_at text line at ≡ nothing (Err y)
    index-refused y q = index-step (within (λ e. (let z : ◌≡◌ {A = ℕ} 0 1 = cc in omega arith))) ∙ rw (← h, q)
