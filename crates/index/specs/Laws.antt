-- Laws of an index text, line by line, and of looking up, row by row.
use Prim.Native.Nat.{ℕ, suc, ◌+◌, ◌-◌, ◌≤◌, ◌<◌}
use Rattle.std.specs.Prelude.{◌≡◌, List, Bool, length, ltb, Option, Some, None, Result, Ok, Err}
use Rattle.std.proofs.Math.Path.{refl}
use Rattle.std.proofs.Common.{ap, sym, ◌∙◌, drop_of_length-le, ltb-true, ltb-false}
use Rattle.std.proofs.Math.Bool.{true, false, cond}
use native.Mathlib.Omega.{arith}
use Rattle.std.proofs.Math.Numerals.{add-one}
use Rattle.index_line.specs.declared.Entry.{Entry}
use Rattle.refusal.specs.declared.Refusal.{Refusal}
use Rattle.refusal.specs.declared.Refusal.TheVariants.{NameUnknown}
use Rattle.lines.specs.declared.Cursor.{Cursor}
use Rattle.lines.specs.Lines.{part, line_end, lines}
use Rattle.lines.specs.Laws.{lines_at-cut, line_end-le, line_end-gt, part_length}
use Rattle.record.specs.declared.Record.{Record}
use Rattle.table.specs.Rows.{used_at, named_of, named_at}
use Rattle.table.specs.Fill.{nothing, with_first}
use Rattle.index_line.specs.IndexLine.{index_line_says}
use Rattle.index.specs.Index.{placed_at, row_as, row_at, onwards, lines_say, index_at}
use Rattle.index.specs.Find.{named, compared_of, judged, row_from}

-- ---- line by line

module _ (text : List ℕ) (line at : ℕ) where
  pub row-end : length text ≤ at → Ok None ≡ row_at text line at
  unfolding row_at lines
  row-end h = rw (drop_of_length-le text h)

  -- by what the code has at hand: the line's end, and what the line says
  pub row_here : at < length text → (e : ℕ) → e ≡ line_end text at → (r v : Result Entry Refusal) → r ≡ index_line_says line (part text at e) → r ≡ v → row_as at e v ≡ row_at text line at
  unfolding row_at
  row_here h e he r v hr hv =
      let m : line_end text at ≡ at + (line_end text at - at) = omega arith in
      rw (← hv, hr, he, lines_at-cut text at h, part_length text at (line_end text at) (line_end-le text at (omega arith)), ← m)

  row_next : (x : Record) (c : Cursor) (v : Result Entry Refusal) → row_as at (line_end text at) v ≡ Ok (Some (x, c)) → c.at ≡ line_end text at
  row_next x c (Ok e) q =
      let p : ◌≡◌ {A = Record × Cursor} (x, c) (placed_at at e.«record», record { at = line_end text at }) = cc in ap (λ (y : Record × Cursor). y.1.at) p
  row_next x c (Err f) q = let z : ◌≡◌ {A = ℕ} 0 1 = cc in absurd (omega arith)

  index-step : at < length text → index_at text line at ≡ onwards (row_at text line at) (index_at text (line + 1) (line_end text at))
  unfolding index_at lines_say row_at
  index-step h =
      let m : line_end text at ≡ at + (line_end text at - at) = omega arith in
      rw (lines_at-cut text at h, part_length text at (line_end text at) (line_end-le text at (omega arith)), ← m, add-one line)

  index-end : length text ≤ at → index_at text line at ≡ nothing (Ok tt)
  unfolding index_at lines_say lines
  index-end h = rw (drop_of_length-le text h)

  -- by the row at a place
  module _ (r : Result (Option (Record × Cursor)) Refusal) (h : r ≡ row_at text line at) where
    within : (r ≡ Ok None → ⊥) → at < length text
    within n = go (ltb at (length text)) refl
      where
        go : (t : Bool) → ltb at (length text) ≡ t → at < length text
        go true e = ltb-true _ _ e
        go false e = absurd (n (h ∙ sym (row-end (ltb-false _ _ e))))

    pub index-row : (x : Record) (c : Cursor) → r ≡ Ok (Some (x, c))
        → (index_at text line at ≡ with_first x (index_at text (line + 1) c.at)) × (at < length text) × (at < c.at)
    index-row x c q =
        let k : at < length text = within (λ e. (let z : ◌≡◌ {A = ℕ} 0 1 = cc in omega arith)) in
        let n : c.at ≡ line_end text at = row_next x c (index_line_says line (part text at (line_end text at))) (row_here k (line_end text at) refl _ _ refl refl ∙ sym h ∙ q) in
        (index-step k ∙ rw (← h, q, n), k, omega (arith, line_end-gt text at k))

    pub index-ended : r ≡ Ok None → index_at text line at ≡ nothing (Ok tt)
    index-ended q = go (ltb at (length text)) refl
      where
        go : (t : Bool) → ltb at (length text) ≡ t → index_at text line at ≡ nothing (Ok tt)
        go true e = index-step (ltb-true _ _ e) ∙ rw (← h, q)
        go false e = index-end (ltb-false _ _ e)

    pub index-refused : (y : Refusal) → r ≡ Err y → index_at text line at ≡ nothing (Err y)
    index-refused y q = index-step (within (λ e. (let z : ◌≡◌ {A = ℕ} 0 1 = cc in omega arith))) ∙ rw (← h, q)

-- ---- row by row

-- what the rows from r on say, by how row r compares, and what those behind it say
abbrev pub stepped : ℕ → Result Bool Refusal → Result ℕ Refusal → Result ℕ Refusal
stepped r (Ok true) f = Ok r
stepped r (Err y) f = Err y
stepped r (Ok false) f = f

module _ (names t : List ℕ) (n : ℕ) (name : List ℕ) (r : ℕ) where
  pub from_end : n ≤ r → row_from names t n name (n - r) r ≡ Err NameUnknown
  unfolding row_from
  from_end h = let z : n - r ≡ 0 = omega arith in rw z

  from_step : r < n → row_from names t n name (n - r) r ≡ judged names name r (named_at t n r (length names)) (row_from names t n name (n - (r + 1)) (suc r))
  unfolding row_from
  from_step h = let z : n - r ≡ suc (n - (r + 1)) = omega arith in rw z

  -- what the rows from r on say, by how row r compares
  pub find-step : r < n → (v w : Result Bool Refusal) → v ≡ compared_of names name (named_of (length names) (used_at t n r)) → v ≡ w
      → row_from names t n name (n - r) r ≡ stepped r w (row_from names t n name (n - (r + 1)) (r + 1))
  unfolding named_at compared_of
  find-step h v w e q = from_step h ∙ go (named_of (length names) (used_at t n r)) ∙ rw (← q, e, add-one r)
    where
      pick : (x : Record) (b : Bool) (f : Result ℕ Refusal) → cond b (Ok r) f ≡ stepped r (cond b (Ok true) (Ok false)) f
      pick x true f = refl
      pick x false f = refl

      go : (d : Result Record Refusal) → judged names name r d (row_from names t n name (n - (r + 1)) (suc r)) ≡ stepped r (compared_of names name d) (row_from names t n name (n - (r + 1)) (suc r))
      go (Ok x) = pick x (named names x name) _
      go (Err f) = refl
