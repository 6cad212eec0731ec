-- Over the lines of a whole file the machine by the ported rule gives what indexing the file gives. So any pieces and the end leave the table,
-- the count and the refusal of one call on all their bytes: `fed-whole`.
use Prim.Native.Nat.{ℕ, zero, suc, ◌+◌, ◌<◌}
use Rattle.std.specs.Prelude.{◌≡◌, Bool, cond, length, eqb, Result, Ok, Err, ⊤}
use Rattle.std.proofs.Math.Path.{refl, ap, sym}
use Rattle.std.proofs.Common.{◌∙◌, length-append, arith, add-zero, zero-add}
use mathlib.Core.List.{List, [], ◌∷◌, ◌++◌}
use Rattle.std.proofs.Math.Bool.{true, false}
use Rattle.refusal.specs.declared.Refusal.{Refusal}
use Rattle.definition.specs.declared.Definition as definition
use Rattle.definition.specs.declared.Fault.{Fault}
use borrow.Author.Tests.{lt-ltb, le-ltb}
use Rattle.refusal.specs.Numbers.{numbers_of}
use Rattle.refusal.specs.declared.Numbers as refused
use Rattle.refusal.specs.declared.Refusal.TheVariants.{NoBases, LineBases, LineWidth}
use Rattle.lines.specs.declared.Line.{Line}
use Rattle.lines.specs.Lines.{lines, seq_of, none}
use Rattle.lines.specs.Feeding.{judge_all}
use Rattle.record.specs.declared.Record.{Record}
use Rattle.table.specs.Rows.{row_count, with_row, with_rows}
use Rattle.table.specs.RowLaws.{rows_none, rows_append, row_count-rows, with-row}
use Rattle.table.specs.Fill.{Found, held_in}
use Rattle.indexer.specs.Index.{fits_last}
use Rattle.indexer.specs.File.{file_at}
use Rattle.indexer.specs.ByLines as old
use Rattle.indexer.specs.LineSums.{Sum, sum_of, sum_says, sums-law, step_sum}
use Rattle.fitting.specs.declared.Rule.TheVariants.{Strict}
use Rattle.feeder.specs.declared.Waiting.{Waiting}
use Rattle.feeder.specs.declared.SoFar.TheVariants.{Blank, Rows}
use Rattle.feeder.specs.declared.Phase.{Phase}
use Rattle.feeder.specs.declared.Phase.TheVariants.{Definition, Lines, Halted, Ended}
use Rattle.feeder.specs.declared.Out.{Out}
use Rattle.feeder.specs.declared.Out.TheVariants.{Keeps, Emits}
use Rattle.feeder.specs.Waiting.{unpack, slim, waiting_of}
use Rattle.feeder.specs.Machine.{close_alone, opened_at, definition_out, first_out, further_out, strict_out, line_out, out_of, Filling, filling, applied, step_by}
use Rattle.feeder.specs.Calls.{refusal_in}
use Rattle.feeder.specs.Split.{step_line, first}

-- ---- the same machine, without a table

-- what the indexer's machine awaits
abbrev awaits : old.Phase → Phase
awaits (old.wants-definition at) = Definition at
awaits (old.wants-first d) = Lines (opened_at d.at d.width d.said) Blank (d.at + d.width)
awaits (old.wants-line d x m z) = Lines (opened_at d.at d.width d.said) (Rows (record { position = d.at + d.width; bases = x.bases; width = x.width }) m) z
awaits (old.halted (Ok tt)) = Ended
awaits (old.halted (Err f)) = Halted (numbers_of f)

abbrev gives : old.Out → Out
gives (old.keeps p) = Keeps (awaits p)
gives (old.emits x z) = Emits x z

first-same : (d : old.Opened) (x : Line) (last : Bool) → first_out (opened_at d.at d.width d.said) (d.at + d.width) x last ≡ gives (old.first_out d x last)
unfolding first_out old.first_out
first-same d x last = go (eqb x.bases 0) last
  where
    go : (a b : Bool)
        → cond a (Keeps (Halted (numbers_of (NoBases (d.at + d.width + x.width))))) (cond b (Emits (old.row_in d x x.bases) (d.at + d.width + x.width)) (Keeps (awaits (old.wants-line d x x.bases (d.at + d.width + x.width)))))
        ≡ gives (cond a (old.keeps (old.halted (Err (NoBases (d.at + d.width + x.width))))) (cond b (old.emits (old.row_in d x x.bases) (d.at + d.width + x.width)) (old.keeps (old.wants-line d x x.bases (d.at + d.width + x.width)))))
    go true b = refl
    go false true = refl
    go false false = refl

further_same : (d : old.Opened) (f : Line) (m z : ℕ) (x : Line) (last : Bool)
    → further_out (opened_at d.at d.width d.said) (record { position = d.at + d.width; bases = f.bases; width = f.width }) m z x last ≡ gives (old.line_out d f m z x last)
unfolding further_out old.line_out
further_same d f m z x last = go (fits_last last x f) (eqb x.bases f.bases) (eqb x.width f.width)
  where
    go : (a b c : Bool)
        → cond a (Emits (old.row_in d f (m + x.bases)) (z + x.width))
        (cond b (cond c (Keeps (awaits (old.wants-line d f (m + x.bases) (z + x.width)))) (Keeps (Halted (numbers_of (LineWidth x.width f.width))))) (Keeps (Halted (numbers_of (LineBases x.bases f.bases)))))
        ≡ gives (cond a (old.emits (old.row_in d f (m + x.bases)) (z + x.width))
        (cond b (cond c (old.keeps (old.wants-line d f (m + x.bases) (z + x.width))) (old.keeps (old.halted (Err (LineWidth x.width f.width))))) (old.keeps (old.halted (Err (LineBases x.bases f.bases))))))
    go true b c = refl
    go false true true = refl
    go false true false = refl
    go false false c = refl

definition-same : (at w : ℕ) (last : Bool) (p : Result definition.Definition Fault) → definition_out Strict at w last p ≡ gives (old.definition_out at w last p)
unfolding definition_out close_alone old.definition_out
definition-same at w true (Ok d) = refl
definition-same at w false (Ok d) = refl
definition-same at w last (Err f) = refl

-- a file is never over before its end
abbrev Going : old.Phase → Type 0
Going (old.halted (Ok tt)) = ⊥
Going (old.halted (Err f)) = Unit {0}
Going (old.wants-definition at) = Unit {0}
Going (old.wants-first d) = Unit {0}
Going (old.wants-line d x m z) = Unit {0}

abbrev GoingOut : old.Out → Type 0
GoingOut (old.keeps p) = Going p
GoingOut (old.emits x z) = Unit {0}

out-same : (p : old.Phase) (t : Waiting) (last : Bool) → Going p
    → out_of Strict (awaits p) t last ≡ gives (old.out_of p (record { width = t.width; bases = t.bases }) (sum_says (unpack t)) last)
unfolding out_of line_out strict_out
out-same (old.wants-definition at) t last g = definition-same at t.width last (sum_says (unpack t))
out-same (old.wants-first d) t last g = first-same d (record { width = t.width; bases = t.bases }) last
out-same (old.wants-line d x m z) t last g = further_same d x m z (record { width = t.width; bases = t.bases }) last
out-same (old.halted (Ok tt)) t last g = absurd g
out-same (old.halted (Err f)) t last g = refl

-- nobody needs what is not kept of a sequence line
pub slim-says : (s : Sum) → sum_says (unpack (slim s)) ≡ sum_says s
unfolding sum_says
slim-says s = go s.starts refl
  where
    go : (b : Bool) → s.starts ≡ b → sum_says (unpack (slim s)) ≡ sum_says s
    go true e = rw e
    go false e = rw e

-- ---- with the table

module _ (t : List ℕ) where
  abbrev filled : old.State → Filling
  filled st = filling (awaits st.phase) (length st.rows) (with_rows t 0 st.rows)

  -- a row more
  row_more : (rs : List Record) (x : Record) → length rs < row_count t → with_row (with_rows t 0 rs) (length rs) x ≡ with_rows t 0 (rs ++ (x ∷ []))
  row_more rs x h = with-row (with_rows t 0 rs) (length rs) x (rw (row_count-rows t 0 rs) h) ∙ sym (rows_append t 0 rs (x ∷ []) ∙ ap (λ (k : ℕ). with_rows (with_rows t 0 rs) k (x ∷ [])) (zero-add (length rs)))

  applied-same : (f : ℕ) (rs : List Record) (o : old.Out) → f + length rs ≡ row_count t → applied (length rs) (with_rows t 0 rs) (gives o) ≡ filled (old.applied (row_count t) f rs o)
  unfolding applied
  applied-same f rs (old.keeps p) h = refl
  applied-same zero rs (old.emits x z) h = rw (row_count-rows t 0 rs, le-ltb (length rs) (row_count t) (omega arith))
  applied-same (suc k) rs (old.emits x z) h =
      rw (row_count-rows t 0 rs, lt-ltb (length rs) (row_count t) (omega arith), row_more rs x (omega arith))
      (ap (λ (n : ℕ). filling (Definition z) n (with_rows t 0 (rs ++ (x ∷ [])))) (sym (length-append rs (x ∷ []))))

  -- ---- line by line

  going-out : (p : old.Phase) (x : Line) (q : Result definition.Definition Fault) (last : Bool) → Going p → GoingOut (old.out_of p x q last)
  unfolding old.definition_out old.first_out old.line_out
  going-out (old.wants-definition at) x (Ok d) true g = tt
  going-out (old.wants-definition at) x (Ok d) false g = tt
  going-out (old.wants-definition at) x (Err f) last g = tt
  going-out (old.wants-first d) x q last g = go (eqb x.bases 0) last
    where
      go : (a b : Bool)
          → GoingOut (cond a (old.keeps (old.halted (Err (NoBases (d.at + d.width + x.width))))) (cond b (old.emits (old.row_in d x x.bases) (d.at + d.width + x.width)) (old.keeps (old.wants-line d x x.bases (d.at + d.width + x.width)))))
      go true b = tt
      go false true = tt
      go false false = tt
  going-out (old.wants-line d f m z) x q last g = go (fits_last last x f) (eqb x.bases f.bases) (eqb x.width f.width)
    where
      go : (a b c : Bool)
          → GoingOut (cond a (old.emits (old.row_in d f (m + x.bases)) (z + x.width))
          (cond b (cond c (old.keeps (old.wants-line d f (m + x.bases) (z + x.width))) (old.keeps (old.halted (Err (LineWidth x.width f.width))))) (old.keeps (old.halted (Err (LineBases x.bases f.bases))))))
      go true b c = tt
      go false true true = tt
      go false true false = tt
      go false false c = tt
  going-out (old.halted (Ok tt)) x q last g = absurd g
  going-out (old.halted (Err f)) x q last g = tt

  record Sure (st : old.State) : Type 0 where
    room : st.free + length st.rows ≡ row_count t
    going : Going st.phase

  applied-sure : (f : ℕ) (rs : List Record) (o : old.Out) → f + length rs ≡ row_count t → GoingOut o → Sure (old.applied (row_count t) f rs o)
  applied-sure f rs (old.keeps p) h g = record { room = h; going = g }
  applied-sure zero rs (old.emits x z) h g = record { room = h; going = tt }
  applied-sure (suc k) rs (old.emits x z) h g = record { room = omega (arith, h, length-append rs (x ∷ [])); going = tt }

  abbrev out : old.State → List ℕ → Bool → old.Out
  out st l last = old.out_of st.phase (sum_of l).line (sum_says (sum_of l)) last

  old-step : (st : old.State) (l : List ℕ) (last : Bool) → old.step_line (row_count t) st l last ≡ old.applied (row_count t) st.free st.rows (out st l last)
  old-step st l last = (sums-law (row_count t)).judges st l last ∙ (unfold step_sum in refl)

  new-step : (st : old.State) (l : List ℕ) (last : Bool) → Sure st → step_line Strict (filled st) l last ≡ filled (old.applied (row_count t) st.free st.rows (out st l last))
  unfolding step_by
  new-step st l last s =
      ap (applied (length st.rows) (with_rows t 0 st.rows))
      (out-same st.phase (waiting_of l) last s.going ∙ ap gives (same st.phase))
      ∙ applied-same st.free st.rows (out st l last) s.room
    where
      same : (p : old.Phase) → old.out_of p (record { width = (waiting_of l).width; bases = (waiting_of l).bases }) (sum_says (unpack (waiting_of l))) last ≡ old.out_of p (sum_of l).line (sum_says (sum_of l)) last
      same p = unfold waiting_of in ap (λ (q : Result definition.Definition Fault). old.out_of p (sum_of l).line q last) (slim-says (sum_of l))

  judge-same : (ls : List (List ℕ)) (st : old.State) → Sure st → judge_all (step_line Strict) (filled st) ls ≡ filled (judge_all (old.step_line (row_count t)) st ls)
  unfolding judge_all
  judge-same [] st s = refl
  judge-same (l ∷ ls) st s =
      let last = none (seq_of ls) in
      ap (λ (y : Filling). judge_all (step_line Strict) y ls) (new-step st l last s ∙ sym (ap filled (old-step st l last)))
      ∙ judge-same ls (old.step_line (row_count t) st l last)
      (rw (sym (old-step st l last)) at (applied-sure st.free st.rows (out st l last) s.room (going-out st.phase (sum_of l).line (sum_says (sum_of l)) last s.going)))

-- ---- the answer at the end

unfoldable pub stop_numbers : Result ⊤ Refusal → refused.Numbers
stop_numbers (Ok tt) = record { refusal = 0; first = 0; second = 0 }
stop_numbers (Err f) = numbers_of f

-- the rows of a file in a table, their count, and the refusal
pub record ToldBy (f : Found) (t : List ℕ) (st : Filling) : Type 0 where
  pub rows : st.rows ≡ length f.rows
  pub refusal : refusal_in st.phase ≡ stop_numbers f.stop
  pub table : st.table ≡ with_rows t 0 f.rows

stops_same : (p : old.Phase) → refusal_in (awaits p) ≡ stop_numbers (old.stop_of p)
unfolding refusal_in stop_numbers
stops_same (old.wants-definition at) = refl
stops_same (old.wants-first d) = refl
stops_same (old.wants-line d x m z) = refl
stops_same (old.halted (Ok tt)) = refl
stops_same (old.halted (Err f)) = refl

module _ (t s : List ℕ) where
  -- the machine by the ported rule over the lines of a whole file
  pub strict-whole : ToldBy (held_in (row_count t) (row_count t) (file_at s 0)) t (judge_all (step_line Strict) (first Strict t) (lines s))
  strict-whole =
      rw (sym begins ∙ judge-same t (lines s) (old.start (row_count t)) sure, sym (old.by_lines (row_count t) s))
      (told (judge_all (old.step_line (row_count t)) (old.start (row_count t)) (lines s)))
    where
      sure : Sure t (old.start (row_count t))
      sure = record { room = add-zero (row_count t); going = tt }

      begins : judge_all (step_line Strict) (filled t (old.start (row_count t))) (lines s) ≡ judge_all (step_line Strict) (first Strict t) (lines s)
      begins = ap (λ (b : List ℕ). judge_all (step_line Strict) (filling (Definition 0) 0 b) (lines s)) (rows_none t 0)

      told : (st : old.State) → ToldBy (old.found st) t (filled t st)
      told st = record { rows = refl; refusal = stops_same st.phase; table = refl }
