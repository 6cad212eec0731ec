-- Over the lines of a whole file the machine by the complete rule gives what indexing the file by that rule gives. It takes a record's lines
-- one by one (LineByLine), and the first misfit decides.
use Rattle.std.specs.Prelude.{ℕ, suc, ◌+◌, ◌-◌, ◌<◌, ◌≡◌, Bool, cond, eqb, ltb, Option, Some, None, Result, Ok, Err}
use Rattle.std.proofs.Math.Path.{refl, ap}
use Rattle.std.proofs.Common.{sym, ◌∙◌, true≢false, length-append, ltb-true, ltb-false, arith}
use mathlib.Core.List.{List, [], ◌∷◌, ◌++◌}
use Rattle.std.proofs.Math.Bool.{true, false}
use Rattle.std.proofs.Math.ListN.{length, drop}
use Rattle.std.proofs.Math.Seq.{drop-append_seam}
use Rattle.std.proofs.Math.Nat.{add-zero, zero-add, add_assoc, sub-zero}
use Rattle.refusal.specs.Numbers.{numbers_of}
use Rattle.refusal.specs.declared.Numbers as refused
use Rattle.refusal.specs.declared.Refusal.{Refusal}
use Rattle.refusal.specs.declared.Refusal.TheVariants.{TableFull, NoIndexFits}
use Rattle.lines.specs.Lines.{lines, bases_of, begins, seq_of, seq_at, none, sum_bases, sum_widths, up_from}
use Rattle.lines.specs.Groups.{groups}
use Rattle.lines.specs.GroupLaws.{after_seq, groups-cut, lines-behind}
use Rattle.lines.specs.Feeding.{judge_all}
use Rattle.definition.specs.declared.Definition as definition
use Rattle.definition.specs.declared.Fault.{Fault}
use Rattle.definition.specs.declared.Fault.TheVariants as fault
use Rattle.definition.specs.Definition.{definition_says, refusal_at, refusal_of, fails_at}
use Rattle.record.specs.declared.Record.{Record}
use Rattle.record.specs.declared.Position.{Position}
use Rattle.record.specs.declared.Offset.{Offset}
use Rattle.record.specs.EvenLines.{length-up_from}
use Rattle.table.specs.Rows.{row_count, with_row, with_rows}
use Rattle.table.specs.RowLaws.{rows_none, rows-onward, row_count-rows, with-row}
use Rattle.table.specs.Fill.{Found, nothing, with_first, held_in}
use Rattle.table.specs.Laws.{held-nothing, held_none, held_first}
use Rattle.indexer.specs.declared.Step.{Step}
use Rattle.indexer.specs.Rule.{Verdict, good, bad, judged_by, sequence_by, defined_by, stepped, groups_by, file_by}
use Rattle.indexer.specs.Index.{line_of}
use Rattle.indexer.specs.ByLines as old
use Rattle.indexer.specs.LineSums.{sum_of, sum_says, step_sum, sums-law}
use Rattle.walking.specs.Places.{first_elsewhere}
use Rattle.fitting.specs.declared.Numbers.{Numbers}
use Rattle.fitting.specs.declared.Rule.TheVariants.{Complete}
use Rattle.fitting.specs.Complete.{place_by, complete, numbers_at, fit}
use Rattle.fitting.specs.LineByLine as byLine
use Rattle.feeder.specs.declared.Opened.{Opened}
use Rattle.feeder.specs.declared.SoFar.{SoFar}
use Rattle.feeder.specs.declared.SoFar.TheVariants.{Blank, Run, Rows}
use Rattle.feeder.specs.declared.Phase.{Phase}
use Rattle.feeder.specs.declared.Phase.TheVariants.{Definition, Lines, Halted}
use Rattle.feeder.specs.declared.Out.{Out}
use Rattle.feeder.specs.declared.Out.TheVariants.{Keeps, Emits}
use Rattle.feeder.specs.Waiting.{unpack, waiting_of}
use Rattle.feeder.specs.Machine.{row_of, close_alone, opened_at, definition_out, told_row, passed_out, placed_out, rows_out, bases_out, complete_out, line_out, out_of, Filling, filling, applied, step_by}
use Rattle.feeder.specs.Calls.{refusal_in}
use Rattle.feeder.specs.Reached.{step-halted}
use Rattle.feeder.specs.Split.{step_line, first}
use Rattle.feeder.specs.Whole.{stop_numbers, ToldBy, slim-says}

-- ---- what a kept line says as a definition

-- read back from what the indexer's machine does with a definition line
abbrev fault_by : ℕ → Fault
fault_by n = cond (eqb n 2) fault.Empty (cond (eqb n 3) fault.NoPrefix fault.NoName)

abbrev said_of : old.Phase → Result definition.Definition Fault
said_of (old.wants-definition at) = Err fault.Empty
said_of (old.wants-first d) = Ok d.said
said_of (old.wants-line d x m z) = Err fault.Empty
said_of (old.halted (Ok tt)) = Err fault.Empty
said_of (old.halted (Err r)) = Err (fault_by (numbers_of r).refusal)

said-back : (w : ℕ) (p : Result definition.Definition Fault) → said_of (old.applied 0 0 [] (old.definition_out 0 w false p)).phase ≡ p
unfolding old.definition_out refusal_of fails_at numbers_of
said-back w (Ok d) = refl
said-back w (Err fault.Empty) = refl
said-back w (Err fault.NoPrefix) = refl
said-back w (Err fault.NoName) = refl

judged-line : (l : List ℕ) → old.step_line 0 (old.state (old.wants-definition 0) 0 []) l false ≡ old.applied 0 0 [] (old.definition_out 0 (sum_of l).line.width false (sum_says (sum_of l)))
unfolding step_sum
judged-line l = (sums-law 0).judges (old.state (old.wants-definition 0) 0 []) l false

says-sum : (l : List ℕ) → definition_says l ≡ sum_says (sum_of l)
says-sum l =
    sym (said-back (length l) (definition_says l))
    ∙ ap (λ (st : old.State). said_of st.phase) (judged-line l)
    ∙ said-back (sum_of l).line.width (sum_says (sum_of l))

pub says-line : (l : List ℕ) → sum_says (unpack (waiting_of l)) ≡ definition_says l
unfolding waiting_of
says-line l = slim-says (sum_of l) ∙ sym (says-sum l)

line-width : (l : List ℕ) → (waiting_of l).width ≡ length l
unfolding waiting_of sum_of
line-width l = refl

-- ---- a sequence's end

none-seq : (ls : List (List ℕ)) → none (seq_of ls) ≡ true → seq_of ls ≡ []
none-seq ls h = go (seq_of ls) h
  where
    go : (q : List (List ℕ)) → none q ≡ true → q ≡ []
    go [] e = refl
    go (l ∷ q) e = absurd (true≢false (sym e))

none_after : (ls : List (List ℕ)) → none (seq_of ls) ≡ true → after_seq ls ≡ ls
unfolding seq_of after_seq
none_after [] h = refl
none_after (l ∷ ls) h = go (begins l) h
  where
    go : (t : Bool) → none (cond t [] (l ∷ seq_of ls)) ≡ true → cond t (l ∷ ls) (after_seq ls) ≡ l ∷ ls
    go true e = refl
    go false e = absurd (true≢false (sym e))

some-begins : (l : List ℕ) (ls : List (List ℕ)) → none (seq_of (l ∷ ls)) ≡ false → begins l ≡ false
unfolding seq_of
some-begins l ls h = go (begins l) h
  where
    go : (t : Bool) → none (cond t [] (l ∷ seq_of ls)) ≡ false → t ≡ false
    go true e = absurd (true≢false e)
    go false e = refl

seq-front : (l : List ℕ) (ls : List (List ℕ)) → none (seq_of (l ∷ ls)) ≡ false → seq_of (l ∷ ls) ≡ l ∷ seq_of ls
unfolding seq_of
seq-front l ls h = rw (some-begins l ls h)

after_front : (l : List ℕ) (ls : List (List ℕ)) → none (seq_of (l ∷ ls)) ≡ false → after_seq (l ∷ ls) ≡ after_seq ls
unfolding after_seq
after_front l ls h = rw (some-begins l ls h)

-- ---- a record's lines

abbrev so_far_of : SoFar → byLine.SoFar
so_far_of Blank = byLine.blank
so_far_of (Run n) = byLine.run n.position n.bases n.width
so_far_of (Rows n k) = byLine.rows n k None

abbrev verdict_as : Opened → Numbers → ℕ → ℕ → Verdict → Step
verdict_as d n k e good = record { answer = Ok (Some (row_of d n k)); next = record { at = e } }
verdict_as d n k e (bad x) = record { answer = Err x; next = record { at = d.at } }

abbrev step_of : Opened → byLine.SoFar → ℕ → Step
step_of d t e = verdict_as d (byLine.numbers_told d.end t) (byLine.bases_told t) e (byLine.verdict_told t)

-- what a record gives, by its lines so far and those that follow
abbrev rest_of : Opened → SoFar → ℕ → List (List ℕ) → Step
rest_of d so z qs = step_of d (byLine.take_lines (so_far_of so) z qs) (z + sum_widths qs)

-- from its first line on it is what the rule says
rest-starts : (at w : ℕ) (said : definition.Definition) (s : List ℕ) → rest_of (opened_at at w said) Blank (at + w) (seq_of (lines s)) ≡ sequence_by complete at w said (seq_of (lines s))
unfolding sequence_by
rest-starts at w said s = rw (told.verdict, told.numbers, told.bases) (go (fit (at + w) (seq_of (lines s))))
  where
    pad : List ℕ
    pad = up_from 0 (at + w)

    here : seq_at (pad ++ s) (at + w) ≡ seq_of (lines s)
    here = unfold seq_at in ap (λ (q : List ℕ). seq_of (lines q)) (ap (λ (k : ℕ). drop k (pad ++ s)) (sym (length-up_from 0 (at + w))) ∙ drop-append_seam pad s)

    told : byLine.ToldOf (at + w) (seq_of (lines s)) (byLine.take_lines byLine.blank (at + w) (seq_of (lines s)))
    told = rw here at (byLine.line-by-line (pad ++ s) (at + w) (omega (arith, length-append pad s, length-up_from 0 (at + w))))

    go : (v : Verdict)
        → verdict_as (opened_at at w said) (numbers_at (at + w) (seq_of (lines s))) (sum_bases (seq_of (lines s))) (at + w + sum_widths (seq_of (lines s))) v ≡ judged_by complete at w said (seq_of (lines s)) v
    go good = refl
    go (bad x) = refl

-- a line that is taken: it fits, or it has the first misfit
data Taken (d : Opened) (so : SoFar) (z : ℕ) (l : List ℕ) (last : Bool) : Type 0 where
  fits : (t : SoFar) → byLine.take_line (so_far_of so) z (length l) (length (bases_of l)) ≡ so_far_of t → complete_out d so z (line_of l) last ≡ passed_out d t (z + length l) last → Taken d so z l last
  misfits : (n : Numbers) (k : ℕ) (p : Position) (o : Offset) → byLine.take_line (so_far_of so) z (length l) (length (bases_of l)) ≡ byLine.rows n k (Some (p, o))
      → complete_out d so z (line_of l) last ≡ Keeps (Halted (numbers_of (NoIndexFits o.0 p.0))) → Taken d so z l last

module _ (d : Opened) (z : ℕ) (l : List ℕ) (last : Bool) where
  abbrev b : ℕ
  b = length (bases_of l)

  taken_none : (so : SoFar) → eqb b 0 ≡ true → Taken d so z l last
  unfolding byLine.take_line complete_out
  taken_none so e = fits so (rw e) (rw e)

  taken-rows : (so : SoFar) (n : Numbers) (k : ℕ) → eqb b 0 ≡ false
      → byLine.take_bases (so_far_of so) z (length l) b ≡ byLine.more n k None z b → bases_out d so z (line_of l) last ≡ rows_out d n k z (line_of l) last → Taken d so z l last
  unfolding byLine.take_line complete_out
  taken-rows so n k e p q = go (first_elsewhere (place_by n) k (up_from z b)) refl
    where
      more-is : (v : Option (Position × Offset)) → first_elsewhere (place_by n) k (up_from z b) ≡ v → byLine.more n k None z b ≡ byLine.rows n (k + b) v
      more-is v h = unfold byLine.more in ap (byLine.rows n (k + b)) h

      out-is : (v : Option (Position × Offset)) → first_elsewhere (place_by n) k (up_from z b) ≡ v → rows_out d n k z (line_of l) last ≡ placed_out d n (k + b) (z + length l) last v
      out-is v h = unfold rows_out in ap (placed_out d n (k + b) (z + length l) last) h

      go : (v : Option (Position × Offset)) → first_elsewhere (place_by n) k (up_from z b) ≡ v → Taken d so z l last
      go None h = fits (Rows n (k + b)) (rw e (p ∙ more-is None h)) (rw e (q ∙ out-is None h))
      go (Some (x, o)) h = misfits n (k + b) x o (rw e (p ∙ more-is (Some (x, o)) h)) (rw e (q ∙ out-is (Some (x, o)) h))

  taken-some : (so : SoFar) → eqb b 0 ≡ false → Taken d so z l last
  unfolding byLine.take_line byLine.take_bases complete_out bases_out
  taken-some Blank e = fits (Run (record { position = z; bases = b; width = length l })) (rw e) (rw e)
  taken-some (Run n) e = taken-rows (Run n) (record { position = n.position; bases = n.bases; width = z - n.position }) n.bases e refl refl
  taken-some (Rows n k) e = taken-rows (Rows n k) n k e refl refl

  taken : (so : SoFar) → Taken d so z l last
  taken so = go (eqb b 0) refl
    where
      go : (t : Bool) → eqb b 0 ≡ t → Taken d so z l last
      go true e = taken_none so e
      go false e = taken-some so e

-- the first misfit stays
misfit-stays : (ls : List (List ℕ)) (n : Numbers) (k : ℕ) (p : Position) (o : Offset) (at : ℕ) → byLine.verdict_told (byLine.take_lines (byLine.rows n k (Some (p, o))) at ls) ≡ bad (NoIndexFits o.0 p.0)
unfolding byLine.take_lines byLine.take_line byLine.take_bases byLine.more
misfit-stays [] n k p o at = refl
misfit-stays (l ∷ ls) n k p o at = go (eqb (length (bases_of l)) 0) (λ j. misfit-stays ls n j p o (at + length l))
  where
    go : (t : Bool) → ((j : ℕ) → byLine.verdict_told (byLine.take_lines (byLine.rows n j (Some (p, o))) (at + length l) ls) ≡ bad (NoIndexFits o.0 p.0))
        → byLine.verdict_told (byLine.take_lines (cond t (byLine.rows n k (Some (p, o))) (byLine.rows n (k + length (bases_of l)) (Some (p, o)))) (at + length l) ls) ≡ bad (NoIndexFits o.0 p.0)
    go true r = r k
    go false r = r (k + length (bases_of l))

-- lines that fit are a row
fits-row : (d : Opened) (t : SoFar) (e : ℕ) → step_of d (so_far_of t) e ≡ record { answer = Ok (Some (told_row d t)); next = record { at = e } }
unfolding told_row
fits-row d Blank e = refl
fits-row d (Run n) e = refl
fits-row d (Rows n k) e = refl

-- a definition line
bad-out : (at w : ℕ) (u : Bool) (f : Fault) → definition_out Complete at w u (Err f) ≡ Keeps (Halted (numbers_of (refusal_at f at)))
unfolding definition_out
bad-out at w u f = refl

named-out : (at w : ℕ) (said : definition.Definition) (u : Bool) → definition_out Complete at w u (Ok said) ≡ passed_out (opened_at at w said) Blank (at + w) u
unfolding definition_out close_alone passed_out told_row
named-out at w said true = refl
named-out at w said false = refl

-- one line more in front
module _ (d : Opened) (so : SoFar) (z : ℕ) (l : List ℕ) (qs : List (List ℕ)) where
  rest-fits : (t : SoFar) → byLine.take_line (so_far_of so) z (length l) (length (bases_of l)) ≡ so_far_of t → rest_of d so z (l ∷ qs) ≡ rest_of d t (z + length l) qs
  unfolding byLine.take_lines sum_widths
  rest-fits t e = rw (e, add_assoc z (length l) (sum_widths qs))

  rest-misfits : (n : Numbers) (k : ℕ) (p : Position) (o : Offset) → byLine.take_line (so_far_of so) z (length l) (length (bases_of l)) ≡ byLine.rows n k (Some (p, o))
      → rest_of d so z (l ∷ qs) ≡ record { answer = Err (NoIndexFits o.0 p.0); next = record { at = d.at } }
  unfolding byLine.take_lines
  rest-misfits n k p o e = rw (e, misfit-stays qs n k p o (z + length l))

-- ---- the answer

record Told : Type 0 where
  rows : ℕ
  refusal : refused.Numbers
  table : List ℕ

abbrev told_of : Filling → Told
told_of st = record { rows = st.rows; refusal = refusal_in st.phase; table = st.table }

-- rows from row n of a table on, and why there are no more
unfoldable found_told : List ℕ → ℕ → Found → Told
found_told t n f = record { rows = n + length f.rows; refusal = stop_numbers f.stop; table = with_rows t n f.rows }

nothing-told : (t : List ℕ) (n : ℕ) (f : Refusal) → record { rows = n; refusal = numbers_of f; table = t } ≡ found_told t n (nothing (Err f))
unfolding found_told stop_numbers
nothing-told t n f = rw (add-zero n, rows_none t n)

first-told : (t : List ℕ) (n : ℕ) (x : Record) (f : Found) → n < row_count t → found_told (with_row t n x) (n + 1) f ≡ found_told t n (with_first x f)
unfolding found_told
first-told t n x f h = rw (rows-onward t n x f.rows h, q)
  where
    q : n + 1 + length f.rows ≡ n + suc (length f.rows)
    q = omega arith

module _ (all : ℕ) where
  abbrev run : Filling → List (List ℕ) → Filling
  run st ls = judge_all (step_line Complete) st ls

  halted-stays : (m : refused.Numbers) (n : ℕ) (t : List ℕ) (ls : List (List ℕ)) → told_of (run (filling (Halted m) n t) ls) ≡ record { rows = n; refusal = m; table = t }
  unfolding judge_all refusal_in
  halted-stays m n t [] = refl
  halted-stays m n t (l ∷ ls) = ap (λ (st : Filling). told_of (run st ls)) (step-halted Complete m n t (waiting_of l) (none (seq_of ls))) ∙ halted-stays m n t ls

  -- what a phase finds in some lines
  abbrev FromDefinition : List (List ℕ) → Type 0
  FromDefinition ls = (at n : ℕ) (t : List ℕ) → row_count t ≡ all → told_of (run (filling (Definition at) n t) ls) ≡ found_told t n (held_in (all - n) all (groups_by complete (groups ls) at))

  abbrev FromLine : List (List ℕ) → Type 0
  FromLine ls = (d : Opened) (so : SoFar) (z n : ℕ) (t : List ℕ) → row_count t ≡ all → none (seq_of ls) ≡ false
      → told_of (run (filling (Lines d so z) n t) ls) ≡ found_told t n (held_in (all - n) all (stepped (rest_of d so z (seq_of ls)) (groups_by complete (groups (after_seq ls)))))

  refused-told : (f : Refusal) (n : ℕ) (t : List ℕ) (ls : List (List ℕ)) → told_of (run (filling (Halted (numbers_of f)) n t) ls) ≡ found_told t n (held_in (all - n) all (nothing (Err f)))
  refused-told f n t ls = halted-stays (numbers_of f) n t ls ∙ nothing-told t n f ∙ ap (found_told t n) (sym (held-nothing (all - n) all (Err f)))

  row-told : (ls : List (List ℕ)) → FromDefinition ls → (x : Record) (z n : ℕ) (t : List ℕ) → row_count t ≡ all
      → told_of (run (applied n t (Emits x z)) ls) ≡ found_told t n (held_in (all - n) all (with_first x (groups_by complete (groups ls) z)))
  unfolding applied
  row-told ls ih x z n t h = go (ltb n (row_count t)) refl
    where
      f : Found
      f = groups_by complete (groups ls) z

      go : (u : Bool) → ltb n (row_count t) ≡ u
          → told_of (run (cond u (filling (Definition z) (n + 1) (with_row t n x)) (filling (Halted (numbers_of (TableFull (row_count t)))) n t)) ls) ≡ found_told t n (held_in (all - n) all (with_first x f))
      go true e =
          let k = ltb-true n (row_count t) e in
          let c : all - n ≡ suc (all - (n + 1)) = omega (arith, h, k) in
          ih z (n + 1) (with_row t n x) (ap row_count (with-row t n x k) ∙ row_count-rows t n (x ∷ []) ∙ h)
          ∙ first-told t n x (held_in (all - (n + 1)) all f) k
          ∙ ap (found_told t n) (sym (rw c (held_first (all - (n + 1)) all x f)))
      go false e =
          let k = ltb-false n (row_count t) e in
          let c : all - n ≡ 0 = omega (arith, h, k) in
          halted-stays (numbers_of (TableFull (row_count t))) n t ls
          ∙ nothing-told t n (TableFull (row_count t))
          ∙ ap (found_told t n) (ap (λ (a : ℕ). nothing (Err (TableFull a))) h ∙ sym (rw c (held_none all x f)))

  module _ (l : List ℕ) (ls : List (List ℕ)) (from : FromDefinition ls) (on : FromLine ls) where
    step_is : (p : Phase) (n : ℕ) (t : List ℕ) → run (filling p n t) (l ∷ ls) ≡ run (applied n t (out_of Complete p (waiting_of l) (none (seq_of ls)))) ls
    unfolding judge_all step_by
    step_is p n t = refl

    passed-step : (d : Opened) (so : SoFar) (z n : ℕ) (t : List ℕ) → row_count t ≡ all → (u : Bool) → none (seq_of ls) ≡ u
        → told_of (run (applied n t (passed_out d so z u)) ls) ≡ found_told t n (held_in (all - n) all (stepped (rest_of d so z (seq_of ls)) (groups_by complete (groups (after_seq ls)))))
    unfolding passed_out byLine.take_lines sum_widths
    passed-step d so z n t h true e = rw (none_after ls e, none-seq ls e, add-zero z, fits-row d so z) (row-told ls from (told_row d so) z n t h)
    passed-step d so z n t h false e = unfold applied in on d so z n t h e

    halted-told : (f : Refusal) (n : ℕ) (t : List ℕ) → told_of (run (applied n t (Keeps (Halted (numbers_of f)))) ls) ≡ found_told t n (held_in (all - n) all (nothing (Err f)))
    unfolding applied
    halted-told f n t = refused-told f n t ls

    line-out : (at : ℕ) (u : Bool) → out_of Complete (Definition at) (waiting_of l) u ≡ definition_out Complete at (length l) u (definition_says l)
    unfolding out_of
    line-out at u = ap (λ (w : ℕ). definition_out Complete at w u (sum_says (unpack (waiting_of l)))) (line-width l) ∙ ap (definition_out Complete at (length l) u) (says-line l)

    line_step : FromLine (l ∷ ls)
    line_step d so z n t h q = ap told_of (step_is (Lines d so z) n t) ∙ rw (seq-front l ls q, after_front l ls q) (go (taken d z l (none (seq_of ls)) so))
      where
        out-is : out_of Complete (Lines d so z) (waiting_of l) (none (seq_of ls)) ≡ complete_out d so z (line_of l) (none (seq_of ls))
        out-is = unfold out_of line_out waiting_of sum_of in refl

        go : Taken d so z l (none (seq_of ls))
            → told_of (run (applied n t (out_of Complete (Lines d so z) (waiting_of l) (none (seq_of ls)))) ls) ≡ found_told t n (held_in (all - n) all (stepped (rest_of d so z (l ∷ seq_of ls)) (groups_by complete (groups (after_seq ls)))))
        go (fits so' a b) =
            ap (λ (x : Out). told_of (run (applied n t x) ls)) (out-is ∙ b)
            ∙ passed-step d so' (z + length l) n t h (none (seq_of ls)) refl
            ∙ ap (λ (v : Step). found_told t n (held_in (all - n) all (stepped v (groups_by complete (groups (after_seq ls)))))) (sym (rest-fits d so z l (seq_of ls) so' a))
        go (misfits m k p o a b) =
            ap (λ (x : Out). told_of (run (applied n t x) ls)) (out-is ∙ b)
            ∙ halted-told (NoIndexFits o.0 p.0) n t
            ∙ ap (λ (v : Step). found_told t n (held_in (all - n) all (stepped v (groups_by complete (groups (after_seq ls)))))) (sym (rest-misfits d so z l (seq_of ls) m k p o a))

    definition-step : (s : List ℕ) → lines s ≡ ls → FromDefinition (l ∷ ls)
    unfolding groups_by
    definition-step s e at n t h =
        ap told_of (step_is (Definition at) n t) ∙ ap (λ (x : Out). told_of (run (applied n t x) ls)) out-is
        ∙ rw (groups-cut l ls) (go (definition_says l) (none (seq_of ls)) refl)
      where
        out-is : out_of Complete (Definition at) (waiting_of l) (none (seq_of ls)) ≡ definition_out Complete at (length l) (none (seq_of ls)) (definition_says l)
        out-is = line-out at (none (seq_of ls))

        starts : (said : definition.Definition) → rest_of (opened_at at (length l) said) Blank (at + length l) (seq_of ls) ≡ sequence_by complete at (length l) said (seq_of ls)
        starts said = rw e at (rest-starts at (length l) said s)

        go : (p : Result definition.Definition Fault) (u : Bool) → none (seq_of ls) ≡ u
            → told_of (run (applied n t (definition_out Complete at (length l) u p)) ls) ≡ found_told t n (held_in (all - n) all (stepped (defined_by complete at (length l) (seq_of ls) p) (groups_by complete (groups (after_seq ls)))))
        go (Err f) u q = ap (λ (x : Out). told_of (run (applied n t x) ls)) (bad-out at (length l) u f) ∙ halted-told (refusal_at f at) n t
        go (Ok said) u q =
            ap (λ (x : Out). told_of (run (applied n t x) ls)) (named-out at (length l) said u)
            ∙ passed-step (opened_at at (length l) said) Blank (at + length l) n t h u q
            ∙ ap (λ (v : Step). found_told t n (held_in (all - n) all (stepped v (groups_by complete (groups (after_seq ls)))))) (starts said)

  none_left : FromDefinition []
  unfolding judge_all groups_by groups found_told stop_numbers refusal_in
  none_left at n t h = rw (held-nothing (all - n) all (Ok tt), add-zero n, rows_none t n)

  no-line : FromLine []
  unfolding seq_of
  no-line d so z n t h q = absurd (true≢false q)

  claims : (ls : List (List ℕ)) (s : List ℕ) → lines s ≡ ls → FromDefinition ls × FromLine ls
  claims [] s e = (none_left, no-line)
  claims (l ∷ ls) s e =
      let k = lines-behind s l ls e in
      let r = claims ls (drop (length l) s) k in
      (definition-step l ls r.0 r.1 (drop (length l) s) k, line_step l ls r.0 r.1)

module _ (t s : List ℕ) where
  -- the machine by the complete rule over the lines of a whole file
  pub complete-whole : ToldBy (held_in (row_count t) (row_count t) (file_by complete s 0)) t (judge_all (step_line Complete) (first Complete t) (lines s))
  unfolding file_by found_told
  complete-whole =
      let r = rw (sub-zero (row_count t)) at ((claims (row_count t) (lines s) s refl).0 0 0 t refl) in
      record { rows = ap (λ (x : Told). x.rows) r ∙ zero-add _; refusal = ap (λ (x : Told). x.refusal) r; table = ap (λ (x : Told). x.table) r }
