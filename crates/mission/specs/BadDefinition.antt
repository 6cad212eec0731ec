-- What the indexers answer for a definition line that does not read, by either rule: the offset where reading failed, which is the start of that
-- record's definition line plus the place in it. The record is the one behind the rows that the table has. `bad-told`: if its definition line
-- does not read, the answer is its refusal. `told-bad`: an answer 2, 3 or 4 means that. `bad-record-told` says it of the record at an offset.
use Prim.Native.Nat.{ℕ, zero, suc, ◌+◌, ◌≤◌, ◌<◌}
use Rattle.std.proofs.Math.Path.{◌≡◌, refl, sym, ap}
use Rattle.std.proofs.Common.{◌∙◌, length-take, ltb-true, le-ltb, add-zero, Option, Some, None, Result, Ok, Err}
use mathlib.Core.List.{List, [], ◌∷◌}
use Rattle.std.specs.Prelude.{Bool, cond, take, eqb, ltb}
use Rattle.std.proofs.Math.Bool.{true, false}
use Rattle.std.proofs.Math.ListN.{length}
use native.Mathlib.Omega.{arith}
use Rattle.std.proofs.Math.Nat.{zero-add}
use Rattle.record.specs.declared.Offset.{Offset}
use Rattle.record.specs.declared.Position.{Position}
use Rattle.refusal.specs.Numbers.{numbers_of, over_limit}
use Rattle.refusal.specs.declared.Refusal.{Refusal}
use Rattle.refusal.specs.declared.Refusal.TheVariants.{TooLong, NoBases, LineBases, LineWidth, TableFull, NoIndexFits}
use Rattle.lines.specs.declared.Line.{Line}
use Rattle.lines.specs.Lines.{part, line_end, lines, bases_at, sum_widths, none}
use Rattle.lines.specs.Groups.{Group, groups}
use Rattle.definition.specs.Definition.{definition_says, fails_at, refusal_at}
use Rattle.definition.specs.Failing.{number_of, tells}
use Rattle.definition.specs.declared.Definition.{Definition}
use Rattle.definition.specs.declared.Fault.{Fault}
use Rattle.table.specs.Fill.{Found, nothing, held_in}
use Rattle.indexer.specs.Rule.{Verdict, good, bad, SequenceRule, judged_by, sequence_by, defined_by, record_by, stepped, groups_by, file_by, call_by}
use Rattle.indexer.specs.RuleLaws.{record-here}
use Rattle.indexer.specs.Index.{line_of, fits_last, rest_of, judge}
use Rattle.walking.specs.Places.{first_elsewhere}
use Rattle.fitting.specs.declared.Rule.{Rule}
use Rattle.fitting.specs.declared.Rule.TheVariants.{Strict, Complete}
use Rattle.fitting.specs.Complete.{places_say, numbers_at, place_by, fit}
use Rattle.fitting.specs.Rules.{rule_of, rows_in}
use Rattle.checker.specs.Accepts.{bytes_of, record_at, definition_at, limit}

-- ---- what is said

-- the definition line of record r of a file, from 0, does not read
pub record BadAt (f : List ℕ) (r : ℕ) (e : Fault) : Type 0 where
  pub here : r < length (groups (lines f))
  pub bad : definition_says (record_at (groups (lines f)) r).def ≡ Err e

-- a refusal says so of record r: its number, the start of that definition line plus the place in it, and 0
pub record TellsBad (f : List ℕ) (r : ℕ) (x : Refusal) : Type 0 where
  pub fault : Fault
  pub first : BadAt f r fault
  pub told : numbers_of x ≡ record { refusal = number_of fault; first = definition_at (groups (lines f)) r + fails_at fault; second = 0 }

-- ---- some groups, by any rule

-- a refusal's number is 5 or more
abbrev High : Refusal → Type 0
High x = 5 ≤ (numbers_of x).refusal

module _ (rule : SequenceRule) where
  -- the first group gives a row, or is the one that is refused
  data Began (at : ℕ) (g : Group) (gs : List Group) : Found → Type 0 where
    a-row : {f : Found} → (d : Definition) → definition_says g.def ≡ Ok d → f.rows ≡ rule.row at (length g.def) d g.seq ∷ (groups_by rule gs (at + length g.def + sum_widths g.seq)).rows
        → f.stop ≡ (groups_by rule gs (at + length g.def + sum_widths g.seq)).stop → Began at g gs f
    a-fault : (e : Fault) → definition_says g.def ≡ Err e → Began at g gs (nothing (Err (refusal_at e at)))
    a-sequence : (d : Definition) (x : Refusal) → definition_says g.def ≡ Ok d → rule.judge (at + length g.def) g.seq ≡ bad x → Began at g gs (nothing (Err x))

  began : (at : ℕ) (g : Group) (gs : List Group) → Began at g gs (groups_by rule (g ∷ gs) at)
  unfolding groups_by sequence_by
  began at g gs = go (definition_says g.def) refl
    where
      judged : (d : Definition) → definition_says g.def ≡ Ok d → (v : Verdict) → rule.judge (at + length g.def) g.seq ≡ v
          → Began at g gs (stepped (judged_by rule at (length g.def) d g.seq v) (groups_by rule gs))
      judged d h good e = a-row d h refl refl
      judged d h (bad x) e = a-sequence d x h e

      go : (p : Result Definition Fault) → definition_says g.def ≡ p → Began at g gs (stepped (defined_by rule at (length g.def) g.seq p) (groups_by rule gs))
      go (Ok d) h = judged d h (rule.judge (at + length g.def) g.seq) refl
      go (Err e) h = a-fault e h

  begins-behind : (at : ℕ) (g : Group) (gs : List Group) (k : ℕ) → at + length g.def + sum_widths g.seq + definition_at gs k ≡ at + definition_at (g ∷ gs) (suc k)
  unfolding bytes_of
  begins-behind at g gs k = omega arith

  begins-first : (at : ℕ) (gs : List Group) → at ≡ at + definition_at gs 0
  unfolding bytes_of
  begins-first at gs = sym (add-zero at)

  -- a group that gives a row has a definition line that reads
  rows-read : (gs : List Group) (at k : ℕ) (e : Fault) → k < length (groups_by rule gs at).rows → definition_says (record_at gs k).def ≡ Err e → ⊥
  unfolding groups_by
  rows-read [] at k e h b = absurd (omega arith)
  rows-read (g ∷ gs) at k e h b = go (groups_by rule (g ∷ gs) at) (began at g gs) k h b (rows-read gs (at + length g.def + sum_widths g.seq))
    where
      go : (f : Found) → Began at g gs f → (k : ℕ) → k < length f.rows → definition_says (record_at (g ∷ gs) k).def ≡ Err e
          → ((k : ℕ) (e : Fault) → k < length (groups_by rule gs (at + length g.def + sum_widths g.seq)).rows → definition_says (record_at gs k).def ≡ Err e → ⊥) → ⊥
      go f (a-row d n q s) zero h b m = let z : ◌≡◌ {A = ℕ} 0 1 = cc in omega arith
      go f (a-row d n q s) (suc k) h b m = m k e (omega (arith, ap length q)) b
      go f (a-fault e n) k h b m = omega arith
      go f (a-sequence d x n j) k h b m = omega arith

  -- the group behind the rows: if its definition line does not read, that is the answer
  groups-bad : (gs : List Group) (at r : ℕ) (e : Fault) → length (groups_by rule gs at).rows ≡ r → r < length gs → definition_says (record_at gs r).def ≡ Err e
      → (groups_by rule gs at).stop ≡ Err (refusal_at e (at + definition_at gs r))
  unfolding groups_by
  groups-bad [] at r e n h b = absurd (omega arith)
  groups-bad (g ∷ gs) at r e n h b = go (groups_by rule (g ∷ gs) at) (began at g gs) r n h b (groups-bad gs (at + length g.def + sum_widths g.seq))
    where
      go : (f : Found) → Began at g gs f → (r : ℕ) → length f.rows ≡ r → r < suc (length gs) → definition_says (record_at (g ∷ gs) r).def ≡ Err e
          → ((r : ℕ) (e : Fault) → length (groups_by rule gs (at + length g.def + sum_widths g.seq)).rows ≡ r → r < length gs → definition_says (record_at gs r).def ≡ Err e
          → (groups_by rule gs (at + length g.def + sum_widths g.seq)).stop ≡ Err (refusal_at e (at + length g.def + sum_widths g.seq + definition_at gs r)))
          → f.stop ≡ Err (refusal_at e (at + definition_at (g ∷ gs) r))
      go f (a-row d m q s) zero n h b k = absurd (omega (arith, ap length q))
      go f (a-row d m q s) (suc r) n h b k = s ∙ rw (← begins-behind at g gs r) (k r e (omega (arith, ap length q)) (omega arith) b)
      go f (a-fault c m) zero n h b k = let q : c ≡ e = cc in rw q (ap (λ (z : ℕ). Err (refusal_at e z)) (begins-first at (g ∷ gs)))
      go f (a-fault c m) (suc r) n h b k = absurd (omega arith)
      go f (a-sequence d x m j) zero n h b k = let z : ◌≡◌ {A = ℕ} 0 1 = cc in absurd (omega arith)
      go f (a-sequence d x m j) (suc r) n h b k = absurd (omega arith)

  -- and if the rule refuses lines with other numbers, only such a line gives 2 to 4
  record Told (gs : List Group) (at r : ℕ) (x : Refusal) : Type 0 where
    fault : Fault
    here : r < length gs
    bad : definition_says (record_at gs r).def ≡ Err fault

  module _ (high : (at : ℕ) (ls : List (List ℕ)) (x : Refusal) → rule.judge at ls ≡ bad x → High x) where
    groups-told : (gs : List Group) (at : ℕ) (x : Refusal) → (groups_by rule gs at).stop ≡ Err x → (numbers_of x).refusal ≤ 4
        → Told gs at (length (groups_by rule gs at).rows) x
    unfolding groups_by
    groups-told [] at x h a = let z : ◌≡◌ {A = ℕ} 0 1 = cc in absurd (omega arith)
    groups-told (g ∷ gs) at x h a = go (groups_by rule (g ∷ gs) at) (began at g gs) h (groups-told gs (at + length g.def + sum_widths g.seq))
      where
        go : (f : Found) → Began at g gs f → f.stop ≡ Err x
            → ((x : Refusal) → (groups_by rule gs (at + length g.def + sum_widths g.seq)).stop ≡ Err x → (numbers_of x).refusal ≤ 4
            → Told gs (at + length g.def + sum_widths g.seq) (length (groups_by rule gs (at + length g.def + sum_widths g.seq)).rows) x)
            → Told (g ∷ gs) at (length f.rows) x
        go f (a-row d m q s) h k = let t = k x (sym s ∙ h) a in rw q (record { fault = t.fault; here = omega (arith, t.here); bad = t.bad })
        go f (a-fault e m) h k = record { fault = e; here = omega arith; bad = m }
        go f (a-sequence d y m j) h k = let q : y ≡ x = cc in absurd (omega (arith, high _ _ x (rw q at j)))

-- ---- the two rules refuse a record's lines with other numbers

rest-high : (first : Line) (ls : List (List ℕ)) (x : Refusal) → rest_of first ls ≡ bad x → High x
unfolding rest_of numbers_of
rest-high first [] x h = let z : ◌≡◌ {A = ℕ} 0 1 = cc in absurd (omega arith)
rest-high first (l ∷ ls) x h = go (fits_last (none ls) (line_of l) first) (eqb (line_of l).bases first.bases) (eqb (line_of l).width first.width) h (rest-high first ls x)
  where
    go : (t u v : Bool)
        → cond t good (cond u (cond v (rest_of first ls) (bad (LineWidth (line_of l).width first.width))) (bad (LineBases (line_of l).bases first.bases))) ≡ bad x
        → (rest_of first ls ≡ bad x → High x) → High x
    go true u v e k = let z : ◌≡◌ {A = ℕ} 0 1 = cc in absurd (omega arith)
    go false true true e k = k e
    go false true false e k = let q : LineWidth (line_of l).width first.width ≡ x = cc in rw (← q) (omega arith)
    go false false v e k = let q : LineBases (line_of l).bases first.bases ≡ x = cc in rw (← q) (omega arith)

rule-high : (rule : Rule) (at : ℕ) (ls : List (List ℕ)) (x : Refusal) → (rule_of rule).judge at ls ≡ bad x → High x
unfolding judge fit numbers_of
rule-high Strict at [] x h = let q : NoBases at ≡ x = cc in rw (← q) (omega arith)
rule-high Strict at (l ∷ ls) x h = go (eqb (line_of l).bases 0) h
  where
    go : (t : Bool) → cond t (bad (NoBases (at + length l))) (rest_of (line_of l) ls) ≡ bad x → High x
    go true e = let q : NoBases (at + length l) ≡ x = cc in rw (← q) (omega arith)
    go false e = rest-high (line_of l) ls x e
rule-high Complete at ls x h = go (first_elsewhere (place_by (numbers_at at ls)) 0 (bases_at at ls)) h
  where
    go : (p : Option (Position × Offset)) → places_say p ≡ bad x → High x
    go None e = let z : ◌≡◌ {A = ℕ} 0 1 = cc in absurd (omega arith)
    go (Some (p, o)) e = let q : NoIndexFits o.0 p.0 ≡ x = cc in rw (← q) (omega arith)

-- ---- the calls

module _ (rule : Rule) (f : List ℕ) where
  -- what the file gives, and what of it a table of so many rows holds
  abbrev found : Found
  found = groups_by (rule_of rule) (groups (lines f)) 0

  abbrev held : ℕ → Bool → Found
  held room t = cond t (record { rows = take room found.rows; stop = Err (TableFull room) }) found

  module _ (room : ℕ) where
    held-bad : (e : Fault) (t : Bool) → ltb room (length found.rows) ≡ t → length (held room t).rows < length (groups (lines f))
        → definition_says (record_at (groups (lines f)) (length (held room t).rows)).def ≡ Err e
        → (held room t).stop ≡ Err (refusal_at e (definition_at (groups (lines f)) (length (held room t).rows)))
    held-bad e true q n m = absurd (rows-read (rule_of rule) (groups (lines f)) 0 (length (take room found.rows)) e (omega (arith, length-take room found.rows, ltb-true room (length found.rows) q)) m)
    held-bad e false q n m = rw zero-add at (groups-bad (rule_of rule) (groups (lines f)) 0 _ e refl n m)

    within : length f ≤ limit → rows_in rule f room ≡ held room (ltb room (length found.rows))
    unfolding call_by over_limit file_by held_in
    within h = rw (le-ltb limit (length f) h)

    pub bad-told : length f ≤ limit → (e : Fault) → BadAt f (length (rows_in rule f room).rows) e
        → (rows_in rule f room).stop ≡ Err (refusal_at e (definition_at (groups (lines f)) (length (rows_in rule f room).rows)))
    bad-told h e b = rw (within h) (held-bad e (ltb room (length found.rows)) refl (rw (within h) at b.here) (rw (within h) at b.bad))

    held-told : (x : Refusal) (t : Bool) → (held room t).stop ≡ Err x → (numbers_of x).refusal ≤ 4 → TellsBad f (length (held room t).rows) x
    unfolding numbers_of
    held-told x true h b = let q : TableFull room ≡ x = cc in absurd (omega (arith, ap (λ (y : Refusal). (numbers_of y).refusal) q))
    held-told x false h b =
        let k = groups-told (rule_of rule) (rule-high rule) (groups (lines f)) 0 x h b in
        let e = k.fault in
        let s : found.stop ≡ Err (refusal_at e (definition_at (groups (lines f)) (length found.rows))) = rw zero-add at (groups-bad (rule_of rule) (groups (lines f)) 0 _ e refl k.here k.bad) in
        let q : x ≡ refusal_at e (definition_at (groups (lines f)) (length found.rows)) = cc in
        record { fault = e; first = record { here = k.here; bad = k.bad }; told = ap numbers_of q ∙ tells e (definition_at (groups (lines f)) (length found.rows) + fails_at e) 0 }

    pub told-bad : (x : Refusal) → (rows_in rule f room).stop ≡ Err x → 2 ≤ (numbers_of x).refusal → (numbers_of x).refusal ≤ 4
        → TellsBad f (length (rows_in rule f room).rows) x
    unfolding call_by over_limit file_by held_in numbers_of
    told-bad x h a b = go (ltb limit (length f)) h
      where
        go : (t : Bool) → (cond t (nothing (Err TooLong)) (held room (ltb room (length found.rows)))).stop ≡ Err x
            → TellsBad f (length (cond t (nothing (Err TooLong)) (held room (ltb room (length found.rows)))).rows) x
        go true q = let e : TooLong ≡ x = cc in absurd (omega (arith, ap (λ (y : Refusal). (numbers_of y).refusal) e))
        go false q = held-told x (ltb room (length found.rows)) q b

  -- the record at an offset
  pub bad-record-told : (at : ℕ) (e : Fault) → at < length f → definition_says (part f at (line_end f at)) ≡ Err e
      → record_by (rule_of rule) f at ≡ record { answer = Err (refusal_at e at); next = record { at = at } }
  bad-record-told at e h b = sym (record-here (rule_of rule) f at (line_end f at) _ (Err e) h refl refl b)
