-- Laws of a record and of a whole file, by any rule: one record, and the file behind it.
use Rattle.std.specs.Prelude.{ℕ, ◌+◌, ◌-◌, ◌≤◌, ◌<◌, Bool, drop, Some, None, Result, Ok, Err}
use Rattle.std.proofs.Math.Path.{◌≡◌, refl, ap}
use Rattle.std.proofs.Common.{sym, ◌∙◌, ltb-true, ltb-false, arith}
use mathlib.Core.List.{List, ◌∷◌}
use Rattle.std.proofs.Math.Bool.{true, false}
use Rattle.std.proofs.Math.ListN.{length, drop_of_length-le}
use Rattle.std.proofs.Math.Dec.{ltb}
use Rattle.definition.specs.declared.Definition.{Definition}
use Rattle.definition.specs.declared.Fault.{Fault}
use Rattle.refusal.specs.declared.Refusal.{Refusal}
use Rattle.lines.specs.Lines.{part, line_end, lines, seq_of, seq_at, sum_widths}
use Rattle.lines.specs.Laws.{lines_at-cut, line_end-le, line_end-gt, part_length}
use Rattle.lines.specs.Groups.{groups}
use Rattle.lines.specs.GroupLaws.{after_seq, groups-cut, lines_next}
use Rattle.definition.specs.Definition.{definition_says}
use Rattle.record.specs.declared.Record.{Record}
use Rattle.table.specs.Fill.{Found, nothing, with_first}
use Rattle.indexer.specs.declared.Step.{Step}
use Rattle.indexer.specs.Rule.{Verdict, good, bad, SequenceRule, judged_by, sequence_by, defined_by, first_by, record_by, stepped, groups_by, file_by}

module _ (rule : SequenceRule) where
  -- ---- the record at an offset

  module _ (s : List ℕ) (at : ℕ) where
    pub record-end : length s ≤ at → record { answer = Ok None; next = record { at = at } } ≡ record_by rule s at
    unfolding record_by lines
    record-end h = rw (drop_of_length-le s h)

    -- the definition line, by what it says
    pub record-here : (e : ℕ) (d v : Result Definition Fault) → at < length s → e ≡ line_end s at → d ≡ definition_says (part s at e) → d ≡ v
        → defined_by rule at (e - at) (seq_at s e) v ≡ record_by rule s at
    unfolding record_by seq_at
    record-here e d v h he hd hv =
        rw (← hv, hd, he) (rw (lines_at-cut s at h, part_length s at (line_end s at) (line_end-le s at (omega arith))))

  -- ---- the file from a place on is the record there, and the file behind it

  -- only a record's next place matters
  step_same : (f g : ℕ → Found) (at n : ℕ) (q : List (List ℕ)) → f (at + n + sum_widths q) ≡ g (at + n + sum_widths q)
      → (d : Result Definition Fault) → stepped (defined_by rule at n q d) f ≡ stepped (defined_by rule at n q d) g
  unfolding sequence_by
  step_same f g at n q h (Ok d) = go (rule.judge (at + n) q)
    where
      go : (v : Verdict) → stepped (judged_by rule at n d q v) f ≡ stepped (judged_by rule at n d q v) g
      go good = ap (with_first _) h
      go (bad x) = refl
  step_same f g at n q h (Err e) = refl

  file-lines : (s : List ℕ) (at : ℕ) (l : List ℕ) (ls : List (List ℕ)) → lines (drop at s) ≡ l ∷ ls → file_by rule s at ≡ stepped (record_by rule s at) (file_by rule s)
  unfolding file_by groups_by record_by
  file-lines s at l ls h =
      rw (h, groups-cut l ls)
      (step_same (groups_by rule (groups (after_seq ls))) (file_by rule s) at (length l) (seq_of ls)
      (ap (λ (w : List (List ℕ)). groups_by rule (groups w) (at + length l + sum_widths (seq_of ls))) (sym (lines_next s at l ls h))) (definition_says l))

  pub file-step : (s : List ℕ) (at : ℕ) → file_by rule s at ≡ stepped (record_by rule s at) (file_by rule s)
  unfolding file_by groups_by groups lines
  file-step s at = go (ltb at (length s)) refl
    where
      go : (t : Bool) → ltb at (length s) ≡ t → file_by rule s at ≡ stepped (record_by rule s at) (file_by rule s)
      go true e = file-lines s at _ _ (lines_at-cut s at (ltb-true _ _ e))
      go false e = rw (← record-end s at (ltb-false _ _ e), drop_of_length-le s (ltb-false _ _ e))

  -- ---- a record moves the place on

  defined-next : (at n : ℕ) (q : List (List ℕ)) (d : Result Definition Fault) (x : Record) → (defined_by rule at n q d).answer ≡ Ok (Some x) → (defined_by rule at n q d).next.at ≡ at + n + sum_widths q
  unfolding sequence_by
  defined-next at n q (Ok d) x h = go (rule.judge (at + n) q) h
    where
      go : (v : Verdict) → (judged_by rule at n d q v).answer ≡ Ok (Some x) → (judged_by rule at n d q v).next.at ≡ at + n + sum_widths q
      go good e = refl
      go (bad y) e = let z : ◌≡◌ {A = ℕ} 0 1 = cc in absurd (omega arith)
  defined-next at n q (Err f) x h = let z : ◌≡◌ {A = ℕ} 0 1 = cc in absurd (omega arith)

  record-next : (s : List ℕ) (at : ℕ) (x : Record) → (record_by rule s at).answer ≡ Ok (Some x) → (at < length s) × (at < (record_by rule s at).next.at)
  record-next s at x h = go (ltb at (length s)) refl
    where
      row : at < length s → (at < length s) × (at < (record_by rule s at).next.at)
      row k =
          let e : record_by rule s at ≡ first_by rule at (part s at (line_end s at) ∷ lines (drop (line_end s at) s)) = unfold record_by in ap (first_by rule at) (lines_at-cut s at k) in
          let m = defined-next at (length (part s at (line_end s at))) (seq_of (lines (drop (line_end s at) s))) (definition_says (part s at (line_end s at))) x (rw e at h) in
          (k, rw e (omega (arith, m, part_length s at (line_end s at) (line_end-le s at (omega arith)), line_end-gt s at k)))

      go : (t : Bool) → ltb at (length s) ≡ t → (at < length s) × (at < (record_by rule s at).next.at)
      go true e = row (ltb-true _ _ e)
      go false e =
          let f : Ok None ≡ (record_by rule s at).answer = ap (λ (y : Step). y.answer) (record-end s at (ltb-false _ _ e)) in
          let z : ◌≡◌ {A = ℕ} 0 1 = cc in
          absurd (omega arith)

  -- ---- by the answer of the step at a place

  module _ (s : List ℕ) (at : ℕ) (r : Step) (h : r ≡ record_by rule s at) where
    pub file-row : (x : Record) → r.answer ≡ Ok (Some x) → (file_by rule s at ≡ with_first x (file_by rule s r.next.at)) × (at < length s) × (at < r.next.at)
    file-row x e = let n = record-next s at x (rw h at e) in (file-step s at ∙ rw (← h, e), n.0, rw h n.1)

    pub file-end : r.answer ≡ Ok None → file_by rule s at ≡ nothing (Ok tt)
    file-end e = file-step s at ∙ rw (← h, e)

    pub file-refused : (y : Refusal) → r.answer ≡ Err y → file_by rule s at ≡ nothing (Err y)
    file-refused y e = file-step s at ∙ rw (← h, e)
