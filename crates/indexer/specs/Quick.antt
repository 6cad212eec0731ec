-- A sequence that the ported rule finds good, told without refusals.
use Rattle.std.specs.Prelude.{ℕ, ◌+◌, ◌-◌, ◌≤◌, ◌≡◌, refl, List, [], ◌∷◌, true, length, Option, Some, Result, Ok, Err, IfSome}
use Rattle.std.specs.Result.{result_ok}
use Rattle.std.proofs.Common.{sym, true≢false, add-zero}
use Rattle.lines.specs.declared.Line.{Line}
use Rattle.lines.specs.Lines.{seq_at, first_line, none, sum_bases, sum_widths}
use Rattle.definition.specs.declared.Definition.{Definition}
use Rattle.indexer.specs.declared.Good.{Good}
use Rattle.indexer.specs.Rule.{SequenceRule, row_for, sequence_by}
use Rattle.indexer.specs.Index.{rest_of, rest_says, ported}
use Rattle.indexer.specs.Laws.{record-some}

-- a sequence that begins at e is told: whatever its definition line, the rule gives the row of these numbers, and the next record begins behind it
pub record ToldBy (rule : SequenceRule) (s : List ℕ) (e : ℕ) (r : Good) : Type 0 where
  pub row : (at : ℕ) (d : Definition) → at ≤ e
      → record { answer = Ok (Some (row_for at d r.bases e r.first.bases r.first.width)); next = record { at = r.next } } ≡ sequence_by rule at (e - at) d (seq_at s e)

-- or nothing is
abbrev pub GoodAt : List ℕ → ℕ → Option Good → Type 0
GoodAt s e r = IfSome r (ToldBy ported s e)

rest-none : (x : Line) (n at : ℕ) (ls : List (List ℕ)) → true ≡ none ls → Ok (n, at) ≡ rest_says x n at ls
unfolding rest_says rest_of sum_bases sum_widths
rest-none x n at [] e = rw (add-zero n, add-zero at)
rest-none x n at (l ∷ ls) e = absurd (true≢false e)

-- the value of an Ok is that of its `ok()`
pub ok-back : {T E : Type 0} (r : Result T E) (x : T) → result_ok r ≡ Some x → r ≡ Ok x
ok-back (Ok y) x e = cc
ok-back (Err f) x e = cc

-- the first line x
module _ (s : List ℕ) (e : ℕ) (h : e ≤ length s) (x : Line) (hx : x ≡ first_line (seq_at s e)) (z : x.bases ≡ 0 → ⊥) where
  -- the lines behind it are good
  pub all-told : (n j : ℕ) → rest_says x x.bases (e + x.width) (seq_at s (e + x.width)) ≡ Ok (n, j) → ToldBy ported s e (record { first = x; bases = n; next = j })
  all-told n j q = record { row = λ at d le. record-some s at e d le h x hx z (Ok (n, j)) (Ok (n, j)) (sym q) refl }

  -- no line follows it
  pub one-told : none (seq_at s (e + x.width)) ≡ true → ToldBy ported s e (record { first = x; bases = x.bases; next = e + x.width })
  one-told q = all-told x.bases (e + x.width) (sym (rest-none x x.bases (e + x.width) (seq_at s (e + x.width)) (sym q)))
