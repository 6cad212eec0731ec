-- What the checker tells of a definition line that does not read: the record, and the offset at which reading failed. Both belong to the first
-- record that is wrong. `bad-told`: if such a line is the first fault, the answer is its refusal. `told-bad`: an answer 2, 3 or 4 means that.
use Rattle.std.specs.Prelude.{ℕ, suc, ◌+◌, ◌≤◌, ◌<◌, ◌≡◌, List, length, Err}
use Rattle.std.proofs.Common.{arith}
use Rattle.refusal.specs.Numbers.{numbers_of}
use Rattle.refusal.specs.declared.Refusal.{Refusal}
use Rattle.lines.specs.Lines.{lines}
use Rattle.lines.specs.Groups.{Group, groups}
use Rattle.definition.specs.Definition.{fails_at, refusal_in}
use Rattle.definition.specs.Definition as definition
use Rattle.definition.specs.Failing.{number_of, tells}
use Rattle.definition.specs.declared.Fault.{Fault}
use Rattle.checker.specs.Check.{check_of}
use Rattle.checker.specs.Accepts.{record_at, definition_at, Fit, MatchesAt}
use Rattle.checker.specs.FirstFault.{RecordFault, FirstFault}
use Rattle.checker.specs.FirstFault.RecordFault.{bad-definition, no-line, wrong-line}
use Rattle.checker.specs.FirstFault.FirstFault.{long-fasta, long-index, wrong-record, lines_left}
use Rattle.checker.specs.Faults.{refused-if, refused-only-if}
use Rattle.checker.specs.BadDefinitionLaws.{fault-high}

-- the definition line of record r, from 0, does not read, and each record before it matches its line
pub record FirstBad (f i : List ℕ) (r : ℕ) (e : Fault) : Type 0 where
  pub limits : Fit f i
  pub here : r < length (groups (lines f))
  pub before : (k : ℕ) → k < r → MatchesAt f i k
  pub bad : definition.definition_says (record_at (groups (lines f)) r).def ≡ Err e

-- a refusal tells so: its number, the record from 1, and the start of that definition line plus the place in it
pub record TellsBad (f i : List ℕ) (x : Refusal) : Type 0 where
  pub at : ℕ
  pub fault : Fault
  pub first : FirstBad f i at fault
  pub told : numbers_of x ≡ record { refusal = number_of fault; first = suc at; second = definition_at (groups (lines f)) at + fails_at fault }

-- only a definition line gives 2 to 4
record BadHere (n at : ℕ) (g : Group) (x : Refusal) : Type 0 where
  fault : Fault
  bad : definition.definition_says g.def ≡ Err fault
  told : numbers_of x ≡ record { refusal = number_of fault; first = n; second = at + fails_at fault }

bad-here : (n at : ℕ) (g : Group) (left : List (List ℕ)) (x : Refusal) → RecordFault n at g left x → 2 ≤ (numbers_of x).refusal → (numbers_of x).refusal ≤ 4 → BadHere n at g x
unfolding numbers_of
bad-here n at g left x (bad-definition e d) a b = record { fault = e; bad = d; told = tells e n (at + fails_at e) }
bad-here n at g left x (no-line d k) a b = absurd (omega arith)
bad-here n at g left x (wrong-line d k w) a b = absurd (omega (arith, fault-high _ _ _ _ x w))

module _ (f i : List ℕ) where
  pub bad-told : (r : ℕ) (e : Fault) → FirstBad f i r e → check_of f i ≡ Err (refusal_in e (suc r) (definition_at (groups (lines f)) r))
  bad-told r e b = refused-if f i _ (wrong-record b.limits r b.here b.before (bad-definition e b.bad))

  pub told-bad : (x : Refusal) → check_of f i ≡ Err x → 2 ≤ (numbers_of x).refusal → (numbers_of x).refusal ≤ 4 → TellsBad f i x
  unfolding numbers_of
  told-bad x h a b = go x (refused-only-if f i x h) a b
    where
      go : (x : Refusal) → FirstFault f i x → 2 ≤ (numbers_of x).refusal → (numbers_of x).refusal ≤ 4 → TellsBad f i x
      go x (long-fasta l) a b = absurd (omega arith)
      go x (long-index l m) a b = absurd (omega arith)
      go x (wrong-record l r q m e) a b =
          let h = bad-here _ _ _ _ x e a b in
          record { at = r; fault = h.fault; first = record { limits = l; here = q; before = m; bad = h.bad }; told = h.told }
      go x (lines_left l m q) a b = absurd (omega arith)
