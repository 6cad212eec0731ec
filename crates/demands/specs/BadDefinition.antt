-- Where a bad definition is (request K9), where a host meets it: at the entry points, over the bytes that it lends.
--
-- `indexed-bad`: if wakeluri_index_file or wakeluri_index_complete answers 2, 3 or 4, the definition line of the record behind those that have a
-- row does not read, and `first` is where that line begins plus the place in it where reading failed.
--
-- `checked-bad`: if wakeluri_check answers 2, 3 or 4, `first` is the first record that is wrong, from 1: its definition line does not read, and
-- `second` is that offset.
use Rattle.std.specs.Prelude.{ℕ, suc, ◌+◌, ◌≤◌, ◌≡◌, List, length, Result, Ok, Err, ⊤}
use Rattle.std.proofs.Math.Path.{refl, ap}
use Rattle.std.proofs.Common.{arith}
use Rattle.refusal.specs.declared.Refusal.{Refusal}
use Rattle.refusal.specs.declared.Numbers.{Numbers}
use Rattle.lines.specs.Lines.{lines}
use Rattle.lines.specs.Groups.{groups}
use Rattle.definition.specs.Definition.{fails_at}
use Rattle.definition.specs.Failing.{number_of}
use Rattle.definition.specs.declared.Fault.{Fault}
use Rattle.table.specs.Rows.{row_count}
use Rattle.fitting.specs.declared.Rule.{Rule}
use Rattle.fitting.specs.Rules.{rows_in}
use Rattle.checker.specs.Check.{check_of}
use Rattle.checker.specs.Accepts.{definition_at}
use Rattle.checker.specs.BadDefinition.{FirstBad, TellsBad}
use Rattle.checker.specs.BadDefinition as checker
use Rattle.mission.specs.BadDefinition.{BadAt}
use Rattle.mission.specs.BadDefinition as mission
use Rattle.table.specs.Numbers.{numbers_in}
use Rattle.wakeluri.specs.declared.answer.Answer.{Answer}
use Rattle.wakeluri.specs.Answer.{filled_answer, verdict_answer}
use Rattle.output.specs.Outcome.{Outcome}
use Rattle.wakeluri.specs.Told.{filled_told}
use Rattle.demands.specs.Calls.{Check, IndexFile}

-- an answer is 2, 3 or 4
pub record OfDefinition (a : Answer) : Type 0 where
  pub least : 2 ≤ a.refusal
  pub most : a.refusal ≤ 4

-- the indexer's: the record behind those that have a row, and its offset
pub record IndexedBad (file : List ℕ) (a : Answer) : Type 0 where
  pub fault : Fault
  pub bad : BadAt file a.count fault
  pub refusal : a.refusal ≡ number_of fault
  pub first : a.first ≡ definition_at (groups (lines file)) a.count + fails_at fault
  pub second : a.second ≡ 0

-- the checker's: the first record that is wrong, and its offset
pub record CheckedBad (file index : List ℕ) (a : Answer) : Type 0 where
  pub at : ℕ
  pub fault : Fault
  pub bad : FirstBad file index at fault
  pub refusal : a.refusal ≡ number_of fault
  pub first : a.first ≡ suc at
  pub second : a.second ≡ definition_at (groups (lines file)) at + fails_at fault

module _ (rule : Rule) (file table table' : List ℕ) (filled : Answer) (indexed : IndexFile rule file table filled table') where
  pub indexed-bad : OfDefinition filled → IndexedBad file filled
  unfolding filled_told filled_answer
  indexed-bad of = rw e (go (rows_in rule file (row_count (numbers_in table))).stop refl (rw e at of))
    where
      e : filled ≡ filled_answer (length (rows_in rule file (row_count (numbers_in table))).rows) (rows_in rule file (row_count (numbers_in table))).stop
      e = ap (λ (t : Outcome Answer). t.answer) indexed

      go : (s : Result ⊤ Refusal) → (rows_in rule file (row_count (numbers_in table))).stop ≡ s → OfDefinition (filled_answer (length (rows_in rule file (row_count (numbers_in table))).rows) s)
          → IndexedBad file (filled_answer (length (rows_in rule file (row_count (numbers_in table))).rows) s)
      go (Ok tt) q o = absurd (omega (arith, o.least))
      go (Err x) q o =
          let t = mission.told-bad rule file (row_count (numbers_in table)) x q o.least o.most in
          record {
            fault = t.fault;
            bad = t.first;
            refusal = ap (λ (n : Numbers). n.refusal) t.told;
            first = ap (λ (n : Numbers). n.first) t.told;
            second = ap (λ (n : Numbers). n.second) t.told;
          }

module _ (file index : List ℕ) (checked : Answer) (check : Check file index checked) where
  pub checked-bad : OfDefinition checked → CheckedBad file index checked
  unfolding verdict_answer
  checked-bad of = rw check (go (check_of file index) refl (rw check at of))
    where
      go : (v : Result ⊤ Refusal) → check_of file index ≡ v → OfDefinition (verdict_answer v) → CheckedBad file index (verdict_answer v)
      go (Ok tt) q o = absurd (omega (arith, o.least))
      go (Err x) q o =
          let t = checker.told-bad file index x q o.least o.most in
          record {
            at = t.at;
            fault = t.fault;
            bad = t.first;
            refusal = ap (λ (n : Numbers). n.refusal) t.told;
            first = ap (λ (n : Numbers). n.first) t.told;
            second = ap (λ (n : Numbers). n.second) t.told;
          }
