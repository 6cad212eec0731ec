-- The complete indexer, against the checker and against the ported indexer. `rows_by Complete f 0` is what it gives for a file f, and
-- `rowsIn Complete f n` is what its call gives, with a table of n rows.
--
-- `fits-accepted`: the index lines of a file that it takes to its end are accepted by the checker, if they too are within the limit; of the
-- call, `call-fits-accepted`.
-- `fits-complete`: if any index is accepted for a file, it takes the file to its end, with a row for each record; of the call, with room
-- for them, `call-complete`. So if it refuses a record, no index of that file can ever be accepted: `refused-never`.
-- `fits-agrees`: if the ported indexer gives a row for a record, it gives the same; so on a file that the ported one takes to its end both
-- give the same rows: `files-agree`, and of the calls `calls-agree`.
use Rattle.std.specs.Prelude.{ℕ, suc, ◌≤◌, ◌≡◌, List, length, Some, Ok, Err}
use Rattle.std.proofs.Math.Path.{refl}
use Rattle.std.proofs.Common.{le-ltb, arith}
use Rattle.std.proofs.Math.Nat.{zero-add}
use Rattle.refusal.specs.Numbers.{over_limit}
use Rattle.refusal.specs.declared.Refusal.{Refusal}
use Rattle.lines.specs.Lines.{lines}
use Rattle.lines.specs.Groups.{groups}
use Rattle.record.specs.declared.Record.{Record}
use Rattle.table.specs.Laws.{held_all}
use Rattle.indexer.specs.Rule.{file_by, call_by}
use Rattle.indexer.specs.Index.{ported}
use Rattle.fitting.specs.declared.Rule.TheVariants.{Strict, Complete}
use Rattle.fitting.specs.Complete.{complete}
use Rattle.fitting.specs.Rules.{step_by, rows_by, rows_in}
use Rattle.checker.specs.Accepts.{limit, Accepts}
use Rattle.checker.specs.Check.{check_of}
use Rattle.checker.specs.Exactly.{accepted-if, accepted-only-if}
use Rattle.mission.specs.IndexedLaws.{along-all, taken}
use Rattle.mission.specs.Leading.{index_text, leading-accepted}
use Rattle.mission.specs.FittedLaws.{rows-lead, matched-fits, all_fit, same-record, agree-groups}

module _ (f : List ℕ) where
  -- ---- what it takes is accepted

  pub fits-accepted : length f ≤ limit → (rows_by Complete f 0).stop ≡ Ok tt → length (index_text f (rows_by Complete f 0).rows) ≤ limit → Accepts f (index_text f (rows_by Complete f 0).rows)
  fits-accepted m e n = leading-accepted f (rows_by Complete f 0).rows (rows_by Complete f 0).stop (rows-lead f) e m n

  pub call-fits-accepted : (n : ℕ) → (rows_in Complete f n).stop ≡ Ok tt → length (index_text f (rows_in Complete f n).rows) ≤ limit → check_of f (index_text f (rows_in Complete f n).rows) ≡ Ok tt
  call-fits-accepted n h m =
      let t = taken complete f n h in
      rw t.whole (accepted-if f (index_text f (rows_by Complete f 0).rows) (fits-accepted t.fits t.ended (rw t.whole at m)))

  -- ---- it takes every file for which any index is accepted

  pub fits-complete : (i : List ℕ) → Accepts f i → (rows_by Complete f 0).stop ≡ Ok tt
  unfolding file_by
  fits-complete i a =
      all_fit (groups (lines f)) 0
      (λ k h.
      let m = a.each k h in
      rw zero-add (record { said = m.both.said; defined = m.both.defined; fits = matched-fits (suc k) _ _ _ m }))

  pub call-complete : (i : List ℕ) (n : ℕ) → check_of f i ≡ Ok tt → length (groups (lines f)) ≤ n → (rows_in Complete f n).stop ≡ Ok tt
  unfolding call_by over_limit
  call-complete i n c m =
      let a = accepted-only-if f i c in
      let e = fits-complete i a in
      rw (le-ltb _ _ a.limits.fasta, held_all n n (rows_by Complete f 0) (omega (arith, along-all (rows-lead f) e))) e

  pub refused-never : (i : List ℕ) (x : Refusal) → (rows_by Complete f 0).stop ≡ Err x → check_of f i ≡ Ok tt → ⊥
  refused-never i x r c =
      let e = fits-complete i (accepted-only-if f i c) in
      let z : ◌≡◌ {A = ℕ} 0 1 = cc in
      omega arith

  -- ---- what the ported indexer takes, it takes in the same way

  pub fits-agrees : (at : ℕ) (x : Record) → (step_by Strict f at).answer ≡ Ok (Some x) → step_by Complete f at ≡ step_by Strict f at
  fits-agrees = same-record f

  pub files-agree : (rows_by Strict f 0).stop ≡ Ok tt → rows_by Complete f 0 ≡ rows_by Strict f 0
  unfolding file_by
  files-agree e = agree-groups f (groups (lines f)) 0 refl e

  pub calls-agree : (n : ℕ) → (rows_in Strict f n).stop ≡ Ok tt → rows_in Complete f n ≡ rows_in Strict f n
  unfolding call_by
  calls-agree n h = rw (files-agree (taken ported f n h).ended)
