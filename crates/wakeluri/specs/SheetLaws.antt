-- What a host learns of a sheet by its answer, over the bytes that it lends: the single reads joined in order, or nothing.
use Rattle.std.specs.Prelude.{ℕ, ◌≤◌, ◌≡◌, List, Result, Ok, Err}
use Rattle.std.proofs.Math.Path.{refl, ap}
use Rattle.std.proofs.Common.{◌∙◌, arith}
use Rattle.sheet.specs.declared.RegionRefused.{RegionRefused}
use Rattle.refusal.specs.Numbers.{numbers_of}
use Rattle.refusal.specs.Apart.{never-zero}
use Rattle.table.specs.Numbers.{numbers_in}
use Rattle.sheet.specs.Sheet.{SheetOutcome, leaves_both, sheet_read}
use Rattle.sheet.specs.Bytes.{regions_in}
use Rattle.sheet.specs.Joins.{Joins, Unchanged, sheet-joins, sheet-unchanged}
use Rattle.wakeluri.specs.declared.answer.Answer.{Answer}
use Rattle.wakeluri.specs.Sheets.{sheet_answer, sheet_told}

-- an answer, an output and starts that meet the contract of `wakeluri_read_sheet`
module _ (file table regions : List ℕ) (u : ℕ) (out starts : List ℕ) (a : Answer) (after begins : List ℕ) (e : leaves_both a after begins ≡ sheet_told (sheet_read file (numbers_in table) u (regions_in regions) out starts)) where
  abbrev o : SheetOutcome (Result ℕ RegionRefused)
  o = sheet_read file (numbers_in table) u (regions_in regions) out starts

  answered : a ≡ sheet_answer o.answer
  unfolding sheet_told
  answered = ap (λ (z : SheetOutcome Answer). z.answer) e

  left : after ≡ o.output
  unfolding sheet_told
  left = ap (λ (z : SheetOutcome Answer). z.output) e

  begun : begins ≡ o.starts
  unfolding sheet_told
  begun = ap (λ (z : SheetOutcome Answer). z.starts) e

  by_answer : (r : Result ℕ RegionRefused) → o.answer ≡ r → o ≡ leaves_both r after begins
  by_answer r q = rw (left, begun) (ap (λ (x : Result ℕ RegionRefused). leaves_both x o.output o.starts) q)

  -- no refusal: `count` bytes, which are the single reads' joined, and where each begins
  pub told-joins : a.refusal ≡ 0 → Joins file (numbers_in table) u (regions_in regions) out starts a.count after begins
  unfolding sheet_answer
  told-joins z = go o.answer refl
    where
      go : (r : Result ℕ RegionRefused) → o.answer ≡ r → Joins file (numbers_in table) u (regions_in regions) out starts a.count after begins
      go (Ok n) q =
          let c : a.count ≡ n = ap (λ (x : Answer). x.count) (answered ∙ ap sheet_answer q) in
          rw c (sheet-joins file (numbers_in table) u (regions_in regions) out starts n after begins (by_answer (Ok n) q))
      go (Err e) q =
          let c : a.refusal ≡ (numbers_of e.refusal).refusal = ap (λ (x : Answer). x.refusal) (answered ∙ ap sheet_answer q) in
          absurd (omega (arith, never-zero e.refusal))

  -- a refusal: neither changes
  pub told-unchanged : 1 ≤ a.refusal → Unchanged file (numbers_in table) u (regions_in regions) out starts after begins
  unfolding sheet_answer
  told-unchanged z = go o.answer refl
    where
      go : (r : Result ℕ RegionRefused) → o.answer ≡ r → Unchanged file (numbers_in table) u (regions_in regions) out starts after begins
      go (Ok n) q =
          let c : a.refusal ≡ 0 = ap (λ (x : Answer). x.refusal) (answered ∙ ap sheet_answer q) in
          absurd (omega arith)
      go (Err e) q = sheet-unchanged file (numbers_in table) u (regions_in regions) out starts e.place e.refusal after begins (by_answer (Err e) q)
