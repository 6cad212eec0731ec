-- Parts of a check of FASTQ where a host meets them (R92): at wakeluri_fastq_check_part, called on a file and an index within the limit from the start of both, and then
-- from where the call before it stopped in both, up to any offsets. `reads-checked`: if the last call stops at the end of both, wakeluri_fastq_check
-- accepts them.
use Rattle.std.specs.Prelude.{ℕ, ◌≤◌, ◌≡◌, List, false, length, Ok}
use Rattle.std.proofs.Math.Path.{ap}
use Rattle.std.proofs.Common.{◌∙◌}
use Rattle.refusal.specs.Numbers.{over_limit}
use Rattle.fastq_checker.specs.Check.{check_of}
use Rattle.fastq_checker.specs.Part.{walked, reached_at, part_checked}
use Rattle.fastq_checker.specs.Joined as joined
use Rattle.wakeluri.specs.declared.answer.Answer.{Answer}
use Rattle.wakeluri.specs.Answer.{verdict_answer}
use Rattle.wakeluri.specs.Qualities.{passed_answer}

-- the calls' promises, word for word: wakeluri_fastq_check(f, i) answers a; wakeluri_fastq_check_part(f, from, to, i, first) answers a
abbrev pub FastqCheck : List ℕ → List ℕ → Answer → Type 0
FastqCheck f i a = a ≡ verdict_answer (check_of f i)

abbrev pub FastqCheckPart : List ℕ → ℕ → ℕ → List ℕ → ℕ → Answer → Type 0
FastqCheckPart f from to i first a = a ≡ passed_answer (part_checked f from to i first)

module _ (f i : List ℕ) (small : over_limit (length f) ≡ false) (short : over_limit (length i) ≡ false) where
  -- calls from an offset of the file and a place of the index on, each from where the one before it stopped, up to the end of both
  pub data Checked : ℕ → ℕ → Type 0 where
    ended : (a b : ℕ) → length f ≤ a → length i ≤ b → Checked a b
    on : (from to first : ℕ) (a : Answer) → FastqCheckPart f from to i first a → Checked a.next a.count → Checked from first

  -- what a call tells is where its part stopped
  reached : (from to first : ℕ) → part_checked f from to i first ≡ reached_at (walked f i to (joined.place_at from first 0))
  unfolding part_checked
  reached from to first = rw (small, short)

  stopped : (from to first : ℕ) (a : Answer) → FastqCheckPart f from to i first a
      → (a.next ≡ (walked f i to (joined.place_at from first 0)).fastq) × (a.count ≡ (walked f i to (joined.place_at from first 0)).index)
  unfolding passed_answer
  stopped from to first a e =
      let q = e ∙ ap passed_answer (reached from to first) in
      (ap (λ (b : Answer). b.next) q, ap (λ (b : Answer). b.count) q)

  passed : (x y : ℕ) → Checked x y → joined.Passed f i small short x y
  passed x y (ended _ _ h g) = joined.Passed.ended x y h g
  passed x y (on _ to _ a e c) =
      let s = stopped x to y a e in
      joined.Passed.on x to y (record { fastq = (walked f i to (joined.place_at x y 0)).fastq; index = (walked f i to (joined.place_at x y 0)).index }) (reached x to y)
      (rw (s.0, s.1) at (passed a.next a.count c))

  accepted : check_of f i ≡ Ok tt → (verdict_answer (check_of f i)).refusal ≡ 0
  unfolding verdict_answer
  accepted e = rw e

  pub reads-checked : (a : Answer) → FastqCheck f i a → Checked 0 0 → a.refusal ≡ 0
  reads-checked a e c = ap (λ (b : Answer). b.refusal) e ∙ accepted (joined.parts-accepted f i small short (passed 0 0 c))
