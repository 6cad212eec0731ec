-- What looking up and then reading answer at the entry points, as numbers.
use Rattle.std.specs.Prelude.{ℕ, ◌≡◌, List}
use Rattle.wakeluri.specs.declared.answer.Answer.{Answer}
use Rattle.output.specs.Outcome.{Outcome, leaves}

-- the numbers of the refusals that come from looking up
pub data FirstTells : ℕ → Type 0 where
  told-25 : FirstTells 25
  told-15 : FirstTells 15

-- and what comes from the read: no refusal, or one of four
pub data SecondTells : ℕ → Type 0 where
  told-0 : SecondTells 0
  told-16 : SecondTells 16
  told-17 : SecondTells 17
  told-14 : SecondTells 14
  told-18 : SecondTells 18

-- one call answered and left what two calls answer and leave; the second takes the row that the first answers, and is made only if the first is
-- not refused
pub record Split (one : Outcome Answer) (first : Answer) (Second : ℕ → Answer → List ℕ → Type 0) (out : List ℕ) : Type 0 where
  pub refused : (first.refusal ≡ 0 → ⊥) → FirstTells first.refusal × (one ≡ leaves first out)
  pub read : first.refusal ≡ 0 → (second : Answer) (out' : List ℕ) → Second first.count second out' → (one ≡ leaves second out') × SecondTells second.refusal
