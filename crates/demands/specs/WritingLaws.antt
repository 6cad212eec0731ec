-- A law for Writing.antt: an answer without a refusal says what the call wrote.
use Rattle.std.specs.Prelude.{ℕ, ◌≡◌, refl, List, Result, Ok, Err}
use Rattle.std.proofs.Common.{ap, ◌∙◌, arith}
use Rattle.refusal.specs.declared.Refusal.{Refusal}
use Rattle.refusal.specs.Apart.{never-zero}
use Rattle.refusal.specs.Numbers.{numbers_of}
use Rattle.output.specs.Outcome.{Outcome, leaves}
use Rattle.wakeluri.specs.declared.answer.Answer.{Answer}
use Rattle.wakeluri.specs.Answer.{written_answer}
use Rattle.wakeluri.specs.Told.{written_told}

pub zero-wrote : (o : Outcome (Result ℕ Refusal)) (a : Answer) (out' : List ℕ) → leaves a out' ≡ written_told o → a.refusal ≡ 0 → o ≡ leaves (Ok a.count) out'
unfolding written_told written_answer
zero-wrote o a out' h zero = go o.answer refl
  where
    told : a ≡ written_answer o.answer
    told = ap (λ (x : Outcome Answer). x.answer) h

    left : out' ≡ o.output
    left = ap (λ (x : Outcome Answer). x.output) h

    go : (w : Result ℕ Refusal) → o.answer ≡ w → o ≡ leaves (Ok a.count) out'
    go (Ok n) e = let q : a.count ≡ n = ap (λ (x : Answer). x.count) (told ∙ ap written_answer e) in rw (q, left, ← e)
    go (Err f) e =
        let q : a.refusal ≡ (numbers_of f).refusal = ap (λ (x : Answer). x.refusal) (told ∙ ap written_answer e) in
        absurd (omega (arith, never-zero f))
