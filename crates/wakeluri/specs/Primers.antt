-- Answers about primers as a host gets them.
use Rattle.std.specs.Prelude.{ℕ, Option, Some, None, Result, Ok, Err}
use Rattle.refusal.specs.declared.Refusal.{Refusal}
use Rattle.refusal.specs.Numbers.{numbers_of}
use Rattle.wakeluri.specs.declared.answer.Answer.{Answer}
use Rattle.wakeluri.specs.Answer.{fine, answer_of}

-- how many sequences a primer stands for
unfoldable pub counted_answer : Result ℕ Refusal → Answer
counted_answer (Ok n) = answer_of fine n 0
counted_answer (Err f) = answer_of (numbers_of f) 0 0

-- a place: 1 and the place, or 0 for none
unfoldable pub place_answer : Result (Option ℕ) Refusal → Answer
place_answer (Ok (Some k)) = answer_of fine 1 k
place_answer (Ok None) = answer_of fine 0 0
place_answer (Err f) = answer_of (numbers_of f) 0 0
