-- Answers about exercises and scores as a host gets them.
use Rattle.std.specs.Prelude.{ℕ, ◌≡◌, List, Result, Ok, Err}
use Rattle.refusal.specs.declared.Refusal.{Refusal}
use Rattle.refusal.specs.declared.Numbers.{Numbers}
use Rattle.refusal.specs.Numbers.{numbers_of}
use Rattle.output.specs.Outcome.{Outcome, leaves}
use Rattle.exercise.specs.declared.Exercise.{Exercise}
use Rattle.scoring.specs.declared.Score.{Score}
use Rattle.wakeluri.specs.declared.course.ExerciseAnswer.{ExerciseAnswer}
use Rattle.wakeluri.specs.declared.course.ScoreAnswer.{ScoreAnswer}
use Rattle.wakeluri.specs.Answer.{fine}

-- no exercise; no score
abbrev pub no_exercise : Exercise
no_exercise = record { name_start = 0; name_length = 0; start = 0; end = 0; edition = 0 }

abbrev pub no_score : Score
no_score = record { right = 0; wrong = 0; missing = 0; surplus = 0; score = 0 }

-- the two structs, field by field
abbrev pub exercise_told : Numbers → Exercise → ExerciseAnswer
exercise_told n x = record {
  refusal = n.refusal;
  first = n.first;
  second = n.second;
  name_start = x.name_start;
  name_length = x.name_length;
  start = x.start;
  end = x.end;
  edition = x.edition;
}

abbrev pub score_told : Numbers → Score → ScoreAnswer
score_told n s = record {
  refusal = n.refusal;
  first = n.first;
  second = n.second;
  right = s.right;
  wrong = s.wrong;
  missing = s.missing;
  surplus = s.surplus;
  score = s.score;
}

-- where the name lies, the bounds and the edition
unfoldable pub exercise_answer : Result Exercise Refusal → ExerciseAnswer
exercise_answer (Ok x) = exercise_told fine x
exercise_answer (Err f) = exercise_told (numbers_of f) no_exercise

-- the counts and the score
unfoldable pub score_answer : Result Score Refusal → ScoreAnswer
score_answer (Ok s) = score_told fine s
score_answer (Err f) = score_told (numbers_of f) no_score

-- a score, and the room with its key
unfoldable pub scored_told : Outcome (Result Score Refusal) → Outcome ScoreAnswer
scored_told o = leaves (score_answer o.answer) o.output

-- the numbers of a call, by what it answers and leaves
pub scored-told : (a : ScoreAnswer) (room : List ℕ) (r : Result Score Refusal) (o : Outcome (Result Score Refusal)) → leaves r room ≡ o → a ≡ score_answer r → leaves a room ≡ scored_told o
unfolding scored_told
scored-told a room r o e q = rw (← e, q)
