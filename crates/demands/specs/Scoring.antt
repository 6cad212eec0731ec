-- A written exercise scored (requests K5 and K13) where a host meets it: at the entry points. If wakeluri_write_exercise answers 0, for bounds of 64
-- bits, and wakeluri_score_exercise is then given what it wrote, the first `count` bytes of the output, then, whatever else is lent:
--
-- `scored-asked`: if that answers 0, right, wrong and missing together are end - start + 1.
-- `scored-tenths`: the score is the quotient of 1000 times right by end - start + 1 and the surplus; `scored-most`: at most 1000; `scored-full`,
-- `full-scored`: 1000 exactly if all is right and nothing is surplus.
-- `scored-key`: the key, so many bytes, stands at the front of the room, and what is behind it is as it was.
-- `refused-room`: if it does not answer 0, all of the room is as it was.
-- `half-typed`: a hundred asked, fifty typed, 49 right: 490.
use Rattle.std.specs.Prelude.{ℕ, ◌+◌, ◌-◌, ◌*◌, ◌/◌, ◌^◌, ◌≤◌, ◌<◌, ◌≡◌, refl, List, ◌++◌, length, take, drop, Result, Ok, Err}
use Rattle.std.proofs.Common.{ap, ◌∙◌, arith}
use Rattle.refusal.specs.declared.Refusal.{Refusal}
use Rattle.refusal.specs.Apart.{never-zero}
use Rattle.refusal.specs.Numbers.{numbers_of}
use Rattle.output.specs.Outcome.{Outcome, leaves}
use Rattle.exercise.specs.Reading.{read_as}
use Rattle.exercise.specs.Calls.{written, written-exercise-reads}
use Rattle.scoring.specs.declared.Score.{Score}
use Rattle.scoring.specs.Laws.{surplus-is}
use Rattle.scorer.specs.Scorer.{scorer_of}
use Rattle.scorer.specs.Known.{rule_of, unchanged}
use Rattle.scorer.specs.Theorems as scores
use Rattle.table.specs.Numbers.{numbers_in}
use Rattle.wakeluri.specs.declared.answer.Answer.{Answer}
use Rattle.wakeluri.specs.declared.course.ScoreAnswer.{ScoreAnswer}
use Rattle.wakeluri.specs.Answer.{fine}
use Rattle.wakeluri.specs.Course.{score_told, score_answer, scored_told}
use Rattle.demands.specs.Calls.{WriteExercise, ScoreExercise}
use Rattle.demands.specs.WritingLaws.{zero-wrote}

-- ---- an answer of the scorer as numbers

-- an answer without a refusal has what it found
pub record Scores (o : Outcome (Result Score Refusal)) (a : ScoreAnswer) (room' : List ℕ) : Type 0 where
  pub score : Score
  pub outcome : o ≡ leaves (Ok score) room'
  pub told : a ≡ score_told fine score

told-by : (o : Outcome (Result Score Refusal)) (a : ScoreAnswer) (room' : List ℕ) → leaves a room' ≡ scored_told o → (a ≡ score_answer o.answer) × (room' ≡ o.output)
unfolding scored_told
told-by o a room' h = (ap (λ (x : Outcome ScoreAnswer). x.answer) h, ap (λ (x : Outcome ScoreAnswer). x.output) h)

zero-scores : (o : Outcome (Result Score Refusal)) (a : ScoreAnswer) (room' : List ℕ) → leaves a room' ≡ scored_told o → a.refusal ≡ 0 → Scores o a room'
unfolding score_answer
zero-scores o a room' h zero = go o.answer refl
  where
    w : (a ≡ score_answer o.answer) × (room' ≡ o.output)
    w = told-by o a room' h

    go : (s : Result Score Refusal) → o.answer ≡ s → Scores o a room'
    go (Ok c) e = record { score = c; outcome = rw (w.1, ← e); told = w.0 ∙ ap score_answer e }
    go (Err f) e =
        let q : a.refusal ≡ (numbers_of f).refusal = ap (λ (x : ScoreAnswer). x.refusal) (w.0 ∙ ap score_answer e) in
        absurd (omega (arith, never-zero f))

-- an answer with one leaves the room
left-room : (s typed file names t : List ℕ) (u : ℕ) (room : List ℕ) (a : ScoreAnswer) (room' : List ℕ) → leaves a room' ≡ scored_told (scorer_of s typed file names t u room)
    → (a.refusal ≡ 0 → ⊥) → room' ≡ room
unfolding score_answer
left-room s typed file names t u room a room' h some = go (scorer_of s typed file names t u room).answer refl
  where
    o : Outcome (Result Score Refusal)
    o = scorer_of s typed file names t u room

    w : (a ≡ score_answer o.answer) × (room' ≡ o.output)
    w = told-by o a room' h

    go : (r : Result Score Refusal) → o.answer ≡ r → room' ≡ room
    go (Ok c) e = absurd (some (ap (λ (x : ScoreAnswer). x.refusal) (w.0 ∙ ap score_answer e)))
    go (Err f) e = unchanged s typed file names t u room f room' (rw (w.1, ← e))

-- ---- write an exercise, and score it

module _ (name : List ℕ) (start end edition : ℕ) (out out' : List ℕ) (wrote : Answer) (write : WriteExercise name start end edition out wrote out') (zero : wrote.refusal ≡ 0)
    (start_fits : start < 2 ^ 64) (end_fits : end < 2 ^ 64) (typed file names table : List ℕ) (in_use : ℕ) (room : List ℕ) (a : ScoreAnswer) (room' : List ℕ)
    (score : ScoreExercise (take wrote.count out') typed file names table in_use room a room') where
  pub refused-room : (a.refusal ≡ 0 → ⊥) → room' ≡ room
  refused-room = left-room (take wrote.count out') typed file names (numbers_in table) in_use room a room' score

  module _ (answered : a.refusal ≡ 0) where
    s : List ℕ
    s = take wrote.count out'

    reads : read_as 2 (take wrote.count out') ≡ Ok (written name start end edition)
    reads = (written-exercise-reads name start end edition out wrote.count out' (zero-wrote _ wrote out' write zero) start_fits end_fits).0

    w : Scores (scorer_of (take wrote.count out') typed file names (numbers_in table) in_use room) a room'
    w = zero-scores _ a room' score answered

    pub scored-asked : a.right + a.wrong + a.missing ≡ end - start + 1
    scored-asked = rw w.told (scores.asked _ typed file names (numbers_in table) in_use room (written name start end edition) reads w.score room' w.outcome)

    pub scored-tenths : a.score ≡ 1000 * a.right / (end - start + 1 + a.surplus)
    scored-tenths = rw w.told (scores.denominator _ typed file names (numbers_in table) in_use room (written name start end edition) reads w.score room' w.outcome)

    pub scored-most : a.score ≤ 1000
    scored-most = rw w.told (scores.most _ typed file names (numbers_in table) in_use room (written name start end edition) reads w.score room' w.outcome)

    pub scored-full : a.score ≡ 1000 → (a.right ≡ end - start + 1) × (a.surplus ≡ 0)
    scored-full = rw w.told (scores.full-only-if _ typed file names (numbers_in table) in_use room (written name start end edition) reads w.score room' w.outcome)

    pub full-scored : a.right ≡ end - start + 1 → a.surplus ≡ 0 → a.score ≡ 1000
    full-scored = rw w.told (scores.full-if _ typed file names (numbers_in table) in_use room (written name start end edition) reads w.score room' w.outcome)

    pub scored-key : (key : List ℕ) × (length key ≡ end - start + 1) × (room' ≡ key ++ drop (length key) room)
    scored-key =
        let f = scores.fetched _ typed file names (numbers_in table) in_use room (written name start end edition) reads w.score room' w.outcome in
        (f.key, f.all, f.left)

    pub half-typed : end - start + 1 ≡ 100 → length typed ≡ 50 → a.right ≡ 49 → a.score ≡ 490
    half-typed hundred fifty right =
        let f = scores.fetched _ typed file names (numbers_in table) in_use room (written name start end edition) reads w.score room' w.outcome in
        let c = scores.counted _ typed file names (numbers_in table) in_use room (written name start end edition) reads w.score room' w.outcome in
        let n : a.surplus ≡ 0 = rw w.told (c.3 ∙ omega (arith, surplus-is (rule_of edition) f.key typed, f.all)) in
        scored-tenths ∙ rw (right, hundred, n)
