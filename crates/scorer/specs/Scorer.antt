-- What the scorer answers, and what it leaves in the lent room: 1 first, for everything lent; then the exercise, the look-up and the read, each
-- with its own refusals; then the score.
use Rattle.std.specs.Prelude.{ℕ, List, Bool, cond, ◌||◌, length, take, drop, Option, Some, Result, Ok, Err}
use Rattle.record.specs.declared.Record.{Record}
use Rattle.record.specs.declared.Position.{Position}
use Rattle.scoring.specs.declared.Score.{Score}
use Rattle.refusal.specs.Numbers.{over_limit}
use Rattle.refusal.specs.declared.Refusal.{Refusal}
use Rattle.refusal.specs.declared.Refusal.TheVariants.{TooLong}
use Rattle.output.specs.Outcome.{Outcome, leaves}
use Rattle.table.specs.Rows.{held_at}
use Rattle.index.specs.Find.{row_read}
use Rattle.region.specs.Exact.{exact_held}
use Rattle.exercise.specs.declared.Exercise.{Exercise}
use Rattle.exercise.specs.Reading.{read_as}
use Rattle.scoring.specs.Places.{key_scored}

-- is one of the lent inputs over the limit: the exercise, what was typed, the file, the names
unfoldable pub any_over : List ℕ → List ℕ → List ℕ → List ℕ → Bool
any_over s typed file names = over_limit (length s) || (over_limit (length typed) || (over_limit (length file) || over_limit (length names)))

-- ---- what is asked

-- the name in the bytes of an exercise
abbrev pub name_asked : List ℕ → Exercise → List ℕ
name_asked s x = take x.name_length (drop x.name_start s)

-- the exercise with the row that was found
unfoldable pub asked_row : Exercise → Result ℕ Refusal → Result (Exercise × ℕ) Refusal
asked_row x (Err f) = Err f
asked_row x (Ok r) = Ok (x, r)

-- what is read is looked up
unfoldable pub asked_by : List ℕ → List ℕ → List ℕ → ℕ → Result Exercise Refusal → Result (Exercise × ℕ) Refusal
asked_by s names t u (Err f) = Err f
asked_by s names t u (Ok x) = asked_row x (row_read names t u (name_asked s x))

-- 31 to 33, then 25 and 15
unfoldable pub asked_of : List ℕ → List ℕ → List ℕ → ℕ → Result (Exercise × ℕ) Refusal
asked_of s names t u = asked_by s names t u (read_as 2 s)

-- ---- its score

-- refused: the room is as it was
abbrev pub refuses_score : Refusal → List ℕ → Outcome (Result Score Refusal)
refuses_score f room = leaves (Err f) room

-- the key is what the read put at the front of the room: what was typed is counted against it
unfoldable pub counted_as : ℕ → List ℕ → Result ℕ Refusal → List ℕ → Result Score Refusal
counted_as edition typed (Ok n) room = key_scored (take n room) typed edition
counted_as edition typed (Err f) room = Err f

unfoldable pub key_counted : ℕ → List ℕ → Outcome (Result ℕ Refusal) → Outcome (Result Score Refusal)
key_counted edition typed o = leaves (counted_as edition typed o.answer o.output) o.output

-- the bounds of an exercise, both given
abbrev pub first : Exercise → Option Position
first x = Some (record { 0 = x.start })

abbrev pub last : Exercise → Option Position
last x = Some (record { 0 = x.end })

-- an exercise about what a row holds
unfoldable pub row_scored : Exercise → List ℕ → List ℕ → Result Record Refusal → List ℕ → Outcome (Result Score Refusal)
row_scored x typed file h room = key_counted x.edition typed (exact_held file h (first x) (last x) room)

unfoldable pub asked_scored : List ℕ → List ℕ → List ℕ → ℕ → Result (Exercise × ℕ) Refusal → List ℕ → Outcome (Result Score Refusal)
asked_scored typed file t u (Err f) room = refuses_score f room
asked_scored typed file t u (Ok (x, r)) room = row_scored x typed file (held_at t u r) room

-- the call
unfoldable pub scorer_of : List ℕ → List ℕ → List ℕ → List ℕ → List ℕ → ℕ → List ℕ → Outcome (Result Score Refusal)
scorer_of s typed file names t u room = cond (any_over s typed file names) (refuses_score TooLong room) (asked_scored typed file t u (asked_of s names t u) room)
