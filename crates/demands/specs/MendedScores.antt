-- Mending a base (docs/RULES.md, R55) where exercises are scored: the score of an exercise that does not cover the mended base is as before, and so is all
-- of the lent room. What an exercise asks for, the row of its name and the bases from its start to its end, does not depend on the file's bases; so it
-- covers the base before and after, or neither (`ExerciseCovers`).
--
-- `score-elsewhere`: over the scorer's definition, with any table of the file's records. `scored-elsewhere`: at the entry points, with the table that
-- wakeluri_read_index leaves of an index that wakeluri_check accepts, and any names. `indexed-elsewhere`: with the table that wakeluri_index_file or
-- wakeluri_index_complete leaves, and the file itself lent for the names, before and after.
use Rattle.std.specs.Prelude.{ℕ, ◌*◌, ◌≤◌, ◌<◌, ◌≡◌, List, cond, length, set, Result, Ok, Err}
use Rattle.std.proofs.Math.Path.{refl, ap}
use Rattle.std.proofs.Common.{sym, ◌∙◌, length-set}
use Rattle.refusal.specs.declared.Refusal.{Refusal}
use Rattle.scoring.specs.declared.Score.{Score}
use Rattle.refusal.specs.declared.Refusal.TheVariants.{TooLong}
use Rattle.output.specs.Outcome.{Outcome, leaves}
use Rattle.table.specs.Fill as fill
use Rattle.table.specs.Numbers.{numbers_in}
use Rattle.table.specs.Rows.{row_count, with_rows}
use Rattle.fitting.specs.Rules.{rule_of, rows_by, rows_in}
use Rattle.fitting.specs.declared.Rule.{Rule}
use Rattle.index.specs.Find.{row_read}
use Rattle.region.specs.Exact.{exact_read}
use Rattle.exercise.specs.declared.Exercise.{Exercise}
use Rattle.exercise.specs.Reading.{read_as}
use Rattle.scorer.specs.Scorer.{any_over, name_asked, asked_row, asked_by, asked_of, refuses_score, key_counted, first, last, row_scored, asked_scored, scorer_of}
use Rattle.checker.specs.Mend.{BaseAt, Plain}
use Rattle.mission.specs.IndexedLaws.{Taken, taken}
use Rattle.mission.specs.Leading.{row_in}
use Rattle.mission.specs.TableOf.{record_count, Fits, Gives, TableOf}
use Rattle.mission.specs.Tables.{indexed-gives}
use Rattle.mission.specs.Covers.{Covers}
use Rattle.mission.specs.Mending.{mended-elsewhere}
use Rattle.mission.specs.MendedNames.{indexed-look-up}
use Rattle.wakeluri.specs.declared.answer.Answer.{Answer}
use Rattle.wakeluri.specs.declared.course.ScoreAnswer.{ScoreAnswer}
use Rattle.wakeluri.specs.Course.{scored_told}
use Rattle.demands.specs.Calls.{Check, ReadIndex, IndexFile, ScoreExercise}
use Rattle.demands.specs.Host.{AreBytes, row_bytes}
use Rattle.demands.specs.Laws.{found-ended, left-answer, left-numbers}
use Rattle.demands.specs.Chains.{index-ready, file-ready}
use Rattle.demands.specs.AtTheEdge.{check-exactly}

-- the bytes of an exercise cover base j + 1 of record k of a file: they read, the row that has their name is that of the record, and the base is from
-- their start to their end
pub record ExerciseCovers (f names t : List ℕ) (u : ℕ) (s : List ℕ) (k j : ℕ) : Type 0 where
  pub exercise : Exercise
  pub reads : read_as 2 s ≡ Ok exercise
  pub row : ℕ
  pub found : row_read names t u (name_asked s exercise) ≡ Ok row
  pub covers : Covers f k j row (first exercise) (last exercise)

module _ (f : List ℕ) (k j o b : ℕ) (base : BaseAt f k j o) (plain : Plain b) where
  -- with names in which every look_up finds the same
  kept : (s typed names names' t : List ℕ) (u : ℕ) (room : List ℕ) → TableOf f t u → (ExerciseCovers f names t u s k j → ⊥) → length names' ≡ length names
      → ((name : List ℕ) → row_read names' t u name ≡ row_read names t u name) → scorer_of s typed (set f o b) names' t u room ≡ scorer_of s typed f names t u room
  unfolding scorer_of any_over asked_of asked_by asked_row asked_scored row_scored exact_read
  kept s typed names names' t u room table not l same =
      rw (length-set f o b, l) (ap (cond (any_over s typed f names) (refuses_score TooLong room)) (go (read_as 2 s) refl))
    where
      row : (x : Exercise) → read_as 2 s ≡ Ok x → (r : Result ℕ Refusal) → row_read names t u (name_asked s x) ≡ r
          → asked_scored typed (set f o b) t u (asked_row x r) room ≡ asked_scored typed f t u (asked_row x r) room
      row x e (Err y) q = refl
      row x e (Ok r) q =
          let alike : exact_read (set f o b) t u r (first x) (last x) room ≡ exact_read f t u r (first x) (last x) room =
          mended-elsewhere f k j o b base plain t u table r (first x) (last x) room (λ c. not (record { exercise = x; reads = e; row = r; found = q; covers = c })) in
          ap (key_counted x.edition typed) alike

      go : (x : Result Exercise Refusal) → read_as 2 s ≡ x → asked_scored typed (set f o b) t u (asked_by s names' t u x) room ≡ asked_scored typed f t u (asked_by s names t u x) room
      go (Err y) e = refl
      go (Ok x) e = rw (same (name_asked s x)) (row x e (row_read names t u (name_asked s x)) refl)

  pub score-elsewhere : (s typed names t : List ℕ) (u : ℕ) (room : List ℕ) → TableOf f t u → (ExerciseCovers f names t u s k j → ⊥)
      → scorer_of s typed (set f o b) names t u room ≡ scorer_of s typed f names t u room
  score-elsewhere s typed names t u room table not = kept s typed names names t u room table not refl (λ name. refl)

-- ---- at the entry points

told_same : (o q : Outcome (Result Score Refusal)) (a c : ScoreAnswer) (room room' : List ℕ) → o ≡ q → leaves a room ≡ scored_told o → leaves c room' ≡ scored_told q → (a ≡ c) × (room ≡ room')
told_same o q a c room room' e h g =
    let same : leaves a room ≡ leaves c room' = h ∙ ap scored_told e ∙ sym g in
    (ap (λ (x : Outcome ScoreAnswer). x.answer) same, ap (λ (x : Outcome ScoreAnswer). x.output) same)

-- check, read the index, score; mend a base, score again
module _ (file index table table' : List ℕ) (checked filled : Answer) (bytes : AreBytes table) (check : Check file index checked) (zero : checked.refusal ≡ 0)
    (enough : record_count file * row_bytes ≤ length table) (read-in : ReadIndex index table filled table') (k j o b : ℕ) (base : BaseAt file k j o) (plain : Plain b) where
  pub scored-elsewhere : (s typed names room : List ℕ) (before after : ScoreAnswer) (room₁ room₂ : List ℕ)
      → ScoreExercise s typed file names table' filled.count room before room₁ → ScoreExercise s typed (set file o b) names table' filled.count room after room₂
      → (ExerciseCovers file names (numbers_in table') filled.count s k j → ⊥) → (after ≡ before) × (room₂ ≡ room₁)
  scored-elsewhere s typed names room before after room₁ room₂ one two not =
      let ready = index-ready file index table table' filled bytes ((check-exactly file index checked check).only_if zero) enough read-in in
      told_same _ _ after before room₂ room₁ (score-elsewhere file k j o b base plain s typed names (numbers_in table') filled.count room ready.table not) two one

-- index, score; mend a base, score again
module _ (rule : Rule) (file table table' : List ℕ) (filled : Answer) (bytes : AreBytes table) (indexed : IndexFile rule file table filled table') (zero : filled.refusal ≡ 0) (k j o b : ℕ)
    (base : BaseAt file k j o) (plain : Plain b) where
  -- what the call found, and left
  taken' : Taken (rule_of rule) file (row_count (numbers_in table))
  taken' = taken (rule_of rule) file (row_count (numbers_in table)) (found-ended filled table table' (rows_in rule file (row_count (numbers_in table))) indexed zero)

  gives : Gives file (rows_in rule file (row_count (numbers_in table))) (row_count (numbers_in table))
  gives = indexed-gives rule file (row_count (numbers_in table)) (found-ended filled table table' (rows_in rule file (row_count (numbers_in table))) indexed zero)

  found_rows : (rows_in rule file (row_count (numbers_in table))).rows ≡ (rows_by rule file 0).rows
  found_rows = ap (λ (r : fill.Found). r.rows) taken'.whole

  numbers : numbers_in table' ≡ with_rows (numbers_in table) 0 (rows_by rule file 0).rows
  numbers = rw found_rows at (left-numbers file table table' (rows_in rule file (row_count (numbers_in table))) filled bytes gives indexed)

  count : filled.count ≡ length (rows_by rule file 0).rows
  count = rw found_rows at (left-answer file table table' (rows_in rule file (row_count (numbers_in table))) filled bytes gives indexed).1

  fits : (r : ℕ) → r < length (rows_by rule file 0).rows → Fits (row_in (rows_by rule file 0).rows r)
  fits = rw found_rows at gives.rows.fits

  look_up : (name : List ℕ) → row_read (set file o b) (numbers_in table') filled.count name ≡ row_read file (numbers_in table') filled.count name
  look_up name = rw (numbers, count) (indexed-look-up file k j o b base plain rule (numbers_in table) taken'.room fits name)

  pub indexed-elsewhere : (s typed room : List ℕ) (before after : ScoreAnswer) (room₁ room₂ : List ℕ)
      → ScoreExercise s typed file file table' filled.count room before room₁ → ScoreExercise s typed (set file o b) (set file o b) table' filled.count room after room₂
      → (ExerciseCovers file file (numbers_in table') filled.count s k j → ⊥) → (after ≡ before) × (room₂ ≡ room₁)
  indexed-elsewhere s typed room before after room₁ room₂ one two not =
      let ready = file-ready rule file table table' filled bytes indexed zero in
      told_same _ _ after before room₂ room₁
      (kept file k j o b base plain s typed file (set file o b) (numbers_in table') filled.count room ready.table not (length-set file o b) look_up) two one
