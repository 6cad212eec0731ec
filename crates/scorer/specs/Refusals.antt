-- The refusals of the scorer: which it gives, in their order, each exactly in its case.
--
-- `refused-only-if`, `refused-if`: the scorer refuses with f exactly if `Refuses` says so: 1 if one of the lent inputs is too long; else the first
-- fault of the exercise's fields (31, 32, 33); else the refusal of looking up its name (25, 15); else that of the exact read of its bounds (16, 17,
-- 14, 18). In each case the room is as it was (`unchanged` in Known.antt).
use Rattle.std.specs.Prelude.{ℕ, ◌≡◌, List, true, false, Result, Ok, Err}
use Rattle.std.proofs.Math.Path.{sym}
use Rattle.std.proofs.Common.{ap, ◌∙◌}
use Rattle.scoring.specs.declared.Score.{Score}
use Rattle.refusal.specs.declared.Refusal.{Refusal}
use Rattle.refusal.specs.declared.Refusal.TheVariants.{TooLong}
use Rattle.output.specs.Outcome.{Outcome, leaves, refuses}
use Rattle.table.specs.Rows.{held_at}
use Rattle.index.specs.Find.{row_read}
use Rattle.region.specs.Exact.{exact_read}
use Rattle.exercise.specs.declared.Exercise.{Exercise}
use Rattle.exercise.specs.Reading.{read_as}
use Rattle.exercise.specs.FirstFault.{FirstFault}
use Rattle.exercise.specs.Faults as exercise
use Rattle.exercise.specs.Within.{read-sound, known_two}
use Rattle.scorer.specs.Scorer.{any_over, name_asked, refuses_score, first, last, scorer_of}
use Rattle.scorer.specs.Laws.{says, asked-unread, asked-unfound, asked-found, scorer-long, scorer-refused, scorer-row}
use Rattle.scorer.specs.Known.{typed-small, refused-read, read-refused, Either, either}
use Rattle.scorer.specs.Known.Either.{too-long, unread, unfound, row-found}

-- why there is no score
pub data Refuses (s typed file names t : List ℕ) (u : ℕ) (room : List ℕ) : Refusal → Type 0 where
  long : any_over s typed file names ≡ true → Refuses s typed file names t u room TooLong
  of-exercise : (f : Refusal) → any_over s typed file names ≡ false → FirstFault 2 s f → Refuses s typed file names t u room f
  of-look-up : (f : Refusal) (x : Exercise) → any_over s typed file names ≡ false → read_as 2 s ≡ Ok x → row_read names t u (name_asked s x) ≡ Err f
      → Refuses s typed file names t u room f
  of-read : (f : Refusal) (x : Exercise) (r : ℕ) → any_over s typed file names ≡ false → read_as 2 s ≡ Ok x → row_read names t u (name_asked s x) ≡ Ok r
      → exact_read file t u r (first x) (last x) room ≡ refuses f room → Refuses s typed file names t u room f

refusal-same : {f g : Refusal} → ◌≡◌ {A = Result Score Refusal} (Err f) (Err g) → f ≡ g
refusal-same q = cc

module _ (s typed file names t : List ℕ) (u : ℕ) (room : List ℕ) where
  pub refused-only-if : (f : Refusal) (after : List ℕ) → scorer_of s typed file names t u room ≡ leaves (Err f) after → Refuses s typed file names t u room f
  unfolding exact_read
  refused-only-if f after q = go (either s typed file names t u room)
    where
      is : {g : Refusal} → scorer_of s typed file names t u room ≡ refuses_score g room → g ≡ f
      is e = refusal-same (ap (λ (y : Outcome (Result Score Refusal)). y.answer) (sym e ∙ q))

      go : Either s typed file names t u room → Refuses s typed file names t u room f
      go (too-long l e) = rw (← is e) (long l)
      go (unread g l r e) = of-exercise f l (exercise.refused-only-if 2 s f (r ∙ ap Err (is e)))
      go (unfound g x l r d e) = of-look-up f x l r (d ∙ ap Err (is e))
      go (row-found x r l p d e) =
          of-read f x r l p d
          (read-refused x typed file (held_at t u r) room (typed-small s typed file names l) (known_two x.edition (read-sound 2 s x (says 2 s x p)).edition) f after (sym e ∙ q))

  pub refused-if : (f : Refusal) → Refuses s typed file names t u room f → scorer_of s typed file names t u room ≡ refuses_score f room
  unfolding exact_read
  refused-if _ (long l) = sym (scorer-long s typed file names t u room l)
  refused-if _ (of-exercise f l r) = sym (scorer-refused s typed file names t u room l f (sym (asked-unread s names t u f (exercise.refused-if 2 s f r))))
  refused-if _ (of-look-up f x l r d) = sym (scorer-refused s typed file names t u room l f (sym (asked-unfound s names t u x r f d)))
  refused-if _ (of-read f x r l p d e) = sym (scorer-row s typed file names t u room l x r (sym (asked-found s names t u x p r d))) ∙ refused-read x typed file (held_at t u r) room f e
