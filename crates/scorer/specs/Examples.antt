-- The user's case, computed: a hundred bases asked, fifty typed, 49 of them right. The score is 490, never 980; and if only fifty bases are left
-- there is no key and no score.
use Rattle.std.specs.Prelude.{ℕ, ◌≡◌, refl, List, [], ◌∷◌, ◌++◌, Result, Ok, Err}
use Rattle.refusal.specs.declared.Refusal.{Refusal}
use Rattle.scoring.specs.declared.Score.{Score}
use Rattle.ascii.specs.Text.{text}
use Rattle.refusal.specs.Numbers.{over_limit}
use Rattle.refusal.specs.declared.Refusal.TheVariants.{PastLength}
use Rattle.output.specs.Outcome.{Outcome, leaves}
use Rattle.record.specs.Place.{place_of, places_from}
use Rattle.lines.specs.Same.{same_bytes}
use Rattle.table.specs.Rows.{row_count, row_at, used_at, sound_row, held_of, held_at, named_in, named_of, named_at}
use Rattle.index_line.specs.IndexLine.{name_in}
use Rattle.index.specs.Find.{named, row_from, row_named, row_read}
use Rattle.region.specs.Region.{is_zero, crossed, bad_bounds, bounded_row, start_of, end_of}
use Rattle.region.specs.Exact.{in_file, past_length, bytes_at, bases_from, region_of, exact_in, exact_of, exact_held}
use Rattle.exercise.specs.Numbers.{big_from, big_bytes}
use Rattle.exercise.specs.Reading.{known_to, bad, name_field, start_field, end_field, edition_field, valued, sized, judge, ended, walk, says_from, read_as}
use Rattle.exercise.specs.Writing.{text_of}
use Rattle.letters.specs.Letters.{set_of}
use Rattle.letters.specs.Sets.{inside}
use Rattle.scoring.specs.Rules.{folded, same, coded, lies}
use Rattle.scoring.specs.Places.{count_below, right_of, wrong_of, missing_of, surplus_of, tenths, tenths_of, score_by, key_scored}
use Rattle.scoring.specs.Theorems.{copies}
use Rattle.scorer.specs.Scorer.{any_over, asked_row, asked_by, asked_of, counted_as, key_counted, row_scored, asked_scored, scorer_of}

-- a file of one record of n bases, all A, and its row
abbrev drill : ℕ → List ℕ
drill n = text ">s\n" ++ (copies n 65 ++ text "\n")

abbrev row : ℕ → List ℕ
row n = 1 ∷ 1 ∷ n ∷ 3 ∷ 100 ∷ 101 ∷ 0 ∷ 0 ∷ []

-- bases 1 to 100 of s, of a record that has so many; 49 of them typed right, and one wrong
abbrev typed_of : ℕ → ℕ → Outcome (Result Score Refusal)
typed_of edition n = scorer_of (text_of (text "s") 1 100 edition) (copies 49 97 ++ text "C") (drill n) (drill n) (row n) 1 (copies 102 46)

unfoldable pub asked : List (Outcome (Result Score Refusal))
asked = typed_of 1 100 ∷ typed_of 2 100 ∷ typed_of 1 50 ∷ typed_of 2 50 ∷ []

unfoldable pub answers : List (Outcome (Result Score Refusal))
answers =
    leaves (Ok (record { right = 49; wrong = 1; missing = 50; surplus = 0; score = 490 })) (copies 100 65 ++ text "..")
    ∷ leaves (Ok (record { right = 49; wrong = 1; missing = 50; surplus = 0; score = 490 })) (copies 100 65 ++ text "..")
    ∷ leaves (Err (PastLength 50)) (copies 102 46)
    ∷ leaves (Err (PastLength 50)) (copies 102 46)
    ∷ []

pub users-case : asked ≡ answers
unfolding asked answers over_limit place_of places_from same_bytes row_count row_at used_at sound_row held_of held_at named_in named_of named_at name_in named row_from row_named row_read is_zero crossed bad_bounds bounded_row start_of end_of in_file past_length bytes_at bases_from region_of exact_in exact_of exact_held big_from big_bytes known_to bad name_field start_field end_field edition_field valued sized judge ended walk says_from read_as text_of set_of inside folded same coded lies count_below right_of wrong_of missing_of surplus_of tenths tenths_of score_by key_scored any_over asked_row asked_by asked_of counted_as key_counted row_scored asked_scored scorer_of
users-case = refl
