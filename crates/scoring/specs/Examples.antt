-- Keys, what was typed, and what an independent model answers by each edition: one table, one proof.
use Rattle.std.specs.Prelude.{ℕ, ◌≡◌, refl, List, [], ◌∷◌}
use Rattle.ascii.specs.Text.{text}
use Rattle.letters.specs.Letters.{set_of}
use Rattle.letters.specs.Sets.{inside}
use Rattle.scoring.specs.Rules.{folded, same, coded, lies}
use Rattle.scoring.specs.Places.{count_below, right_of, wrong_of, missing_of, surplus_of, tenths, tenths_of, score_by}
use Rattle.scoring.specs.declared.Score.{Score}

-- by edition 1 and by edition 2
record Scores : Type 0 where
  first : Score
  second : Score

abbrev typed : List ℕ → List ℕ → Scores
typed key t = record { first = score_by same key t; second = score_by lies key t }

abbrev scores : Score → Score → Scores
scores a b = record { first = a; second = b }

-- right, wrong, missing, surplus, and the score
abbrev score : ℕ → ℕ → ℕ → ℕ → ℕ → Score
score r w m s n = record { right = r; wrong = w; missing = m; surplus = s; score = n }

unfoldable asked : List Scores
asked =
    typed (text "cTNUU") (text "Ttc")
    ∷ typed (text "SHK") (text "tN[aW")
    ∷ typed (140 ∷ 176 ∷ 209 ∷ 179 ∷ 88 ∷ 230 ∷ []) (140 ∷ 176 ∷ 185 ∷ 147 ∷ 40 ∷ [])
    ∷ typed (text "tc-") (text "TctW")
    ∷ typed (242 ∷ 18 ∷ 125 ∷ 250 ∷ []) (210 ∷ 243 ∷ 125 ∷ 64 ∷ [])
    ∷ typed (172 ∷ 151 ∷ 13 ∷ 237 ∷ 179 ∷ []) (172 ∷ 129 ∷ 13 ∷ 237 ∷ 218 ∷ [])
    ∷ typed (text "TC") (text "tCATCT")
    ∷ typed (text "**MBSW") (text "{")
    ∷ typed (text "gHM") (text "GHM[")
    ∷ []

unfoldable answers : List Scores
answers =
    scores (score 1 2 2 0 200) (score 2 1 2 0 400)
    ∷ scores (score 0 3 0 2 0) (score 0 3 0 2 0)
    ∷ scores (score 2 3 1 0 333) (score 2 3 1 0 333)
    ∷ scores (score 2 1 0 1 500) (score 2 1 0 1 500)
    ∷ scores (score 1 3 0 0 250) (score 1 3 0 0 250)
    ∷ scores (score 3 2 0 0 600) (score 3 2 0 0 600)
    ∷ scores (score 2 0 0 4 333) (score 2 0 0 4 333)
    ∷ scores (score 0 1 5 0 0) (score 0 1 5 0 0)
    ∷ scores (score 3 0 0 1 750) (score 3 0 0 1 750)
    ∷ []

examples : asked ≡ answers
unfolding asked answers set_of inside folded same coded lies count_below right_of wrong_of missing_of surplus_of tenths tenths_of score_by
examples = refl
