-- The counts of a key and what was typed, for any rule of what is right, each by a rule of its own over places; and the score.
use Rattle.std.specs.Prelude.{ℕ, zero, suc, ◌+◌, ◌*◌, ◌/◌, Bool, cond, not, ◌&&◌, List, eqb, ltb, length, get_or, Result, Ok, Err}
use Rattle.refusal.specs.declared.Refusal.{Refusal}
use Rattle.refusal.specs.Numbers.{over_limit}
use Rattle.refusal.specs.declared.Refusal.TheVariants.{TooLong, UnknownEdition}
use Rattle.letters.specs.Sets.{bit}
use Rattle.scoring.specs.Rules.{same, lies}
use Rattle.scoring.specs.declared.Score.{Score}

-- how many of the numbers below n pass a test
unfoldable pub count_below : (ℕ → Bool) → ℕ → ℕ
count_below f zero = 0
count_below f (suc n) = count_below f n + bit (f n)

-- something was typed at a place
abbrev pub typed_at : List ℕ → ℕ → Bool
typed_at typed p = ltb p (length typed)

-- a place of the key is right, wrong, or missing; a place of what was typed is surplus
abbrev pub is_right : (ℕ → ℕ → Bool) → List ℕ → List ℕ → ℕ → Bool
is_right rule key typed p = typed_at typed p && rule (get_or key p 0) (get_or typed p 0)

abbrev pub is_wrong : (ℕ → ℕ → Bool) → List ℕ → List ℕ → ℕ → Bool
is_wrong rule key typed p = typed_at typed p && not (rule (get_or key p 0) (get_or typed p 0))

abbrev pub is_missing : List ℕ → ℕ → Bool
is_missing typed p = not (typed_at typed p)

abbrev pub is_surplus : List ℕ → ℕ → Bool
is_surplus key p = not (ltb p (length key))

-- how many places of the key, or of what was typed, are so
unfoldable pub right_of : (ℕ → ℕ → Bool) → List ℕ → List ℕ → ℕ
right_of rule key typed = count_below (is_right rule key typed) (length key)

unfoldable pub wrong_of : (ℕ → ℕ → Bool) → List ℕ → List ℕ → ℕ
wrong_of rule key typed = count_below (is_wrong rule key typed) (length key)

unfoldable pub missing_of : List ℕ → List ℕ → ℕ
missing_of key typed = count_below (is_missing typed) (length key)

unfoldable pub surplus_of : List ℕ → List ℕ → ℕ
surplus_of key typed = count_below (is_surplus key) (length typed)

-- tenths of a percent, rounded down; 0 of nothing
unfoldable pub tenths : ℕ → ℕ → ℕ
tenths right zero = 0
tenths right (suc n) = 1000 * right / suc n

-- of what was asked and what is surplus, whatever was typed
unfoldable pub tenths_of : (ℕ → ℕ → Bool) → List ℕ → List ℕ → ℕ
tenths_of rule key typed = tenths (right_of rule key typed) (length key + surplus_of key typed)

unfoldable pub score_by : (ℕ → ℕ → Bool) → List ℕ → List ℕ → Score
score_by rule key typed = record {
  right = right_of rule key typed;
  wrong = wrong_of rule key typed;
  missing = missing_of key typed;
  surplus = surplus_of key typed;
  score = tenths_of rule key typed;
}

-- the call with a key that was fetched: 1 for what was typed, then 33
unfoldable pub key_scored : List ℕ → List ℕ → ℕ → Result Score Refusal
key_scored key typed edition =
    cond (over_limit (length typed)) (Err TooLong)
    (cond (eqb edition 1) (Ok (score_by same key typed))
    (cond (eqb edition 2) (Ok (score_by lies key typed)) (Err (UnknownEdition 0))))

-- the call with a key that is lent: 1 for it first
unfoldable pub scored_as : List ℕ → List ℕ → ℕ → Result Score Refusal
scored_as key typed edition = cond (over_limit (length key)) (Err TooLong) (key_scored key typed edition)
