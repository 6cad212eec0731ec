-- Exercises field by field, and what an independent model answers for them: one table, one proof.
use Rattle.std.specs.Prelude.{ℕ, zero, suc, ◌/◌, ◌%◌, ◌^◌, ◌≡◌, refl, List, [], ◌∷◌, ◌++◌, map, length, Result, Ok, Err}
use Rattle.refusal.specs.declared.Refusal.{Refusal}
use Rattle.exercise.specs.declared.Exercise.{Exercise}
use Prim.Native.String.{String}
use Rattle.ascii.specs.Text.{text}
use Rattle.exercise.specs.Numbers.{big_from}
use Rattle.exercise.specs.Reading.{known_to, bad, name_field, start_field, end_field, edition_field, valued, sized, judge, ended, walk, says_from}
use Rattle.refusal.specs.declared.Refusal.TheVariants as refused

-- a field of less than 256 bytes: its tag, its length in two bytes, its bytes
abbrev field : ℕ → List ℕ → List ℕ
field tag bytes = tag ∷ 0 ∷ length bytes ∷ bytes

-- a number in so many bytes, high byte first
abbrev big : ℕ → ℕ → List ℕ
big zero n = []
big (suc k) n = n / 256 ^ k % 256 ∷ big k n

-- the four fields
abbrev name : String → List ℕ
name s = field 1 (text s)

abbrev start : ℕ → List ℕ
start n = field 2 (big 8 n)

abbrev end : ℕ → List ℕ
end n = field 3 (big 8 n)

abbrev edition : ℕ → List ℕ
edition n = field 4 (n ∷ [])

-- bases 1 to 9 of chr1, by an edition
abbrev chr1 : ℕ → List ℕ
chr1 n = name "chr1" ++ start 1 ++ end 9 ++ edition n

-- what is read: the name's place, the bounds, the edition
abbrev reads : ℕ → ℕ → ℕ → ℕ → ℕ → Result Exercise Refusal
reads at n a e edition = Ok (record { name_start = at; name_length = n; start = a; end = e; edition = edition })

abbrev malformed : ℕ → Result Exercise Refusal
malformed at = Err (refused.MalformedExercise at)

unfoldable asked : List (List ℕ)
asked =
    []
    -- editions 1 and 2 are known
    ∷ (chr1 1)
    ∷ (chr1 2)
    ∷ (chr1 3)
    ∷ (chr1 0)
    -- an empty name; bounds are not judged
    ∷ (name "" ++ start 1 ++ end 9 ++ edition 1)
    ∷ (name "chr1" ++ start 18446744073709551615 ++ end 0 ++ edition 1)
    -- a tag from 128 on is refused at once, without its length
    ∷ (128 ∷ [])
    -- less bytes than the field says
    ∷ (1 ∷ [])
    ∷ (1 ∷ 0 ∷ [])
    ∷ (1 ∷ 0 ∷ 5 ∷ text "ab")
    -- out of order, or twice
    ∷ (start 0 ++ chr1 1)
    ∷ (chr1 1 ++ chr1 1)
    -- other tags below 128 are passed over, before, behind and between
    ∷ (field 0 (text "zz") ++ chr1 2)
    ∷ (chr1 1 ++ field 127 [])
    ∷ (chr1 1 ++ 255 ∷ [])
    ∷ (5 ∷ 0 ∷ 1 ∷ [])
    ∷ (name "chr1" ++ field 9 [] ++ start 1 ++ end 9 ++ edition 1)
    -- one is missing; a start of 7 bytes; an edition of 2
    ∷ (name "chr1" ++ start 1 ++ end 9)
    ∷ (name "" ++ field 2 (big 7 0))
    ∷ (name "chr1" ++ start 1 ++ end 9 ++ field 4 (1 ∷ 1 ∷ []))
    ∷ (name "" ++ 128 ∷ [])
    ∷ []

unfoldable answers : List (Result Exercise Refusal)
answers =
    malformed 0
    ∷ reads 3 4 1 9 1
    ∷ reads 3 4 1 9 2
    ∷ Err (refused.UnknownEdition 29)
    ∷ Err (refused.UnknownEdition 29)
    ∷ reads 3 0 1 9 1
    ∷ reads 3 4 18446744073709551615 0 1
    ∷ Err (refused.UnknownNeededTag 0)
    ∷ malformed 0
    ∷ malformed 0
    ∷ malformed 0
    ∷ malformed 0
    ∷ malformed 33
    ∷ reads 8 4 1 9 2
    ∷ reads 3 4 1 9 1
    ∷ Err (refused.UnknownNeededTag 33)
    ∷ malformed 0
    ∷ reads 3 4 1 9 1
    ∷ malformed 29
    ∷ malformed 3
    ∷ malformed 29
    ∷ Err (refused.UnknownNeededTag 3)
    ∷ []

examples : map (says_from 2) asked ≡ answers
unfolding asked answers big_from known_to bad name_field start_field end_field edition_field valued sized judge ended walk says_from
examples = refl
