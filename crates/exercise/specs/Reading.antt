-- What some bytes say as an exercise: tagged fields, judged from the front; the first fault decides.
use Rattle.std.specs.Prelude.{ℕ, zero, suc, ◌+◌, ◌*◌, Bool, cond, not, ◌&&◌, List, [], ◌∷◌, eqb, ltb, leb, length, take, get_or, Result, Ok, Err}
use Rattle.refusal.specs.declared.Refusal.{Refusal}
use Rattle.exercise.specs.declared.Exercise.{Exercise}
use Rattle.refusal.specs.Numbers.{over_limit}
use Rattle.refusal.specs.declared.Refusal.TheVariants.{TooLong, MalformedExercise, UnknownNeededTag, UnknownEdition}
use Rattle.exercise.specs.Numbers.{big_from}
use Rattle.exercise.specs.declared.Kept.{Kept}

-- a reader that knows the editions from 1 to a newest
unfoldable pub known_to : ℕ → ℕ → Bool
known_to newest e = not (eqb e 0) && leb e newest

-- ---- one field: what is kept before it, its offset, its length, and its bytes

unfoldable pub bad : ℕ → Result (Kept × ℕ) Refusal
bad at = Err (MalformedExercise at)

unfoldable pub name_field : Kept → ℕ → ℕ → Result (Kept × ℕ) Refusal
name_field h at n =
    cond (eqb h.wanted 1)
    (Ok ((record { wanted = 2; name_start = at + 3; name_length = n; start = h.start; end = h.end; edition = h.edition }), n))
    (bad at)

unfoldable pub start_field : Kept → ℕ → ℕ → List ℕ → Result (Kept × ℕ) Refusal
start_field h at n s =
    cond (eqb h.wanted 2)
    (cond (eqb n 8)
    (Ok ((record { wanted = 3; name_start = h.name_start; name_length = h.name_length; start = big_from 0 s; end = h.end; edition = h.edition }), n))
    (bad at))
    (bad at)

unfoldable pub end_field : Kept → ℕ → ℕ → List ℕ → Result (Kept × ℕ) Refusal
end_field h at n s =
    cond (eqb h.wanted 3)
    (cond (eqb n 8)
    (Ok ((record { wanted = 4; name_start = h.name_start; name_length = h.name_length; start = h.start; end = big_from 0 s; edition = h.edition }), n))
    (bad at))
    (bad at)

unfoldable pub edition_field : ℕ → Kept → ℕ → ℕ → List ℕ → Result (Kept × ℕ) Refusal
edition_field newest h at n s =
    cond (eqb h.wanted 4)
    (cond (eqb n 1)
    (cond (known_to newest (get_or s 0 0))
    (Ok ((record { wanted = 5; name_start = h.name_start; name_length = h.name_length; start = h.start; end = h.end; edition = get_or s 0 0 }), n))
    (Err (UnknownEdition at)))
    (bad at))
    (bad at)

-- by its tag; a tag other than the four is passed over
unfoldable pub valued : ℕ → Kept → ℕ → ℕ → ℕ → List ℕ → Result (Kept × ℕ) Refusal
valued newest h at tag n s =
    cond (eqb tag 1) (name_field h at n)
    (cond (eqb tag 2) (start_field h at n s)
    (cond (eqb tag 3) (end_field h at n s)
    (cond (eqb tag 4) (edition_field newest h at n s) (Ok (h, n)))))

-- its length, high byte first, if its bytes are all there
unfoldable pub sized : ℕ → Kept → ℕ → ℕ → List ℕ → Result (Kept × ℕ) Refusal
sized newest h at tag [] = bad at
sized newest h at tag (a ∷ []) = bad at
sized newest h at tag (a ∷ b ∷ s) = cond (ltb (length s) (a * 256 + b)) (bad at) (valued newest h at tag (a * 256 + b) (take (a * 256 + b) s))

-- a tag from 128 on is refused as soon as it is met
unfoldable pub judge : ℕ → Kept → ℕ → ℕ → List ℕ → Result (Kept × ℕ) Refusal
judge newest h at tag s = cond (ltb tag 128) (sized newest h at tag s) (Err (UnknownNeededTag at))

-- ---- all fields

-- at the end, at an offset: all four were there, or the next of them is missing
unfoldable pub ended : Kept → ℕ → Result Exercise Refusal
ended h at =
    cond (eqb h.wanted 5)
    (Ok (record { name_start = h.name_start; name_length = h.name_length; start = h.start; end = h.end; edition = h.edition }))
    (Err (MalformedExercise at))

abbrev pub begun : Kept
begun = record { wanted = 1; name_start = 0; name_length = 0; start = 0; end = 0; edition = 0 }

-- behind a field
abbrev pub kept_by : Result (Kept × ℕ) Refusal → Kept
kept_by (Ok (h, n)) = h
kept_by (Err r) = begun

abbrev pub length_by : Result (Kept × ℕ) Refusal → ℕ
length_by (Ok (h, n)) = n
length_by (Err r) = 0

abbrev pub unless : Result (Kept × ℕ) Refusal → Result Exercise Refusal → Result Exercise Refusal
unless (Ok (h, n)) x = x
unless (Err r) x = Err r

-- from an offset on, where k bytes more belong to the field before
unfoldable pub walk : ℕ → Kept → ℕ → ℕ → List ℕ → Result Exercise Refusal
walk newest h at k [] = ended h at
walk newest h at zero (tag ∷ s) =
    unless (judge newest h at tag s) (walk newest (kept_by (judge newest h at tag s)) (suc at) (2 + length_by (judge newest h at tag s)) s)
walk newest h at (suc k) (b ∷ s) = walk newest h (suc at) k s

unfoldable pub says_from : ℕ → List ℕ → Result Exercise Refusal
says_from newest s = walk newest begun 0 0 s

-- the call: the size limit first
unfoldable pub read_as : ℕ → List ℕ → Result Exercise Refusal
read_as newest s = cond (over_limit (length s)) (Err TooLong) (says_from newest s)
