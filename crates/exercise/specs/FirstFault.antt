-- What each refusal of an exercise means, by the places of its fields and without the reader's walk. Fields are judged from the front, and the
-- first fault decides (R49 of docs/RULES.md). Faults.antt shows that the reader refuses exactly so.
use Rattle.std.specs.Prelude.{ℕ, zero, suc, ◌+◌, ◌*◌, ◌≤◌, ◌<◌, ◌≡◌, true, false, List, length, take, drop, get_or}
use Rattle.refusal.specs.declared.Refusal.{Refusal}
use Rattle.refusal.specs.declared.Refusal.TheVariants.{TooLong, MalformedExercise, UnknownNeededTag, UnknownEdition}
use Rattle.exercise.specs.Numbers.{big_from}
use Rattle.exercise.specs.Reading.{known_to}
use Rattle.exercise.specs.declared.Exercise.{Exercise}

-- ---- the fields of some bytes, from 0: a tag, a length of two bytes, high byte first, and so many bytes

-- how many bytes the field at an offset has behind its length
abbrev pub size_from : List ℕ → ℕ → ℕ
size_from s at = get_or s (at + 1) 0 * 256 + get_or s (at + 2) 0

-- where field k begins: the first at the front, each other behind the one before it
unfoldable pub field_at : List ℕ → ℕ → ℕ
field_at s zero = 0
field_at s (suc k) = field_at s k + 3 + size_from s (field_at s k)

-- its tag, its length, its bytes
abbrev pub tag_of : List ℕ → ℕ → ℕ
tag_of s k = get_or s (field_at s k) 0

abbrev pub size_of : List ℕ → ℕ → ℕ
size_of s k = size_from s (field_at s k)

abbrev pub value_of : List ℕ → ℕ → List ℕ
value_of s k = take (size_of s k) (drop (field_at s k + 3) s)

-- ---- a field is good

-- the four: 1 name, 2 start, 3 end, 4 edition
pub record Four (tag : ℕ) : Type 0 where
  pub least : 1 ≤ tag
  pub most : tag ≤ 4

-- one of the first r fields has a tag
pub record Stands (s : List ℕ) (r tag : ℕ) : Type 0 where
  pub place : ℕ
  pub before : place < r
  pub tagged : tag_of s place ≡ tag

-- field r is in its turn: each of the four before it has a smaller tag, and none of those is missing
pub record InTurn (s : List ℕ) (r : ℕ) : Type 0 where
  pub rising : (j : ℕ) → j < r → Four (tag_of s j) → tag_of s j < tag_of s r
  pub complete : (tag : ℕ) → 1 ≤ tag → tag < tag_of s r → Stands s r tag

-- start and end have 8 bytes, an edition has 1
pub record RightSize (tag size : ℕ) : Type 0 where
  pub start : tag ≡ 2 → size ≡ 8
  pub end : tag ≡ 3 → size ≡ 8
  pub edition : tag ≡ 4 → size ≡ 1

-- field r is whole, and what its tag asks for; a tag below 128 that is not of the four asks for nothing
pub record Good (newest : ℕ) (s : List ℕ) (r : ℕ) : Type 0 where
  pub unneeded : tag_of s r < 128
  pub whole : field_at s (suc r) ≤ length s
  pub turn : Four (tag_of s r) → InTurn s r
  pub size : RightSize (tag_of s r) (size_of s r)
  pub known : tag_of s r ≡ 4 → known_to newest (get_or (value_of s r) 0 0) ≡ true

-- ---- a field is wrong; its offset comes with the refusal

pub data FieldFault (newest : ℕ) (s : List ℕ) (r : ℕ) : Refusal → Type 0 where
  -- 32: a tag from 128 on, whatever follows it
  needed : 128 ≤ tag_of s r → FieldFault newest s r (UnknownNeededTag (field_at s r))
  -- 31: it is cut off
  cut_off : tag_of s r < 128 → length s < field_at s (suc r) → FieldFault newest s r (MalformedExercise (field_at s r))
  -- 31: it is one of the four, and out of its turn
  out-of-turn : tag_of s r < 128 → field_at s (suc r) ≤ length s → Four (tag_of s r) → (InTurn s r → ⊥) → FieldFault newest s r (MalformedExercise (field_at s r))
  -- 31: it is in its turn, and has another size
  wrong_size : tag_of s r < 128 → field_at s (suc r) ≤ length s → InTurn s r → (RightSize (tag_of s r) (size_of s r) → ⊥)
      → FieldFault newest s r (MalformedExercise (field_at s r))
  -- 33: it is an edition, in its turn and of one byte, that is not known
  other-edition : field_at s (suc r) ≤ length s → tag_of s r ≡ 4 → InTurn s r → size_of s r ≡ 1 → known_to newest (get_or (value_of s r) 0 0) ≡ false
      → FieldFault newest s r (UnknownEdition (field_at s r))

-- ---- all of an exercise

abbrev pub limit : ℕ
limit = 1099511627776

-- some bytes have a first fault
pub data FirstFault (newest : ℕ) (s : List ℕ) : Refusal → Type 0 where
  -- 1
  long : limit < length s → FirstFault newest s TooLong
  -- 31 to 33: field r is wrong, and all before it are good
  wrong-field : {x : Refusal} → length s ≤ limit → (r : ℕ) → ((k : ℕ) → k < r → Good newest s k) → field_at s r < length s → FieldFault newest s r x → FirstFault newest s x
  -- 31 at the end: all r fields are good, and one of the four is missing
  missing : length s ≤ limit → (r : ℕ) → ((k : ℕ) → k < r → Good newest s k) → field_at s r ≡ length s → (tag : ℕ) → Four tag → (Stands s r tag → ⊥)
      → FirstFault newest s (MalformedExercise (length s))

-- they have none: they are r good fields, and all of the four are among them
pub record Faultless (newest : ℕ) (s : List ℕ) : Type 0 where
  pub fit : length s ≤ limit
  pub fields : ℕ
  pub good : (k : ℕ) → k < fields → Good newest s k
  pub end : field_at s fields ≡ length s
  pub all : (tag : ℕ) → Four tag → Stands s fields tag

-- what they then say: the four fields, and what each holds
pub record Says (s : List ℕ) (x : Exercise) : Type 0 where
  pub name : ℕ
  pub name-tag : tag_of s name ≡ 1
  pub name-start : x.name_start ≡ field_at s name + 3
  pub name-length : x.name_length ≡ size_of s name
  pub start : ℕ
  pub start-tag : tag_of s start ≡ 2
  pub start-value : x.start ≡ big_from 0 (value_of s start)
  pub end : ℕ
  pub end-tag : tag_of s end ≡ 3
  pub end-value : x.end ≡ big_from 0 (value_of s end)
  pub edition : ℕ
  pub edition-tag : tag_of s edition ≡ 4
  pub edition-value : x.edition ≡ get_or (value_of s edition) 0 0
