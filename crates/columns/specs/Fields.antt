-- A line of a name and numbers with tabs between, read by fields from the left, and written.
use Rattle.std.specs.Prelude.{ℕ, zero, suc, List, [], ◌∷◌, ◌++◌, map, Bool, true, cond, ◌&&◌, ◌||◌, length, eqb, ltb, Option, Some, None, Result, Ok, Err}
use Rattle.columns.specs.declared.fields.Field.{Field}
use Rattle.refusal.specs.declared.Refusal.{Refusal}
use Rattle.refusal.specs.Numbers.{over_limit}
use Rattle.refusal.specs.declared.Refusal.TheVariants.{TooLong, FieldAbsent, NotANumber, ZeroField, NameSplit}
use Rattle.lines.specs.Lines.{onto}
use Rattle.columns.specs.Bytes.{is, first_where}
use Rattle.columns.specs.Decimal.{number_of, plain_number, decimal_of}
use Rattle.output.specs.Outcome.{Outcome, refuses, pours}

-- ---- reading

-- some bytes cut at their first k tabs; the last field is all the rest
unfoldable pub cut_at : ℕ → List ℕ → List (List ℕ)
cut_at zero l = l ∷ []
cut_at (suc k) [] = [] ∷ []
cut_at (suc k) (b ∷ l) = cond (eqb b 9) ([] ∷ cut_at k l) (onto b (cut_at (suc k) l))

-- 0 is refused in field 4 and in field 5
abbrev pub zero_barred : ℕ → ℕ → Bool
zero_barred place value = eqb value 0 && (eqb place 4 || eqb place 5)

-- what a number says in its place of a line, where its field has so many bytes and is plain or not
abbrev pub placed : ℕ → ℕ → ℕ → Bool → Option ℕ → Result Field Refusal
placed line place n plain None = Err (NotANumber line place)
placed line place n plain (Some v) = cond (zero_barred place v) (Err (ZeroField line place)) (Ok (record { value = v; length = n; plain = plain }))

-- what a field says in its place of a line
unfoldable pub field_says : ℕ → ℕ → List ℕ → Result Field Refusal
field_says line place f = placed line place (length f) (plain_number f) (number_of f)

-- some numbers, and whether none has a needless leading zero or a plus; or why they are refused
pub data Numbers : Type 0 where
  Are : List ℕ → Bool → Numbers
  Not : Refusal → Numbers

-- a field in front of some numbers
abbrev pub front : Result Field Refusal → Numbers → Numbers
front (Err r) ns = Not r
front (Ok f) (Not r) = Not r
front (Ok f) (Are vs plain) = Are (f.value ∷ vs) (f.plain && plain)

-- the first k of some fields as numbers, judged from left to right; the first has the given place in its line
unfoldable pub numbers_from : ℕ → ℕ → ℕ → List (List ℕ) → Numbers
numbers_from line place zero fs = Are [] true
numbers_from line place (suc k) [] = Not (FieldAbsent line place)
numbers_from line place (suc k) (f ∷ fs) = front (field_says line place f) (numbers_from line (suc place) k fs)

-- ---- writing

-- some fields, each with a tab before it
unfoldable pub tabbed : List (List ℕ) → List ℕ
tabbed [] = []
tabbed (f ∷ fs) = 9 ∷ (f ++ tabbed fs)

-- numbers as they are written, each with a tab before it
abbrev pub numbers_text : List ℕ → List ℕ
numbers_text ns = tabbed (map decimal_of ns)

-- a name and numbers as they are written: with tabs between, and an LF
unfoldable pub text_of : List ℕ → List ℕ → List ℕ
text_of name ns = name ++ (numbers_text ns ++ (10 ∷ []))

-- a tab or an LF, which may not stand in a name that is written
abbrev pub splits : ℕ → Bool
splits b = is 9 b || is 10 b

-- a name and numbers: a name with a tab or an LF is refused, with the first place of one
unfoldable pub text_written : List ℕ → List ℕ → List ℕ → Outcome (Result ℕ Refusal)
text_written name ns out = cond (ltb (first_where splits name) (length name)) (refuses (NameSplit (first_where splits name)) out) (pours (text_of name ns) out)

-- the call: the size limit first, of the name and of the numbers
unfoldable pub text_within : List ℕ → List ℕ → List ℕ → Outcome (Result ℕ Refusal)
text_within name ns out = cond (over_limit (length name)) (refuses TooLong out) (cond (over_limit (length ns)) (refuses TooLong out) (text_written name ns out))
