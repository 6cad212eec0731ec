-- What a definition line says (docs/RULES.md, R10).
use Rattle.std.specs.Prelude.{ℕ, zero, suc, ◌+◌, List, [], ◌∷◌, Bool, true, false, cond, not, ◌||◌, length, drop, eqb, Result, Ok, Err}
use Rattle.definition.specs.declared.Definition.{Definition}
use Rattle.refusal.specs.Numbers.{over_limit}
use Rattle.refusal.specs.declared.Refusal.{Refusal}
use Rattle.refusal.specs.declared.Refusal.TheVariants as refused
use Rattle.lines.specs.Lines.{content_of}
use Rattle.lines.specs.declared.Span.{Span}
use Rattle.definition.specs.declared.Fault.{Fault}
use Rattle.definition.specs.declared.Fault.TheVariants.{Empty, NoPrefix, NoName}

-- space, tab, LF, form feed, CR
unfoldable pub is_space : ℕ → Bool
is_space b = eqb b 32 || eqb b 9 || eqb b 10 || eqb b 12 || eqb b 13

-- is a byte whitespace, or is it not
abbrev pub spaced : Bool → ℕ → Bool
spaced true b = is_space b
spaced false b = not (is_space b)

-- how many bytes at the front pass a test
unfoldable pub run : (ℕ → Bool) → List ℕ → ℕ
run p [] = 0
run p (b ∷ s) = cond (p b) (suc (run p s)) 0

-- how many bytes are left once those at the end that pass a test are taken off
abbrev pub kept : Bool → ℕ → ℕ
kept t zero = cond t 0 1
kept t (suc n) = suc (suc n)

unfoldable pub keep : (ℕ → Bool) → List ℕ → ℕ
keep p [] = 0
keep p (b ∷ s) = kept (p b) (keep p s)

-- some bytes with the whitespace at both ends trimmed, by their place among them
abbrev pub trim : List ℕ → Span
trim s = record { start = run (spaced true) s; length = keep is_space (drop (run (spaced true) s) s) }

-- a description's place; 0 and 0 if it has no bytes
abbrev pub described : ℕ → ℕ → Span
described at zero = record { start = 0; length = 0 }
described at (suc n) = record { start = at; length = suc n }

-- a text behind its '>' that has a name of some bytes: the description is the rest, trimmed of whitespace at both ends
abbrev pub named_of : List ℕ → ℕ → Result Definition Fault
named_of s zero = Err NoName
named_of s (suc n) =
    Ok
    (record {
      name = record { start = 1; length = suc n };
      description = described (suc (suc n) + (trim (drop (suc n) s)).start) (trim (drop (suc n) s)).length;
    })

-- what the content of a line says, which begins with a mark: the name is what follows the mark, up to the first whitespace
unfoldable pub marked_says : ℕ → List ℕ → Result Definition Fault
marked_says mark [] = Err Empty
marked_says mark (b ∷ s) = cond (eqb b mark) (named_of s (run (spaced false) s)) (Err NoPrefix)

-- and of a line whose mark is '>'
unfoldable pub content_says : List ℕ → Result Definition Fault
content_says [] = Err Empty
content_says (b ∷ s) = cond (eqb b 62) (named_of s (run (spaced false) s)) (Err NoPrefix)

-- what a line says
unfoldable pub definition_says : List ℕ → Result Definition Fault
definition_says l = content_says (content_of l)

-- the place in the line where reading it failed: its first byte, or the one behind '>'
unfoldable pub fails_at : Fault → ℕ
fails_at Empty = 0
fails_at NoPrefix = 0
fails_at NoName = 1

-- the refusal of each fault, with its two numbers
unfoldable pub refusal_of : Fault → ℕ → ℕ → Refusal
refusal_of Empty a b = refused.EmptyDefinition a b
refusal_of NoPrefix a b = refused.NoPrefix a b
refusal_of NoName a b = refused.NoName a b

-- in a line that begins at an offset of its file: the offset of that place, and 0
abbrev pub refusal_at : Fault → ℕ → Refusal
refusal_at f start = refusal_of f (start + fails_at f) 0

-- in the checker's record n: the record, and that offset
abbrev pub refusal_in : Fault → ℕ → ℕ → Refusal
refusal_in f n start = refusal_of f n (start + fails_at f)

-- the two calls: the size limit first
unfoldable pub read_as : Result Definition Fault → Result Definition Refusal
read_as (Ok d) = Ok d
read_as (Err f) = Err (refusal_of f (fails_at f) 0)

unfoldable pub content_read : List ℕ → Result Definition Refusal
content_read l = cond (over_limit (length l)) (Err refused.TooLong) (read_as (content_says l))

unfoldable pub line_read : List ℕ → Result Definition Refusal
line_read l = cond (over_limit (length l)) (Err refused.TooLong) (read_as (definition_says l))
