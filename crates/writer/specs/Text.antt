-- The text of a FASTA record (docs/RULES.md, R47), and what writing it answers.
use Rattle.std.specs.Prelude.{ℕ, zero, suc, ◌+◌, ◌-◌, ◌≡◌, List, [], ◌∷◌, ◌++◌, Bool, true, false, cond, ◌&&◌, ◌||◌, length, take, drop, get_or, eqb, Result}
use Rattle.std.specs.Prelude.{Option, Some, None}
use Rattle.refusal.specs.declared.Refusal.{Refusal}
use denote.Ref.{Bor}
use Rattle.refusal.specs.Numbers.{over_limit}
use Rattle.refusal.specs.declared.Refusal.TheVariants.{TooLong, ZeroWidth, NameUnfit, DescriptionUnfit, BaseUnfit}
use Rattle.definition.specs.Definition.{is_space}
use Rattle.columns.specs.Bytes.{is, overlaid}
use Rattle.output.specs.Outcome.{Outcome, refuses, pours}

-- ---- the text

-- one space and the description, where there is one
unfoldable pub described_text : Bool → List ℕ → List ℕ
described_text false d = []
described_text true d = 32 ∷ d

-- '>', the name, the description, LF
unfoldable pub definition_text : List ℕ → Bool → List ℕ → List ℕ
definition_text name described d = 62 ∷ (name ++ (described_text described d ++ (10 ∷ [])))

-- bases cut into the contents of lines of a width; the last has what is left. At most n are made
unfoldable pub contents_up_to : ℕ → ℕ → List ℕ → List (List ℕ)
contents_up_to zero w s = []
contents_up_to (suc n) w [] = []
contents_up_to (suc n) w (b ∷ s) = take w (b ∷ s) ∷ contents_up_to n w (drop w (b ∷ s))

-- all of them: there are no more contents than bases
abbrev pub contents_of : ℕ → List ℕ → List (List ℕ)
contents_of w s = contents_up_to (length s) w s

-- a content as a line
abbrev pub line_of : List ℕ → List ℕ
line_of r = r ++ (10 ∷ [])

-- some contents, each with LF
unfoldable pub lines_text : List (List ℕ) → List ℕ
lines_text [] = []
lines_text (r ∷ rs) = line_of r ++ lines_text rs

-- bases in lines of a width, each with LF
unfoldable pub sequence_text : ℕ → List ℕ → List ℕ
sequence_text w s = lines_text (contents_of w s)

-- a record
unfoldable pub record_text : List ℕ → Bool → List ℕ → List ℕ → ℕ → List ℕ
record_text name described d bases w = definition_text name described d ++ sequence_text w bases

-- ---- what is refused

-- does one of some bytes pass a test
unfoldable pub any_of : (ℕ → Bool) → List ℕ → Bool
any_of p [] = false
any_of p (b ∷ s) = p b || any_of p s

-- 28: empty or with whitespace
unfoldable pub name_unfit : List ℕ → Bool
name_unfit name = eqb (length name) 0 || any_of is_space name

-- 29: empty, with LF, or beginning or ending in whitespace
unfoldable pub description_unfit : List ℕ → Bool
description_unfit d = eqb (length d) 0 || (any_of (is 10) d || (is_space (get_or d 0 0) || is_space (get_or d (length d - 1) 0)))

-- 30: LF, CR or '>'
unfoldable pub barred : ℕ → Bool
barred b = eqb b 10 || eqb b 13 || eqb b 62

-- 1: any of what is lent to be written
unfoldable pub too_long : ℕ → ℕ → ℕ → Bool
too_long name d bases = over_limit name || (over_limit d || over_limit bases)

-- ---- the call

-- the refusals in their order; then the text at the front of the output, if it has room for all of it, and 14 else
unfoldable pub record_written : List ℕ → Bool → List ℕ → List ℕ → ℕ → List ℕ → Outcome (Result ℕ Refusal)
record_written name described d bases w out =
    cond (too_long (length name) (length d) (length bases)) (refuses TooLong out)
    (cond (eqb w 0) (refuses ZeroWidth out)
    (cond (name_unfit name) (refuses NameUnfit out)
    (cond (described && description_unfit d) (refuses DescriptionUnfit out)
    (cond (any_of barred bases) (refuses BaseUnfit out) (pours (record_text name described d bases w) out)))))

-- the bases alone: 1, 27, 30, 14
unfoldable pub sequence_written : List ℕ → ℕ → List ℕ → Outcome (Result ℕ Refusal)
sequence_written bases w out =
    cond (over_limit (length bases)) (refuses TooLong out)
    (cond (eqb w 0) (refuses ZeroWidth out)
    (cond (any_of barred bases) (refuses BaseUnfit out) (pours (sequence_text w bases) out)))

-- the bytes of a description, where there is one
abbrev pub lent : Option (Bor (List ℕ)) → List ℕ
lent None = []
lent (Some d) = d.now

-- some bytes put at a place of an output: the place behind them, and the output afterwards
pub record Put (out : List ℕ) (at : ℕ) (s : List ℕ) (behind : ℕ) (after : List ℕ) : Type 0 where
  pub place : behind ≡ at + length s
  pub holds : after ≡ overlaid out at s
