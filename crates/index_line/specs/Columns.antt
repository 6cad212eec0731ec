-- What an index line of n numbers says, by what is made of its name and its numbers: FASTA's lines have four numbers, FASTQ's five.
use Rattle.std.specs.Prelude.{ℕ, ◌≡◌, List, [], ◌∷◌, Bool, cond, not, ◌&&◌, length, eqb, take, drop, Result, Ok, Err}
use Rattle.refusal.specs.declared.Refusal.{Refusal}
use Rattle.refusal.specs.declared.Refusal.TheVariants.{TooLong, EmptyIndexLine}
use Rattle.refusal.specs.Numbers.{over_limit}
use Rattle.lines.specs.Lines.{part, line_len, line_end, chop, ends, content_of}
use Rattle.record.specs.declared.Record.{Record}
use Rattle.output.specs.Outcome.{Outcome, refuses}
use Rattle.columns.specs.Fields.{cut_at, Numbers, numbers_from, text_written}
use Rattle.columns.specs.Fields.Numbers.{Are, Not}

-- does a line end in LF with no CR before it
unfoldable pub plain_end : List ℕ → Bool
plain_end l = ends 10 l && not (ends 13 (chop 10 l))

-- are some bytes one line at most: no LF stands before their last byte, so that their first line is all of them
unfoldable pub one_line : List ℕ → Bool
one_line l = eqb (line_len l) (length l)

-- the fields of a line's content, which is cut at the first n tabs; an empty line has none
abbrev pub fields_in : ℕ → List ℕ → List (List ℕ)
fields_in n [] = []
fields_in n (b ∷ l) = cut_at n (b ∷ l)

module _ {Entry : Type 0} (entry : ℕ → List ℕ → Bool → Entry) where
  -- what a name of so many bytes and the numbers make
  abbrev pub entry_read : ℕ → Numbers → Result Entry Refusal
  entry_read k (Are vs plain) = Ok (entry k vs plain)
  entry_read k (Not r) = Err r

  -- what the fields of a line say: the first is the name, which may be empty, and n numbers follow
  abbrev pub fields_say : ℕ → ℕ → List (List ℕ) → Result Entry Refusal
  fields_say n line [] = Err (EmptyIndexLine line)
  fields_say n line (name ∷ fs) = entry_read (length name) (numbers_from line 2 n fs)

  -- what the content of a line says; `line` is the number told in refusals
  abbrev pub content_says : ℕ → ℕ → List ℕ → Result Entry Refusal
  content_says n line l = fields_say n line (fields_in n l)

-- what is read, made plain only if p
abbrev pub only_if : {Entry : Type 0} → (Bool → Entry → Entry) → Bool → Result Entry Refusal → Result Entry Refusal
only_if only p (Ok e) = Ok (only p e)
only_if only p (Err r) = Err r

module _ {Entry : Type 0} (entry : ℕ → List ℕ → Bool → Entry) (only : Bool → Entry → Entry) (n : ℕ) where
  -- what a line says: a final LF, and one CR before it, come off
  abbrev pub line_says : ℕ → List ℕ → Result Entry Refusal
  line_says line l = only_if only (plain_end l) (content_says entry n line (content_of l))

  -- the call on a line that is read alone: refusal 1 comes first, and the line is line 1
  abbrev pub read_alone : List ℕ → Result Entry Refusal
  read_alone l = cond (over_limit (length l)) (Err TooLong) (only_if only (one_line l) (line_says 1 l))

-- a record's name, which is a span of some bytes
unfoldable pub name_in : List ℕ → Record → List ℕ
name_in names x = take x.name_length (drop x.name_start names)

module _ (columns : Record → List ℕ) where
  -- the line of a row that holds a record, by the numbers of the line
  abbrev pub row_written : List ℕ → List ℕ → Result Record Refusal → Outcome (Result ℕ Refusal)
  row_written names out (Err r) = refuses r out
  row_written names out (Ok x) = text_written (name_in names x) (columns x) out

  -- the call: 1 first
  abbrev pub line_written : List ℕ → Result Record Refusal → List ℕ → Outcome (Result ℕ Refusal)
  line_written names h out = cond (over_limit (length names)) (refuses TooLong out) (row_written names out h)

-- what the line at a place of a text says, and where it ends
pub record SaidAt {Entry : Type 0} (says : ℕ → List ℕ → Result Entry Refusal) (line : ℕ) (text : List ℕ) (at : ℕ) (r : Result Entry Refusal) (e : ℕ) : Type 0 where
  pub end : e ≡ line_end text at
  pub read : r ≡ says line (part text at e)
