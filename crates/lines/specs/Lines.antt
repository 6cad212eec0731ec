-- The lines of a file, and what the line rule says of them (docs/RULES.md, R6 to R9).
use Rattle.std.specs.Prelude.{ℕ, zero, suc, ◌+◌, ◌-◌, List, [], ◌∷◌, ◌++◌, Bool, true, false, cond, length, take, drop, eqb, Option, Some, None}
use Rattle.lines.specs.declared.Span.{Span}
use Rattle.lines.specs.declared.Line.{Line}
use Rattle.lines.specs.declared.Cursor.{Cursor}

-- the bytes from one offset up to another
abbrev pub part : List ℕ → ℕ → ℕ → List ℕ
part s a e = take (e - a) (drop a s)

-- ---- lines

-- a byte in front of the first of some lines
abbrev pub onto : ℕ → List (List ℕ) → List (List ℕ)
onto b [] = (b ∷ []) ∷ []
onto b (l ∷ ls) = (b ∷ l) ∷ ls

-- one byte more in front: an LF is a line by itself, any other byte begins the line that follows
abbrev pub line_byte : ℕ → List (List ℕ) → List (List ℕ)
line_byte b ls = cond (eqb b 10) ((b ∷ []) ∷ ls) (onto b ls)

-- the lines of some bytes: each runs to and with the next LF, or to the end
unfoldable pub lines : List ℕ → List (List ℕ)
lines [] = []
lines (b ∷ s) = line_byte b (lines s)

-- how many bytes the first line has; 0 where there is no line
unfoldable pub line_len : List ℕ → ℕ
line_len [] = 0
line_len (b ∷ s) = cond (eqb b 10) 1 (suc (line_len s))

-- the end of the line that begins at an offset
abbrev pub line_end : List ℕ → ℕ → ℕ
line_end s at = at + line_len (drop at s)

-- ---- what a line holds

-- some bytes without a final byte b
unfoldable pub chop : ℕ → List ℕ → List ℕ
chop b [] = []
chop b (x ∷ []) = cond (eqb x b) [] (x ∷ [])
chop b (x ∷ y ∷ l) = x ∷ chop b (y ∷ l)

-- do some bytes end in b
unfoldable pub ends : ℕ → List ℕ → Bool
ends b [] = false
ends b (x ∷ []) = eqb x b
ends b (x ∷ y ∷ l) = ends b (y ∷ l)

-- the bases of a sequence line: its bytes without the LF, and without one final CR
abbrev pub bases_of : List ℕ → List ℕ
bases_of l = chop 13 (chop 10 l)

-- the content of a line: without a final LF, and only if there was one, without one CR before it
unfoldable pub content_of : List ℕ → List ℕ
content_of l = cond (ends 10 l) (chop 13 (chop 10 l)) l

-- ---- a place in a file

-- the first of some lines, which begin at an offset: its content, and the place behind it
abbrev pub step_of : ℕ → List (List ℕ) → Option (Span × Cursor)
step_of at [] = None
step_of at (l ∷ ls) = Some (record { start = at; length = length (content_of l) }, record { at = at + length l })

-- reading the line at a place; at or past the end there is none
unfoldable pub read_line : List ℕ → Cursor → Option (Span × Cursor)
read_line s c = step_of c.at (lines (drop c.at s))

-- ---- the lines of a sequence

-- does a line begin with '>'
abbrev pub begins : List ℕ → Bool
begins [] = false
begins (b ∷ l) = eqb b 62

-- the lines up to one that begins with '>', or all
unfoldable pub seq_of : List (List ℕ) → List (List ℕ)
seq_of [] = []
seq_of (l ∷ ls) = cond (begins l) [] (l ∷ seq_of ls)

-- the sequence lines from an offset on
unfoldable pub seq_at : List ℕ → ℕ → List (List ℕ)
seq_at s at = seq_of (lines (drop at s))

-- width and bases of the first of some lines; 0 and 0 where there is none
abbrev pub first_line : List (List ℕ) → Line
first_line [] = record { width = 0; bases = 0 }
first_line (l ∷ ls) = record { width = length l; bases = length (bases_of l) }

-- the lines behind the first
abbrev pub tail_of : List (List ℕ) → List (List ℕ)
tail_of [] = []
tail_of (l ∷ ls) = ls

-- is there none
abbrev pub none : List (List ℕ) → Bool
none [] = true
none (l ∷ ls) = false

-- ---- the line rule, over some lines

-- all the bases, one after another
unfoldable pub all_bases : List (List ℕ) → List ℕ
all_bases [] = []
all_bases (l ∷ ls) = bases_of l ++ all_bases ls

-- how many bases there are, and how many bytes
unfoldable pub sum_bases : List (List ℕ) → ℕ
sum_bases [] = 0
sum_bases (l ∷ ls) = length (bases_of l) + sum_bases ls

unfoldable pub sum_widths : List (List ℕ) → ℕ
sum_widths [] = 0
sum_widths (l ∷ ls) = length l + sum_widths ls

-- n offsets in a row
unfoldable pub up_from : ℕ → ℕ → List ℕ
up_from o zero = []
up_from o (suc n) = o ∷ up_from (suc o) n

-- the offset of every base of some lines, which begin at an offset
unfoldable pub bases_at : ℕ → List (List ℕ) → List ℕ
bases_at at [] = []
bases_at at (l ∷ ls) = up_from at (length (bases_of l)) ++ bases_at (at + length l) ls
