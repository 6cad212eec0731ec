-- The scanning rule (docs/RULES.md, R11): from an offset, skip a run of CR and LF; stop at '>' or at the end; take the line without
-- its LF and one final CR; repeat until the wanted number of bases is reached.
use Rattle.std.specs.Prelude.{ℕ, zero, suc, ◌+◌, ◌-◌, List, [], ◌∷◌, ◌++◌, Bool, true, cond, length, take, drop, eqb, leb}
use Rattle.lines.specs.Lines.{lines, bases_of, begins, seq_at, first_line}
use Rattle.lines.specs.declared.Span.{Span}

-- ---- one step

-- is a byte a CR or an LF
unfoldable pub ends_line : ℕ → Bool
ends_line b = cond (eqb b 13) true (eqb b 10)

-- how many CR and LF stand at the front of some bytes
unfoldable pub skipped : List ℕ → ℕ
skipped [] = 0
skipped (b ∷ s) = cond (ends_line b) (suc (skipped s)) 0

-- the offset behind the CR and LF at an offset
unfoldable pub skip_to : List ℕ → ℕ → ℕ
skip_to s at = at + skipped (drop at s)

-- one step from an offset: behind the CR and LF, as many bases as the sequence line there has; none at '>' or the end
unfoldable pub run_at : List ℕ → ℕ → Span
run_at s at = record { start = skip_to s at; length = (first_line (seq_at s (skip_to s at))).bases }

-- ---- a scan

-- the bases that a scan gives, and the place where it stops
pub record Scan : Type 0 where
  pub bases : List ℕ
  pub place : ℕ

-- no bases, at a place
abbrev pub nothing : ℕ → Scan
nothing at = record { bases = []; place = at }

-- some bases in front of a scan
abbrev pub joined : List ℕ → Scan → Scan
joined bs c = record { bases = bs ++ c.bases; place = c.place }

-- a line without the CR and LF at its front
abbrev pub bare : List ℕ → List ℕ
bare l = drop (skipped l) l

-- the bases at a place: only as many as are wanted, if there are so many; else all of them, and what follows
abbrev pub up_to : ℕ → ℕ → List ℕ → Scan → Scan
up_to limit at bs rest = cond (leb limit (length bs)) (record { bases = take limit bs; place = at + limit }) (joined bs rest)

-- a scan of some lines for so many bases; the lines begin at an offset
unfoldable pub scan_from : List (List ℕ) → ℕ → ℕ → Scan
scan_from [] limit at = nothing at
scan_from (l ∷ ls) zero at = nothing at
scan_from (l ∷ ls) (suc n) at =
    cond (begins (bare l)) (nothing (at + skipped l))
    (up_to (suc n) (at + skipped l) (bases_of (bare l)) (scan_from ls (suc n - length (bases_of (bare l))) (at + length l)))

-- a scan for so many bases from an offset
unfoldable pub scan_at : List ℕ → ℕ → ℕ → Scan
scan_at s limit at = scan_from (lines (drop at s)) limit at

-- a scan without a limit: for more bases than there are bytes
unfoldable pub scan_all : List ℕ → ℕ → Scan
scan_all s at = scan_at s (length s + 1) at
