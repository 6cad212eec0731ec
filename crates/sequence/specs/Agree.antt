-- R13 of docs/RULES.md: the line rule and the scanning rule agree from the start of a sequence, with a limit and without one, if its lines
-- hold no '>' and no CR except the one at a line's end.
use Rattle.std.specs.Prelude.{ℕ, ◌+◌, ◌≡◌, List, length, drop}
use Rattle.std.proofs.Common.{arith}
use Rattle.lines.specs.Lines.{lines, seq_at, all_bases, sum_widths}
use Rattle.lines.specs.Sums.{bases-within}
use Rattle.sequence.specs.Scan.{scan_at, scan_all}
use Rattle.sequence.specs.Clean.{Clean, ByLines}
use Rattle.sequence.specs.AgreeLaws.{lined, agree, scan-is}

-- from the start of a sequence whose lines are clean, a limited scan gives the first bases by the line rule
pub limit_agrees : (s : List ℕ) (limit at : ℕ) → Clean (seq_at s at) → ByLines (scan_at s limit at) (seq_at s at) limit at
unfolding scan_at seq_at
limit_agrees s limit at clean = agree (lines (drop at s)) limit at (lined (drop at s)) clean

-- and a scan without a limit gives all, and stops at the end of the sequence
pub rules-agree : (s : List ℕ) (at : ℕ) → Clean (seq_at s at) → scan_all s at ≡ record { bases = all_bases (seq_at s at); place = at + sum_widths (seq_at s at) }
unfolding scan_all
rules-agree s at clean = let z = (limit_agrees s (length s + 1) at clean).short (omega (arith, bases-within s at)) in scan-is _ _ _ z.0 z.1
