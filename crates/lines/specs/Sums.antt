-- Laws of how many bases and bytes some lines have.
use Rattle.std.specs.Prelude.{ℕ, suc, ◌+◌, ◌≤◌, ◌≡◌, refl, List, [], ◌∷◌, Bool, true, false, cond, length, drop, eqb}
use Rattle.std.proofs.Common.{length-drop, arith}
use Rattle.lines.specs.Lines.{lines, onto, chop, begins, seq_of, seq_at, sum_bases, sum_widths}
use Rattle.lines.specs.Laws.{chop-le}

-- no more bases than bytes
pub sum-le : (ls : List (List ℕ)) → sum_bases ls ≤ sum_widths ls
unfolding sum_bases sum_widths
sum-le [] = omega arith
sum-le (l ∷ ls) = omega (arith, sum-le ls, chop-le 13 (chop 10 l), chop-le 10 l)

-- a sequence is some of its lines
pub widths-seq : (ls : List (List ℕ)) → sum_widths (seq_of ls) ≤ sum_widths ls
unfolding sum_widths seq_of
widths-seq [] = omega arith
widths-seq (l ∷ ls) = go (begins l) (widths-seq ls)
  where
    go : (t : Bool) → sum_widths (seq_of ls) ≤ sum_widths ls → sum_widths (cond t [] (l ∷ seq_of ls)) ≤ length l + sum_widths ls
    go true h = omega arith
    go false h = omega arith

-- the lines of some bytes have all of them
pub widths-lines : (s : List ℕ) → sum_widths (lines s) ≡ length s
unfolding sum_widths lines
widths-lines [] = refl
widths-lines (b ∷ s) = go (eqb b 10) (lines s) (widths-lines s)
  where
    go : (t : Bool) (ls : List (List ℕ)) → sum_widths ls ≡ length s → sum_widths (cond t ((b ∷ []) ∷ ls) (onto b ls)) ≡ suc (length s)
    go true ls h = omega arith
    go false [] h = omega arith
    go false (l ∷ ls) h = omega arith

-- a sequence ends in its file
pub widths-within : (s : List ℕ) (at : ℕ) → at ≤ length s → at + sum_widths (seq_at s at) ≤ length s
unfolding seq_at
widths-within s at h = omega (arith, widths-seq (lines (drop at s)), widths-lines (drop at s), length-drop at s)

pub bases-within : (s : List ℕ) (at : ℕ) → sum_bases (seq_at s at) ≤ length s
unfolding seq_at
bases-within s at = omega (arith, sum-le (seq_of (lines (drop at s))), widths-seq (lines (drop at s)), widths-lines (drop at s), length-drop at s)
