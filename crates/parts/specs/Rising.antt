-- A number that is not less leads to a start that is not less: so parts whose numbers rise lie one behind the other.
use Rattle.std.specs.Prelude.{ℕ, zero, suc, ◌+◌, ◌≤◌, ◌≡◌, refl, List, [], ◌∷◌, ◌++◌, Bool, true, false, cond, length, take, drop, eqb, ltb}
use Rattle.std.proofs.Common.{length-drop, length-take-le, ltb-true, ltb-false}
use native.Mathlib.Omega.{arith}
use Rattle.lines.specs.Lines.{lines, line_len, line_end, begins, seq_of, seq_at, sum_widths}
use Rattle.lines.specs.Laws.{line_end-le}
use Rattle.lines.specs.Sums.{widths-lines}
use Rattle.parts.specs.Parts.{line_start, record_start}
use Rattle.parts.specs.Laws.{record-le}
use Rattle.parts.specs.Cuts.{lines_split, cut-at-record, Fresh, record-fresh}
use Rattle.parts.specs.Cuts.Fresh.{no-line, defined}

-- ---- lines

line-from-first : (s : List ℕ) (m : ℕ) → line_len s ≤ m + line_len (drop m s)
unfolding line_len
line-from-first [] m = omega arith
line-from-first (b ∷ s) zero = omega arith
line-from-first (b ∷ s) (suc m) = go (eqb b 10) (line-from-first s m)
  where
    go : (t : Bool) → line_len s ≤ m + line_len (drop m s) → cond t 1 (suc (line_len s)) ≤ suc m + line_len (drop m s)
    go true h = omega arith
    go false h = omega arith

end-rises : (n m : ℕ) (s : List ℕ) → n ≤ m → line_end s n ≤ line_end s m
end-rises zero m s h = omega (arith, line-from-first s m)
end-rises (suc n) zero s h = absurd (omega arith)
end-rises (suc n) (suc m) [] h = unfold line_len in omega arith
end-rises (suc n) (suc m) (b ∷ s) h = omega (arith, end-rises n m s (omega arith))

pub line-rises : (s : List ℕ) (n m : ℕ) → n ≤ m → line_start s n ≤ line_start s m
unfolding line_start
line-rises s zero m h = omega arith
line-rises s (suc n) zero h = absurd (omega arith)
line-rises s (suc n) (suc m) h = go (ltb n (length s)) refl (ltb m (length s)) refl
  where
    go : (t : Bool) → ltb n (length s) ≡ t → (u : Bool) → ltb m (length s) ≡ u → cond t (line_end s n) (length s) ≤ cond u (line_end s m) (length s)
    go true e true d = end-rises n m s (omega arith)
    go true e false d = line_end-le s n (omega (arith, ltb-true n (length s) e))
    go false e true d = absurd (omega (arith, ltb-false n (length s) e, ltb-true m (length s) d))
    go false e false d = omega arith

-- ---- records

-- a sequence ends where a record begins
seq-fresh : (ls ms : List (List ℕ)) → Fresh ms → sum_widths (seq_of (ls ++ ms)) ≤ sum_widths ls
unfolding seq_of sum_widths
seq-fresh [] ms (no-line) = omega arith
seq-fresh [] ms (defined l ks e) = rw e (omega arith)
seq-fresh (k ∷ ls) ms f = go (begins k) (seq-fresh ls ms f)
  where
    go : (t : Bool) → sum_widths (seq_of (ls ++ ms)) ≤ sum_widths ls → sum_widths (cond t [] (k ∷ seq_of (ls ++ ms))) ≤ length k + sum_widths ls
    go true h = omega arith
    go false h = omega arith

-- from a line's start that is not behind the start of a record, the sequence lines do not reach behind it
sequence-stops : (s : List ℕ) (i n : ℕ) → i ≤ record_start s (suc n) → i + sum_widths (seq_at s i) ≤ record_start s (suc n)
unfolding seq_at
sequence-stops s i n h =
    let c = record_start s (suc n) in
    let a = lines (drop i (take c s)) in
    let w : sum_widths (seq_of (a ++ lines (drop c s))) ≤ sum_widths a = seq-fresh a (lines (drop c s)) (record-fresh s n) in
    rw (lines_split s i c (cut-at-record s (suc n)) h)
    (omega (arith, widths-lines (drop i (take c s)), length-drop i (take c s), length-take-le c s (record-le s (suc n))))

-- the start of a record is the start of a line or behind it
line-before : (s : List ℕ) (m : ℕ) → line_start s (suc m) ≤ record_start s (suc m)
unfolding record_start
line-before s m = omega arith

reached : (s : List ℕ) (n c : ℕ) → line_start s (suc n) + sum_widths (seq_at s (line_start s (suc n))) ≤ c → record_start s (suc n) ≤ c
unfolding record_start
reached s n c h = h

pub record-rises : (s : List ℕ) (n m : ℕ) → n ≤ m → record_start s n ≤ record_start s m
record-rises s zero m h = unfold record_start in omega arith
record-rises s (suc n) zero h = absurd (omega arith)
record-rises s (suc n) (suc m) h =
    reached s n (record_start s (suc m))
    (sequence-stops s (line_start s (suc n)) m (omega (arith, line-rises s (suc n) (suc m) h, line-before s m)))
