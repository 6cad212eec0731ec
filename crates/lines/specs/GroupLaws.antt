-- Laws of the groups of a file's lines: the first group, and the lines behind it.
use Rattle.std.specs.Prelude.{ℕ, ◌+◌, ◌≡◌, refl, List, [], ◌∷◌, Bool, true, false, cond, length, take, drop}
use Rattle.std.proofs.Common.{ap, sym, ◌∙◌, drop-drop, length-take-le, arith}
use Rattle.lines.specs.Lines.{lines, line_len, begins, seq_of, sum_widths}
use Rattle.lines.specs.Groups.{Group, attach, groups}
use Rattle.lines.specs.Laws.{lines_cut, line_len-le}

-- the lines from the first that begins with '>' on
unfoldable pub after_seq : List (List ℕ) → List (List ℕ)
after_seq [] = []
after_seq (l ∷ ls) = cond (begins l) (l ∷ ls) (after_seq ls)

-- the first group: a line, and the sequence behind it
pub groups-cut : (l : List ℕ) (ls : List (List ℕ)) → groups (l ∷ ls) ≡ record { def = l; seq = seq_of ls } ∷ groups (after_seq ls)
unfolding groups seq_of after_seq
groups-cut l [] = refl
groups-cut l (m ∷ ms) = ap (attach l) (groups-cut m ms) ∙ go (begins m) (groups-cut m ms)
  where
    go : (t : Bool) → groups (m ∷ ms) ≡ record { def = m; seq = seq_of ms } ∷ groups (after_seq ms)
        → cond t (record { def = l; seq = [] } ∷ record { def = m; seq = seq_of ms } ∷ groups (after_seq ms)) (record { def = l; seq = m ∷ seq_of ms } ∷ groups (after_seq ms))
        ≡ record { def = l; seq = cond t [] (m ∷ seq_of ms) } ∷ groups (cond t (m ∷ ms) (after_seq ms))
    go true h = ap (λ (k : List Group). record { def = l; seq = [] } ∷ k) (sym h)
    go false h = refl

-- the lines behind the first line
pub lines-behind : (s l : List ℕ) (ls : List (List ℕ)) → lines s ≡ l ∷ ls → lines (drop (length l) s) ≡ ls
unfolding lines
lines-behind [] l ls h = let z : ◌≡◌ {A = ℕ} 0 1 = cc in absurd (omega arith)
lines-behind (b ∷ s) l ls h =
    let c : take (line_len (b ∷ s)) (b ∷ s) ∷ lines (drop (line_len (b ∷ s)) (b ∷ s)) ≡ l ∷ ls = sym (lines_cut (b ∷ s) (omega arith)) ∙ h in
    let p : l ≡ take (line_len (b ∷ s)) (b ∷ s) = cc in
    let q : lines (drop (line_len (b ∷ s)) (b ∷ s)) ≡ ls = cc in
    let r : length l ≡ line_len (b ∷ s) = ap length p ∙ length-take-le (line_len (b ∷ s)) (b ∷ s) (line_len-le (b ∷ s)) in
    rw r q

-- the lines behind a sequence
pub lines_after : (ls : List (List ℕ)) (s : List ℕ) → lines s ≡ ls → lines (drop (sum_widths (seq_of ls)) s) ≡ after_seq ls
unfolding seq_of after_seq sum_widths
lines_after [] s h = h
lines_after (l ∷ ls) s h = go (begins l) (lines_after ls (drop (length l) s) (lines-behind s l ls h))
  where
    go : (t : Bool) → lines (drop (sum_widths (seq_of ls)) (drop (length l) s)) ≡ after_seq ls
        → lines (drop (sum_widths (cond t [] (l ∷ seq_of ls))) s) ≡ cond t (l ∷ ls) (after_seq ls)
    go true k = h
    go false k = rw (← drop-drop (sum_widths (seq_of ls)) (length l) s) k

-- the lines behind a group, which begins at an offset
pub lines_next : (s : List ℕ) (at : ℕ) (l : List ℕ) (ls : List (List ℕ)) → lines (drop at s) ≡ l ∷ ls
    → lines (drop (at + length l + sum_widths (seq_of ls)) s) ≡ after_seq ls
lines_next s at l ls h =
    rw (← drop-drop (sum_widths (seq_of ls)) (at + length l) s, ← drop-drop (length l) at s)
    (lines_after ls (drop (length l) (drop at s)) (lines-behind (drop at s) l ls h))
