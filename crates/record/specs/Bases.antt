-- The bytes of a file at the offsets of its lines' bases are those bases: of any lines, and so of the sequence lines of FASTA.
use Rattle.std.specs.Prelude.{ℕ, zero, suc, ◌+◌, ◌≤◌, ◌≡◌, refl, List, [], ◌∷◌, ◌++◌, map, Bool, true, false, cond, length, take, drop, get_or}
use Rattle.std.proofs.Common.{ap, sym, ◌∙◌, drop-cons, drop-drop, take-take, length-take-le, arith}
use Rattle.std.proofs.lemmas.List.{map-append}
use Rattle.lines.specs.Lines.{lines, line_len, chop, bases_of, begins, seq_of, seq_at, all_bases, sum_widths, up_from, bases_at}
use Rattle.lines.specs.Laws.{chop-le, bases-front, lines_cut, line_len-le}
use Rattle.lines.specs.GroupLaws.{after_seq, lines-behind}
use Rattle.lines.specs.Sums.{widths-within}

-- the byte at an offset
abbrev pub byte_at : List ℕ → ℕ → ℕ
byte_at s o = get_or s o 0

-- n bytes in a row
pub bytes-row : (s : List ℕ) (n o : ℕ) → o + n ≤ length s → map (byte_at s) (up_from o n) ≡ take n (drop o s)
unfolding up_from
bytes-row s zero o h = refl
bytes-row s (suc n) o h = rw (drop-cons s o 0 (omega arith)) (ap (λ (k : List ℕ). byte_at s o ∷ k) (bytes-row s n (suc o) (omega arith)))

-- the first of some lines is their front
pub line-front : (s l : List ℕ) (ls : List (List ℕ)) → lines s ≡ l ∷ ls → take (length l) s ≡ l
unfolding lines
line-front [] l ls h = let z : ◌≡◌ {A = ℕ} 0 1 = cc in absurd (omega arith)
line-front (b ∷ s) l ls h =
    let c : take (line_len (b ∷ s)) (b ∷ s) ∷ lines (drop (line_len (b ∷ s)) (b ∷ s)) ≡ l ∷ ls = sym (lines_cut (b ∷ s) (omega arith)) ∙ h in
    let p : take (line_len (b ∷ s)) (b ∷ s) ≡ l = cc in
    let r : length l ≡ line_len (b ∷ s) = ap length (sym p) ∙ length-take-le (line_len (b ∷ s)) (b ∷ s) (line_len-le (b ∷ s)) in
    rw r p

-- the bytes at the offsets of the bases of some lines, which are the first of those from an offset on
pub front_bytes : (s : List ℕ) (ls : List (List ℕ)) (at : ℕ) (others : List (List ℕ)) → lines (drop at s) ≡ ls ++ others → at + sum_widths ls ≤ length s → map (byte_at s) (bases_at at ls) ≡ all_bases ls
unfolding bases_at all_bases sum_widths
front_bytes s [] at others e h = refl
front_bytes s (l ∷ ls) at others e h =
    let behind : lines (drop (at + length l) s) ≡ ls ++ others = rw (drop-drop (length l) at s) at (lines-behind (drop at s) l (ls ++ others) e) in
    rw map-append (joined front (front_bytes s ls (at + length l) others behind (omega arith)))
  where
    few : length (bases_of l) ≤ length l
    few = omega (arith, chop-le 13 (chop 10 l), chop-le 10 l)

    front : map (byte_at s) (up_from at (length (bases_of l))) ≡ bases_of l
    front =
        bytes-row s (length (bases_of l)) at (omega (arith, few))
        ∙ sym (take-take (length (bases_of l)) (length l) (drop at s) few)
        ∙ ap (take (length (bases_of l))) (line-front (drop at s) l (ls ++ others) e)
        ∙ bases-front l

    joined : {a b c d : List ℕ} → a ≡ b → c ≡ d → a ++ c ≡ b ++ d
    joined p q = cc

-- a sequence is the first of its lines
seq-front : (ls : List (List ℕ)) → ls ≡ seq_of ls ++ after_seq ls
unfolding seq_of after_seq
seq-front [] = refl
seq-front (l ∷ ls) = go (begins l) (seq-front ls)
  where
    go : (t : Bool) → ls ≡ seq_of ls ++ after_seq ls → l ∷ ls ≡ cond t [] (l ∷ seq_of ls) ++ cond t (l ∷ ls) (after_seq ls)
    go true h = refl
    go false h = ap (λ (k : List (List ℕ)). l ∷ k) h

pub bases-bytes : (s : List ℕ) (ls : List (List ℕ)) (at : ℕ) → at ≤ length s → seq_at s at ≡ ls → map (byte_at s) (bases_at at ls) ≡ all_bases ls
unfolding seq_at
bases-bytes s ls at h e =
    let m = lines (drop at s) in
    front_bytes s ls at (after_seq m) (seq-front m ∙ ap (λ (k : List (List ℕ)). k ++ after_seq m) e) (rw e at (widths-within s at h))
