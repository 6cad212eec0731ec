-- Where a file may be cut: at its start, behind an LF, or at its end. There the lines of both pieces are the lines of the whole; and where a
-- record begins behind the cut, the records are too.
use Rattle.std.specs.Prelude.{ℕ, zero, suc, ◌+◌, ◌-◌, ◌≤◌, ◌<◌, ◌≡◌, refl, Bool, true, false, cond, length, take, drop, get_or, eqb, ltb}
use Rattle.std.proofs.Common.{ap, sym, ◌∙◌, length-drop, drop_of_length-le, take-append-drop, take_all, drop-drop, get_or-drop, get_or-take, length-take-le, eqb-true, ltb-true, ltb-false, arith, add-zero}
use mathlib.Core.List.{List, [], ◌∷◌, ◌++◌, append-nil}
use Rattle.std.proofs.lemmas.List.{drop-append-le}
use Rattle.std.proofs.Math.Nat.{add-sub_cancel_left}
use Rattle.lines.specs.Lines.{line_byte, onto, lines, line_len, line_end, part, ends, begins, none, seq_of, seq_at, sum_widths}
use Rattle.lines.specs.Laws.{line_end-le, line_end-gt, part_length, part_slice, some-here, some-line}
use Rattle.lines.specs.Alike.{open-last}
use Rattle.lines.specs.Groups.{groups}
use Rattle.lines.specs.GroupLaws.{after_seq, lines_after}
use Rattle.lines.specs.Pieces.{groups-start}
use Rattle.parts.specs.Parts.{line_start, record_start}

-- ---- bytes that end in LF, and what follows

onto-append : (x y : ℕ) (a : List ℕ) (ms : List (List ℕ)) → onto x (lines (y ∷ a) ++ ms) ≡ onto x (lines (y ∷ a)) ++ ms
unfolding lines
onto-append x y a ms = go (eqb y 10) (lines a)
  where
    go : (t : Bool) (ls : List (List ℕ)) → onto x (cond t ((y ∷ []) ∷ ls) (onto y ls) ++ ms) ≡ onto x (cond t ((y ∷ []) ∷ ls) (onto y ls)) ++ ms
    go true ls = refl
    go false [] = refl
    go false (l ∷ ls) = refl

lines_join : (a b : List ℕ) → ends 10 a ≡ true → lines (a ++ b) ≡ lines a ++ lines b
unfolding lines ends
lines_join [] b e = let z : ◌≡◌ {A = ℕ} 0 1 = cc in absurd (omega arith)
lines_join (x ∷ []) b e = rw e
lines_join (x ∷ y ∷ a) b e = ap (line_byte x) (lines_join (y ∷ a) b e) ∙ go (eqb x 10)
  where
    go : (t : Bool) → cond t ((x ∷ []) ∷ (lines (y ∷ a) ++ lines b)) (onto x (lines (y ∷ a) ++ lines b)) ≡ cond t ((x ∷ []) ∷ lines (y ∷ a)) (onto x (lines (y ∷ a))) ++ lines b
    go true = refl
    go false = onto-append x y a (lines b)

-- the last byte tells
ends_last : (l : List ℕ) (n : ℕ) → length l ≡ suc n → ends 10 l ≡ eqb (get_or l n 0) 10
unfolding ends
ends_last [] n h = absurd (omega arith)
ends_last (x ∷ []) zero h = refl
ends_last (x ∷ []) (suc n) h = absurd (omega arith)
ends_last (x ∷ y ∷ l) zero h = absurd (omega arith)
ends_last (x ∷ y ∷ l) (suc n) h = ends_last (y ∷ l) n (omega arith)

-- of the bytes between two offsets
part-ends : (s : List ℕ) (a n : ℕ) → a ≤ n → n < length s → ends 10 (part s a (suc n)) ≡ eqb (get_or s n 0) 10
part-ends s a n h k =
    ends_last (part s a (suc n)) (n - a) (omega (arith, part_length s a (suc n) (omega arith)))
    ∙ ap (λ (x : ℕ). eqb x 10) (get_or-take (suc n - a) (drop a s) (n - a) 0 (omega arith) ∙ get_or-drop a s (n - a) 0 ∙ ap (λ (j : ℕ). get_or s j 0) (omega arith))

-- ---- cuts

-- an offset where a file may be cut into lines
pub data Cut (s : List ℕ) : ℕ → Type 0 where
  at-start : Cut s 0
  behind-lf : (n : ℕ) → n < length s → get_or s n 0 ≡ 10 → Cut s (suc n)
  at-end : (b : ℕ) → length s ≤ b → Cut s b

-- the lines from an offset on are those up to the cut, and those behind it
pub lines_split : (s : List ℕ) (a b : ℕ) → Cut s b → a ≤ b → lines (drop a s) ≡ lines (drop a (take b s)) ++ lines (drop b s)
unfolding lines
lines_split s a b (at-start) h =
    let e : a ≡ 0 = omega arith in
    rw e
lines_split s a b (at-end _ k) h = rw (take_all b s k, drop_of_length-le s k, append-nil (lines (drop a s)))
lines_split s a b (behind-lf n k e) h = go (ltb a (suc n)) refl
  where
    whole : drop a s ≡ drop a (take (suc n) s) ++ drop (suc n) s
    whole = ap (drop a) (sym (take-append-drop (suc n) s)) ∙ drop-append-le a (take (suc n) s) (drop (suc n) s) (omega (arith, length-take-le (suc n) s k))

    go : (t : Bool) → ltb a (suc n) ≡ t → lines (drop a s) ≡ lines (drop a (take (suc n) s)) ++ lines (drop (suc n) s)
    go true m =
        let l : a ≤ n = omega (arith, ltb-true a (suc n) m) in
        ap lines whole ∙ lines_join (drop a (take (suc n) s)) (drop (suc n) s) (ap (ends 10) (sym (part_slice s a (suc n) (omega arith))) ∙ part-ends s a n l k ∙ rw e)
    go false m =
        let q : a ≡ suc n = omega (arith, ltb-false a (suc n) m) in
        rw (q, drop_of_length-le (take (suc n) s) {i = suc n} (omega (arith, length-take-le (suc n) s k)))

-- the end of a line is one
pub cut_line : (s : List ℕ) (n : ℕ) → Cut s (line_end s n)
cut_line s n = go (ltb n (length s)) refl
  where
    some : n < length s → (m : ℕ) → suc m ≡ line_end s n → (t : Bool) → ends 10 (part s n (line_end s n)) ≡ t → Cut s (line_end s n)
    some h m e true x =
        let w : m < length s = omega (arith, line_end-le s n (omega arith)) in
        let y : ends 10 (part s n (suc m)) ≡ true = rw e x in
        rw (← e) (behind-lf m w (eqb-true _ _ (sym (part-ends s n m (omega (arith, line_end-gt s n h)) w) ∙ y)))
    some h m e false x =
        let y : ends 10 (take (line_len (drop n s)) (drop n s)) ≡ false = rw (add-sub_cancel_left) at x in
        at-end (line_end s n) (omega (arith, open-last (drop n s) y, length-drop n s))

    go : (t : Bool) → ltb n (length s) ≡ t → Cut s (line_end s n)
    go true h =
        let k : n < length s = ltb-true n (length s) h in
        some k (line_end s n - 1) (omega (arith, line_end-gt s n k)) (ends 10 (part s n (line_end s n))) refl
    go false h = at-end (line_end s n) (omega (arith, ltb-false n (length s) h))

-- and the end of a sequence
cut-lines : (s : List ℕ) (ls : List (List ℕ)) (i : ℕ) → seq_at s i ≡ ls → Cut s i → Cut s (i + sum_widths ls)
unfolding sum_widths
cut-lines s [] i e c = rw (add-zero i) c
cut-lines s (l ∷ ls) i e c =
    let m : none (seq_at s i) ≡ false = rw e in
    let h : i < length s = some-here s i m in
    let q : l ∷ ls ≡ part s i (line_end s i) ∷ seq_at s (line_end s i) = sym e ∙ some-line s i m in
    let p : l ≡ part s i (line_end s i) = cc in
    let r : seq_at s (line_end s i) ≡ ls = cc in
    let w : length l ≡ line_end s i - i = ap length p ∙ part_length s i (line_end s i) (line_end-le s i (omega arith)) in
    let v : i + (length l + sum_widths ls) ≡ line_end s i + sum_widths ls = omega (arith, line_end-gt s i h) in
    rw v (cut-lines s ls (line_end s i) r (cut_line s i))

pub cut-at-line : (s : List ℕ) (n : ℕ) → Cut s (line_start s n)
unfolding line_start
cut-at-line s zero = at-start
cut-at-line s (suc n) = go (ltb n (length s))
  where
    go : (t : Bool) → Cut s (cond t (line_end s n) (length s))
    go true = cut_line s n
    go false = at-end (length s) (omega arith)

pub cut-at-record : (s : List ℕ) (n : ℕ) → Cut s (record_start s n)
unfolding record_start
cut-at-record s zero = at-start
cut-at-record s (suc n) = cut-lines s (seq_at s (line_start s (suc n))) (line_start s (suc n)) refl (cut-at-line s (suc n))

-- ---- behind the start of a record

-- no line, or one that begins with '>'
pub data Fresh : List (List ℕ) → Type 0 where
  no-line : Fresh []
  defined : (l : List ℕ) (ls : List (List ℕ)) → begins l ≡ true → Fresh (l ∷ ls)

after-fresh : (ls : List (List ℕ)) → Fresh (after_seq ls)
unfolding after_seq
after-fresh [] = no-line
after-fresh (l ∷ ls) = go (begins l) refl (after-fresh ls)
  where
    go : (t : Bool) → begins l ≡ t → Fresh (after_seq ls) → Fresh (cond t (l ∷ ls) (after_seq ls))
    go true e f = defined l ls e
    go false e f = f

pub record-fresh : (s : List ℕ) (n : ℕ) → Fresh (lines (drop (record_start s (suc n)) s))
unfolding record_start seq_at
record-fresh s n =
    let i = line_start s (suc n) in
    rw (← drop-drop (sum_widths (seq_of (lines (drop i s)))) i s, lines_after (lines (drop i s)) (drop i s) refl) (after-fresh (lines (drop i s)))

groups-fresh : (ls ms : List (List ℕ)) → Fresh ms → groups (ls ++ ms) ≡ groups ls ++ groups ms
groups-fresh ls ms (no-line) = unfold groups in rw (append-nil ls, append-nil (groups ls))
groups-fresh ls ms (defined l ks e) = groups-start ls l ks e

nothing-before : (s : List ℕ) (a : ℕ) → a ≤ record_start s 0 → a ≡ 0
unfolding record_start
nothing-before s a h = omega arith

-- the records from an offset on are those up to the start of a record, and those from there on
pub groups-split : (s : List ℕ) (a n : ℕ) → a ≤ record_start s n
    → groups (lines (drop a s)) ≡ groups (lines (drop a (take (record_start s n) s))) ++ groups (lines (drop (record_start s n) s))
groups-split s a zero h =
    let e = nothing-before s a h in
    unfold record_start lines groups in rw e
groups-split s a (suc n) h =
    ap groups (lines_split s a (record_start s (suc n)) (cut-at-record s (suc n)) h)
    ∙ groups-fresh (lines (drop a (take (record_start s (suc n)) s))) (lines (drop (record_start s (suc n)) s)) (record-fresh s n)
