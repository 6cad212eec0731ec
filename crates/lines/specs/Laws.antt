-- Laws of the lines of a file: what an offset into the bytes says of them.
use Rattle.std.specs.Prelude.{ℕ, zero, suc, ◌+◌, ◌≤◌, ◌<◌, ◌-◌, ◌≡◌, refl, List, [], ◌∷◌, ◌++◌, Bool, true, false, cond, length, take, drop, get_or, eqb, ltb, Some, None}
use Rattle.std.proofs.Common.{ap, sym, ◌∙◌, true≢false, drop_of_length-le, length-take, drop-cons, take-suc, take-take, length-take-le, add-one, zero-add, suc-add}
use Rattle.std.proofs.Math.ListN.{length-drop}
use Rattle.std.proofs.Math.Seq.{drop-drop, get_or-drop, take-length, take-nil}
use Rattle.std.proofs.Math.Dec.{leb-suc-suc}
use borrow.Author.Tests.{eq-eqb, ne_eqb, ltb-true, ltb-false, lt-ltb, le-ltb}
use native.Mathlib.Omega.{arith}
use Rattle.std.proofs.Math.Nat.{add-zero, sub-zero, add-sub_cancel_left}
use Rattle.lines.specs.Lines.{part, lines, line_len, onto, line_end, chop, ends, bases_of, content_of, read_line, begins, seq_of, seq_at, none, first_line, tail_of}
use Rattle.lines.specs.declared.Cursor.{Cursor}
use Rattle.lines.specs.declared.Span.{Span}

-- ---- the length of the first line

module _ (s : List ℕ) (i : ℕ) where
  pub line_len-hit : i < length s → get_or s i 0 ≡ 10 → line_len (drop i s) ≡ 1
  unfolding line_len
  line_len-hit h e = rw (drop-cons s i 0 h, eq-eqb _ _ e)

  pub line_len-miss : i < length s → (get_or s i 0 ≡ 10 → ⊥) → line_len (drop i s) ≡ suc (line_len (drop (suc i) s))
  unfolding line_len
  line_len-miss h e = rw (drop-cons s i 0 h, ne_eqb _ _ e)

  pub line_len-end : length s ≤ i → line_len (drop i s) ≡ 0
  unfolding line_len
  line_len-end h = rw (drop_of_length-le s h)

pub line_len-le : (s : List ℕ) → line_len s ≤ length s
unfolding line_len
line_len-le [] = omega arith
line_len-le (b ∷ s) = go (eqb b 10) (line_len-le s)
  where
    go : (t : Bool) → line_len s ≤ length s → cond t 1 (suc (line_len s)) ≤ suc (length s)
    go true h = omega arith
    go false h = omega arith

pub line_len-pos : (s : List ℕ) → 0 < length s → 1 ≤ line_len s
unfolding line_len
line_len-pos [] h = omega arith
line_len-pos (b ∷ s) h = go (eqb b 10)
  where
    go : (t : Bool) → 1 ≤ cond t 1 (suc (line_len s))
    go true = omega arith
    go false = omega arith

pub line_end-le : (s : List ℕ) (at : ℕ) → at ≤ length s → line_end s at ≤ length s
line_end-le s at h = omega (arith, line_len-le (drop at s), length-drop at s)

-- ---- the first line, and the lines of what is behind it

lines_cons : (b : ℕ) (s : List ℕ) → lines (b ∷ s) ≡ take (line_len (b ∷ s)) (b ∷ s) ∷ lines (drop (line_len (b ∷ s)) (b ∷ s))
unfolding lines line_len
lines_cons b [] = go (eqb b 10)
  where
    go : (t : Bool) → cond t ((b ∷ []) ∷ []) (onto b []) ≡ take (cond t 1 1) (b ∷ []) ∷ lines (drop (cond t 1 1) (b ∷ []))
    go true = refl
    go false = refl
lines_cons b (x ∷ s) = go (eqb b 10) (lines_cons x s)
  where
    go : (t : Bool) → lines (x ∷ s) ≡ take (line_len (x ∷ s)) (x ∷ s) ∷ lines (drop (line_len (x ∷ s)) (x ∷ s))
        → cond t ((b ∷ []) ∷ lines (x ∷ s)) (onto b (lines (x ∷ s))) ≡ take (cond t 1 (suc (line_len (x ∷ s)))) (b ∷ x ∷ s) ∷ lines (drop (cond t 1 (suc (line_len (x ∷ s)))) (b ∷ x ∷ s))
    go true h = refl
    go false h = ap (onto b) h

pub lines_cut : (s : List ℕ) → 0 < length s → lines s ≡ take (line_len s) s ∷ lines (drop (line_len s) s)
lines_cut [] h = absurd (omega arith)
lines_cut (b ∷ s) h = lines_cons b s

begins-take : (n : ℕ) (s : List ℕ) → 1 ≤ n → 0 < length s → begins (take n s) ≡ eqb (get_or s 0 0) 62
begins-take n [] h k = absurd (omega arith)
begins-take zero (b ∷ s) h k = absurd (omega arith)
begins-take (suc n) (b ∷ s) h k = refl

-- ---- the sequence lines from an offset on

seq-cut : (s : List ℕ) → 0 < length s → seq_of (lines s) ≡ cond (eqb (get_or s 0 0) 62) [] (take (line_len s) s ∷ seq_of (lines (drop (line_len s) s)))
unfolding seq_of
seq-cut s h = rw (lines_cut s h, begins-take (line_len s) s (line_len-pos s h) h)

module _ (s : List ℕ) (at : ℕ) where
  pub seq_at-end : length s ≤ at → seq_at s at ≡ []
  unfolding seq_at seq_of lines
  seq_at-end h = rw (drop_of_length-le s h)

  pub seq_at-cut : at < length s → seq_at s at ≡ cond (eqb (get_or s at 0) 62) [] (part s at (line_end s at) ∷ seq_at s (line_end s at))
  unfolding seq_at
  seq_at-cut h =
      rw (add-sub_cancel_left at (line_len (drop at s)), ← drop-drop (line_len (drop at s)) at s)
      (rw (seq-cut (drop at s) (omega (arith, length-drop at s)), get_or-drop at s 0 0, add-zero at))

  pub seq_at-stop : at < length s → get_or s at 0 ≡ 62 → seq_at s at ≡ []
  seq_at-stop h e = rw (seq_at-cut h, eq-eqb _ _ e)

  pub seq_at-step : at < length s → (get_or s at 0 ≡ 62 → ⊥) → seq_at s at ≡ part s at (line_end s at) ∷ seq_at s (line_end s at)
  seq_at-step h e = rw (seq_at-cut h, ne_eqb _ _ e)

-- ---- without a final byte

pub chop-hit : (b : ℕ) (l : List ℕ) (x : ℕ) → x ≡ b → chop b (l ++ (x ∷ [])) ≡ l
unfolding chop
chop-hit b [] x e = rw (eq-eqb _ _ e)
chop-hit b (y ∷ []) x e = ap (λ (k : List ℕ). y ∷ k) (chop-hit b [] x e)
chop-hit b (y ∷ z ∷ l) x e = ap (λ (k : List ℕ). y ∷ k) (chop-hit b (z ∷ l) x e)

pub chop-miss : (b : ℕ) (l : List ℕ) (x : ℕ) → (x ≡ b → ⊥) → chop b (l ++ (x ∷ [])) ≡ l ++ (x ∷ [])
unfolding chop
chop-miss b [] x e = rw (ne_eqb _ _ e)
chop-miss b (y ∷ []) x e = ap (λ (k : List ℕ). y ∷ k) (chop-miss b [] x e)
chop-miss b (y ∷ z ∷ l) x e = ap (λ (k : List ℕ). y ∷ k) (chop-miss b (z ∷ l) x e)

pub chop-le : (b : ℕ) (l : List ℕ) → length (chop b l) ≤ length l
unfolding chop
chop-le b [] = omega arith
chop-le b (x ∷ []) = go (eqb x b)
  where
    go : (t : Bool) → length (cond t [] (x ∷ [])) ≤ 1
    go true = omega arith
    go false = omega arith
chop-le b (x ∷ y ∷ l) = omega (arith, chop-le b (y ∷ l))

-- by the last byte
module _ (b : ℕ) (l : List ℕ) (n : ℕ) (h : n + 1 ≡ length l) where
  last-split : l ≡ take n l ++ (get_or l n 0 ∷ [])
  last-split = sym (take-length l) ∙ rw (← h, add-one) (take-suc l n 0 (omega arith))

  pub chop-last : get_or l n 0 ≡ b → chop b l ≡ take n l
  chop-last e = ap (chop b) last-split ∙ chop-hit b (take n l) (get_or l n 0) e

  pub chop-keep : (get_or l n 0 ≡ b → ⊥) → chop b l ≡ l
  chop-keep e = ap (chop b) last-split ∙ chop-miss b (take n l) (get_or l n 0) e ∙ sym last-split

pub chop-none : (b : ℕ) (l : List ℕ) → length l ≡ 0 → chop b l ≡ l
unfolding chop
chop-none b [] h = refl
chop-none b (x ∷ l) h = absurd (omega arith)

-- what is left is the front
pub chop-front : (b : ℕ) (l : List ℕ) → take (length (chop b l)) l ≡ chop b l
unfolding chop
chop-front b [] = refl
chop-front b (x ∷ []) = go (eqb x b)
  where
    go : (t : Bool) → take (length (cond t [] (x ∷ []))) (x ∷ []) ≡ cond t [] (x ∷ [])
    go true = refl
    go false = refl
chop-front b (x ∷ y ∷ l) = ap (λ (k : List ℕ). x ∷ k) (chop-front b (y ∷ l))

pub ends-chop : (b : ℕ) (l : List ℕ) → ends b l ≡ ltb (length (chop b l)) (length l)
unfolding ends chop
ends-chop b [] = refl
ends-chop b (x ∷ []) = go (eqb x b)
  where
    go : (t : Bool) → t ≡ ltb (length (cond t [] (x ∷ []))) 1
    go true = refl
    go false = refl
ends-chop b (x ∷ y ∷ l) = ends-chop b (y ∷ l) ∙ sym (leb-suc-suc (suc (length (chop b (y ∷ l)))) (length (y ∷ l)))

-- the content of a line, by whether an LF came off
pub content-whole : (l : List ℕ) → length (chop 10 l) ≡ length l → content_of l ≡ l
unfolding content_of
content-whole l e = rw (ends-chop 10 l, le-ltb (length (chop 10 l)) (length l) (omega arith))

pub content-cut : (l : List ℕ) → (length (chop 10 l) ≡ length l → ⊥) → content_of l ≡ bases_of l
unfolding content_of
content-cut l e = rw (ends-chop 10 l, lt-ltb (length (chop 10 l)) (length l) (omega (arith, chop-le 10 l)))

-- ---- a part of the bytes

pub part_none : (s : List ℕ) (at e : ℕ) → e ≤ at → part s at e ≡ []
part_none s at e h = go (e - at) (omega arith)
  where
    go : (n : ℕ) → n ≡ 0 → take n (drop at s) ≡ []
    go n h = rw h

pub part-snoc : (s : List ℕ) (at e n : ℕ) → at ≤ n → n < length s → n + 1 ≡ e → part s at e ≡ part s at n ++ (get_or s n 0 ∷ [])
part-snoc s at e n h k m = rw (q, take-suc (drop at s) (n - at) 0 (omega (arith, length-drop at s)), get_or-drop at s (n - at) 0, p)
  where
    p : at + (n - at) ≡ n
    p = omega arith

    q : e - at ≡ suc (n - at)
    q = omega arith

pub part_length : (s : List ℕ) (at e : ℕ) → e ≤ length s → length (part s at e) ≡ e - at
part_length s at e h = length-take-le (e - at) (drop at s) (omega (arith, length-drop at s))

pub part_same : (s : List ℕ) (at e : ℕ) → at ≤ e → length (part s at e) ≤ e - at
part_same s at e h = omega (arith, length-take (e - at) (drop at s))

-- ---- what the code finds at an offset

module _ (s : List ℕ) (at : ℕ) where
  pub ends-here : at < length s → eqb (get_or s at 0) 62 ≡ none (seq_at s at)
  ends-here h = rw (seq_at-cut s at h) (go (eqb (get_or s at 0) 62))
    where
      go : (t : Bool) → t ≡ none (cond t [] (part s at (line_end s at) ∷ seq_at s (line_end s at)))
      go true = refl
      go false = refl

  pub ends-past : length s ≤ at → true ≡ none (seq_at s at)
  ends-past h = rw (seq_at-end s at h)

  pub some-here : none (seq_at s at) ≡ false → at < length s
  some-here n = go (ltb at (length s)) refl
    where
      go : (t : Bool) → ltb at (length s) ≡ t → at < length s
      go true e = ltb-true _ _ e
      go false e = absurd (true≢false (ends-past (ltb-false _ _ e) ∙ n))

  pub some-line : none (seq_at s at) ≡ false → seq_at s at ≡ part s at (line_end s at) ∷ seq_at s (line_end s at)
  some-line n = seq_at-cut s at (some-here n) ∙ rw (ends-here (some-here n) ∙ n)

  pub no-line : none (seq_at s at) ≡ true → seq_at s at ≡ []
  no-line n = go (seq_at s at) n
    where
      go : (ls : List (List ℕ)) → none ls ≡ true → ls ≡ []
      go [] e = refl
      go (l ∷ ls) e = absurd (true≢false (sym e))

  -- the line at an offset, by its end and its bases
  pub line-here : (e k : ℕ) → none (seq_at s at) ≡ false → e ≡ line_end s at → k ≡ length (bases_of (part s at e))
      → record { width = e - at; bases = k } ≡ first_line (seq_at s at)
  line-here e k n h b =
      rw (some-line n, ← h, b, part_length s at e (rw h (line_end-le s at (omega (arith, some-here n)))))

-- ---- a part from its front

pub part-cons : (s : List ℕ) (at e : ℕ) → at < e → e ≤ length s → part s at e ≡ get_or s at 0 ∷ part s (suc at) e
part-cons s at e h k = rw (drop-cons s at 0 (omega arith), q)
  where
    q : e - at ≡ suc (e - suc at)
    q = omega arith

pub part-front : (s : List ℕ) (e : ℕ) → part s 0 e ≡ take e s
part-front s e = rw (sub-zero e)

take-drop : (s : List ℕ) (at n : ℕ) → take n (drop at s) ≡ drop at (take (at + n) s)
take-drop s zero n = rw (zero-add n)
take-drop [] (suc at) n = rw (take-nil {A = ℕ} n, take-nil {A = ℕ} (suc at + n))
take-drop (b ∷ s) (suc at) n = rw (suc-add at n) (take-drop s at n)

pub part_slice : (s : List ℕ) (at e : ℕ) → at ≤ e → part s at e ≡ drop at (take e s)
part_slice s at e h = take-drop s at (e - at) ∙ ap (λ (n : ℕ). drop at (take n s)) q
  where
    q : at + (e - at) ≡ e
    q = omega arith

-- ---- the line at an offset, and those behind it

pub bases-le : (ls : List (List ℕ)) → (first_line ls).bases ≤ (first_line ls).width
bases-le [] = omega arith
bases-le (l ∷ ls) = omega (arith, chop-le 13 (chop 10 l), chop-le 10 l)

module _ (s : List ℕ) (at : ℕ) (h : at ≤ length s) where
  first-end : none (seq_at s at) ≡ false → at + (first_line (seq_at s at)).width ≡ line_end s at
  first-end n = rw (some-line s at n, part_length s at (line_end s at) (line_end-le s at h)) (omega arith)

  pub first-within : at + (first_line (seq_at s at)).width ≤ length s
  first-within = go (none (seq_at s at)) refl
    where
      go : (t : Bool) → none (seq_at s at) ≡ t → at + (first_line (seq_at s at)).width ≤ length s
      go true e = rw (no-line s at e) (omega arith)
      go false e = omega (arith, first-end e, line_end-le s at h)

  pub seq_at-next : seq_at s (at + (first_line (seq_at s at)).width) ≡ tail_of (seq_at s at)
  seq_at-next = go (none (seq_at s at)) refl
    where
      go : (t : Bool) → none (seq_at s at) ≡ t → seq_at s (at + (first_line (seq_at s at)).width) ≡ tail_of (seq_at s at)
      go true e = rw (no-line s at e, add-zero at) (no-line s at e)
      go false e = ap (seq_at s) (first-end e) ∙ ap tail_of (sym (some-line s at e))

pub lines_at-cut : (s : List ℕ) (at : ℕ) → at < length s → lines (drop at s) ≡ part s at (line_end s at) ∷ lines (drop (line_end s at) s)
lines_at-cut s at h =
    rw (add-sub_cancel_left at (line_len (drop at s)), ← drop-drop (line_len (drop at s)) at s)
    (lines_cut (drop at s) (omega (arith, length-drop at s)))

pub line_end-gt : (s : List ℕ) (at : ℕ) → at < length s → at < line_end s at
line_end-gt s at h = omega (arith, line_len-pos (drop at s) (omega (arith, length-drop at s)))

pub first-grows : (s : List ℕ) (at : ℕ) → at ≤ length s → none (seq_at s at) ≡ false → at < at + (first_line (seq_at s at)).width
first-grows s at h n = omega (arith, first-end s at h n, line_end-gt s at (some-here s at n))

-- ---- reading a line at a place

module _ (s : List ℕ) (c : Cursor) where
  pub read-end : length s ≤ c.at → None ≡ read_line s c
  unfolding read_line lines
  read-end h = rw (drop_of_length-le s h)

  pub read_here : (e k : ℕ) → c.at < length s → e ≡ line_end s c.at → k ≡ length (content_of (part s c.at e))
      → Some (record { start = c.at; length = k }, record { at = e }) ≡ read_line s c
  unfolding read_line
  read_here e k h p q =
      let m : line_end s c.at ≡ c.at + (line_end s c.at - c.at) = omega arith in
      rw (lines_at-cut s c.at h, part_length s c.at (line_end s c.at) (line_end-le s c.at (omega arith)), q, p, ← m)

-- a line read by its content: its bytes are some of the line's, and the place moves on
pub read_line-is : (s : List ℕ) (c n : Cursor) (x : Span) → read_line s c ≡ Some (x, n)
    → (c.at < length s) × (n.at ≡ line_end s c.at) × (x.start ≡ c.at) × (x.length ≡ length (content_of (part s c.at (line_end s c.at))))
read_line-is s c n x r = go (ltb c.at (length s)) refl
  where
    go : (t : Bool) → ltb c.at (length s) ≡ t
        → (c.at < length s) × (n.at ≡ line_end s c.at) × (x.start ≡ c.at) × (x.length ≡ length (content_of (part s c.at (line_end s c.at))))
    go true e =
        let h : c.at < length s = ltb-true _ _ e in
        let q = read_here s c (line_end s c.at) (length (content_of (part s c.at (line_end s c.at)))) h refl refl in
        let u : ◌≡◌ {A = Span × Cursor} (x, n) (record { start = c.at; length = length (content_of (part s c.at (line_end s c.at))) }, record { at = line_end s c.at }) = cc in
        (h, ap (λ (y : Span × Cursor). y.1.at) u, ap (λ (y : Span × Cursor). y.0.start) u, ap (λ (y : Span × Cursor). y.0.length) u)
    go false e =
        let q = read-end s c (ltb-false _ _ e) in
        let z : ◌≡◌ {A = ℕ} 0 1 = cc in
        absurd (omega arith)

pub read_line-none : (s : List ℕ) (c : Cursor) → read_line s c ≡ None → length s ≤ c.at
read_line-none s c r = go (ltb c.at (length s)) refl
  where
    go : (t : Bool) → ltb c.at (length s) ≡ t → length s ≤ c.at
    go true e =
        let q = read_here s c (line_end s c.at) (length (content_of (part s c.at (line_end s c.at)))) (ltb-true _ _ e) refl refl in
        let z : ◌≡◌ {A = ℕ} 0 1 = cc in
        absurd (omega arith)
    go false e = ltb-false _ _ e

-- ---- the content of a line is its front

pub bases-front : (l : List ℕ) → take (length (bases_of l)) l ≡ bases_of l
bases-front l =
    let k : length (bases_of l) ≤ length (chop 10 l) = chop-le 13 (chop 10 l) in
    sym (take-take (length (bases_of l)) (length (chop 10 l)) l k) ∙ ap (take (length (bases_of l))) (chop-front 10 l) ∙ chop-front 13 (chop 10 l)

pub content-le : (l : List ℕ) → length (content_of l) ≤ length l
unfolding content_of
content-le l = go (ends 10 l)
  where
    go : (t : Bool) → length (cond t (bases_of l) l) ≤ length l
    go true = omega (arith, chop-le 13 (chop 10 l), chop-le 10 l)
    go false = omega arith

pub content-front : (l : List ℕ) → take (length (content_of l)) l ≡ content_of l
unfolding content_of
content-front l = go (ends 10 l)
  where
    go : (t : Bool) → take (length (cond t (bases_of l) l)) l ≡ cond t (bases_of l) l
    go true = bases-front l
    go false = take-length l
