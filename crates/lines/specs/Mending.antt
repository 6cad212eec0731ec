-- One byte of a file replaced by another, where neither is an LF: its lines afterwards. And where the byte is a base, and the new one could
-- be a base anywhere: as many bases, at the same places, and only that one another.
use Rattle.std.specs.Prelude.{ℕ, zero, suc, ◌+◌, ◌-◌, ◌≤◌, ◌<◌, ◌≡◌, Bool, get_or, set, eqb}
use Rattle.std.proofs.Math.Path.{refl}
use Rattle.std.proofs.Common.{ap, sym, ◌∙◌, zero-add}
use mathlib.Core.List.{List, [], ◌∷◌, ◌++◌}
use Rattle.std.proofs.Math.Bool.{true, false, cond}
use Rattle.std.proofs.Math.ListN.{length, length-set}
use Rattle.std.proofs.lemmas.List.{set-append_left}
use Rattle.std.proofs.Math.Dec.{ltb, leb-suc-suc, leb-suc-zero}
use borrow.Author.Tests.{ne_eqb, eqb-true, eqb-false, lt-ltb, le-ltb, ltb-false}
use native.Mathlib.Omega.{arith}
use Rattle.std.proofs.Math.Nat.{add-sub_cancel_left}
use Rattle.lines.specs.Lines.{lines, line_byte, onto, chop, bases_of, begins, seq_of, all_bases, sum_bases, sum_widths, bases_at}
use Rattle.lines.specs.GroupLaws.{after_seq}
use Rattle.lines.specs.Laws.{chop-le}

-- some lines, with the byte at an offset into them replaced
unfoldable pub set_in : List (List ℕ) → ℕ → ℕ → List (List ℕ)
set_in [] o b = []
set_in (l ∷ ls) o b = cond (ltb o (length l)) (set l o b ∷ ls) (l ∷ set_in ls (o - length l) b)

-- in the first line, and behind it
pub set_first : (l : List ℕ) (ls : List (List ℕ)) (o b : ℕ) → o < length l → set_in (l ∷ ls) o b ≡ set l o b ∷ ls
unfolding set_in
set_first l ls o b h = rw (lt-ltb o (length l) h)

pub set-later : (l : List ℕ) (ls : List (List ℕ)) (o b : ℕ) → set_in (l ∷ ls) (length l + o) b ≡ l ∷ set_in ls o b
unfolding set_in
set-later l ls o b = rw (le-ltb (length l + o) (length l) (omega arith), add-sub_cancel_left (length l) o)

-- ---- the lines of a file

pub lines-set : (f : List ℕ) (o b : ℕ) → (o < length f → get_or f o 0 ≡ 10 → ⊥) → (b ≡ 10 → ⊥) → lines (set f o b) ≡ set_in (lines f) o b
unfolding lines set_in
lines-set [] o b n m = refl
lines-set (x ∷ s) zero b n m = rw (ne_eqb b 10 m, ne_eqb x 10 (n (omega arith))) (go (lines s))
  where
    go : (ls : List (List ℕ)) → onto b ls ≡ set_in (onto x ls) 0 b
    go [] = refl
    go (l ∷ ls) = rw (lt-ltb 0 (suc (length l)) (omega arith))
lines-set (x ∷ s) (suc o) b n m = ap (line_byte x) (lines-set s o b (λ h. n (omega arith)) m) ∙ go (eqb x 10) (lines s)
  where
    past : ltb (suc o) 1 ≡ false
    past = leb-suc-suc (suc o) 0 ∙ leb-suc-zero o

    back : suc o - 1 ≡ o
    back = omega arith

    go : (t : Bool) (ls : List (List ℕ)) → cond t ((x ∷ []) ∷ set_in ls o b) (onto x (set_in ls o b)) ≡ set_in (cond t ((x ∷ []) ∷ ls) (onto x ls)) (suc o) b
    go true ls = rw (past, back)
    go false [] = rw past
    go false (l ∷ ls) = rw (leb-suc-suc (suc o) (length l)) (turn (ltb o (length l)))
      where
        turn : (u : Bool) → onto x (cond u (set l o b ∷ ls) (l ∷ set_in ls (o - length l) b)) ≡ cond u (set (x ∷ l) (suc o) b ∷ ls) ((x ∷ l) ∷ set_in ls (suc o - suc (length l)) b)
        turn true = refl
        turn false = rw less
          where
            less : suc o - suc (length l) ≡ o - length l
            less = omega arith

-- as many bytes
pub widths-set : (ls : List (List ℕ)) (o b : ℕ) → sum_widths (set_in ls o b) ≡ sum_widths ls
unfolding set_in sum_widths
widths-set [] o b = refl
widths-set (l ∷ ls) o b = go (ltb o (length l)) (widths-set ls (o - length l) b)
  where
    go : (t : Bool) → sum_widths (set_in ls (o - length l) b) ≡ sum_widths ls → sum_widths (cond t (set l o b ∷ ls) (l ∷ set_in ls (o - length l) b)) ≡ length l + sum_widths ls
    go true h = rw (length-set l o b)
    go false h = rw h

-- ---- the bases of a line

chop-set : (x : ℕ) (l : List ℕ) (c b : ℕ) → (b ≡ x → ⊥) → c < length (chop x l) → chop x (set l c b) ≡ set (chop x l) c b
unfolding chop
chop-set x [] c b n h = refl
chop-set x (y ∷ []) zero b n h = rw (ne_eqb b x n) (go (eqb y x) h)
  where
    go : (t : Bool) → 0 < length (cond t [] (y ∷ [])) → b ∷ [] ≡ set (cond t [] (y ∷ [])) 0 b
    go true k = absurd (omega arith)
    go false k = refl
chop-set x (y ∷ []) (suc c) b n h = absurd (omega (arith, chop-le x (y ∷ [])))
chop-set x (y ∷ z ∷ l) zero b n h = refl
chop-set x (y ∷ z ∷ l) (suc zero) b n h = ap (λ (k : List ℕ). y ∷ k) (chop-set x (z ∷ l) zero b n (omega arith))
chop-set x (y ∷ z ∷ l) (suc (suc c)) b n h = ap (λ (k : List ℕ). y ∷ k) (chop-set x (z ∷ l) (suc c) b n (omega arith))

pub bases-set : (l : List ℕ) (c b : ℕ) → (b ≡ 10 → ⊥) → (b ≡ 13 → ⊥) → c < length (bases_of l) → bases_of (set l c b) ≡ set (bases_of l) c b
bases-set l c b n m h = ap (chop 13) (chop-set 10 l c b n (omega (arith, chop-le 13 (chop 10 l)))) ∙ chop-set 13 (chop 10 l) c b m h

-- ---- the bases of some lines

-- byte number c of some lines, from 0, is their base number j, from 0
pub data BaseOf : List (List ℕ) → ℕ → ℕ → Type 0 where
  first : {l : List ℕ} {ls : List (List ℕ)} {c j : ℕ} → c < length (bases_of l) → j ≡ c → BaseOf (l ∷ ls) c j
  later : {l : List ℕ} {ls : List (List ℕ)} {c j d i : ℕ} → BaseOf ls d i → c ≡ length l + d → j ≡ length (bases_of l) + i → BaseOf (l ∷ ls) c j

bases-few : (l : List ℕ) → length (bases_of l) ≤ length l
bases-few l = omega (arith, chop-le 13 (chop 10 l), chop-le 10 l)

-- it is one of their bytes, and one of their bases
pub base-byte-within : {ls : List (List ℕ)} {c j : ℕ} → BaseOf ls c j → c < sum_widths ls
unfolding sum_widths
base-byte-within (first {l} h q) = omega (arith, bases-few l)
base-byte-within (later r p q) = omega (arith, base-byte-within r)

pub base-within : {ls : List (List ℕ)} {c j : ℕ} → BaseOf ls c j → j < sum_bases ls
unfolding sum_bases
base-within (first h q) = omega arith
base-within (later r p q) = omega (arith, base-within r)

set_append_right : (xs ys : List ℕ) (i a : ℕ) → set (xs ++ ys) (length xs + i) a ≡ xs ++ set ys i a
set_append_right [] ys i a = rw (zero-add i)
set_append_right (x ∷ xs) ys i a = go (suc (length xs) + i) (length xs + i) (omega arith) (set_append_right xs ys i a)
  where
    go : (n m : ℕ) → n ≡ suc m → set (xs ++ ys) m a ≡ xs ++ set ys i a → set (x ∷ (xs ++ ys)) n a ≡ x ∷ (xs ++ set ys i a)
    go n m e h = rw (e, h)

module _ (b : ℕ) (lf : b ≡ 10 → ⊥) (cr : b ≡ 13 → ⊥) where
  line_same : (l : List ℕ) (c : ℕ) → c < length (bases_of l) → length (bases_of (set l c b)) ≡ length (bases_of l)
  line_same l c h = ap length (bases-set l c b lf cr h) ∙ length-set (bases_of l) c b

  -- as many bases
  pub sums-set : {ls : List (List ℕ)} {c j : ℕ} → BaseOf ls c j → sum_bases (set_in ls c b) ≡ sum_bases ls
  unfolding sum_bases
  sums-set (first {l} {ls} {c} h q) = rw (set_first l ls c b (omega (arith, bases-few l)), line_same l c h)
  sums-set (later {l} {ls} {c} {j} {d} {i} r p q) = rw (p, set-later l ls d b, sums-set r)

  -- at the same places
  pub places-set : {ls : List (List ℕ)} {c j : ℕ} → BaseOf ls c j → (at : ℕ) → bases_at at (set_in ls c b) ≡ bases_at at ls
  unfolding bases_at
  places-set (first {l} {ls} {c} h q) at = rw (set_first l ls c b (omega (arith, bases-few l)), line_same l c h, length-set l c b)
  places-set (later {l} {ls} {c} {j} {d} {i} r p q) at = rw (p, set-later l ls d b, places-set r (at + length l))

  -- and only that one is another
  pub bases-changed : {ls : List (List ℕ)} {c j : ℕ} → BaseOf ls c j → all_bases (set_in ls c b) ≡ set (all_bases ls) j b
  unfolding all_bases
  bases-changed (first {l} {ls} {c} h q) = rw (set_first l ls c b (omega (arith, bases-few l)), bases-set l c b lf cr h, q) (sym (set-append_left (bases_of l) (all_bases ls) c b h))
  bases-changed (later {l} {ls} {c} {j} {d} {i} r p q) = rw (p, set-later l ls d b, bases-changed r, q) (sym (set_append_right (bases_of l) (all_bases ls) i b))

-- ---- a sequence, and what is behind it

begins-set : (l : List ℕ) (c b : ℕ) → (b ≡ 62 → ⊥) → begins l ≡ false → begins (set l c b) ≡ false
begins-set [] c b n h = refl
begins-set (x ∷ l) zero b n h = ne_eqb b 62 n
begins-set (x ∷ l) (suc c) b n h = h

-- a byte of the sequence
module _ (b : ℕ) (n : b ≡ 62 → ⊥) where
  pub seq-set : (ls : List (List ℕ)) (o : ℕ) → o < sum_widths (seq_of ls) → seq_of (set_in ls o b) ≡ set_in (seq_of ls) o b
  unfolding seq_of set_in sum_widths
  seq-set [] o h = refl
  seq-set (l ∷ ls) o h = go (begins l) refl h (ltb o (length l)) refl (seq-set ls (o - length l))
    where
      go : (t : Bool) → begins l ≡ t → o < sum_widths (cond t [] (l ∷ seq_of ls)) → (u : Bool) → ltb o (length l) ≡ u
          → (o - length l < sum_widths (seq_of ls) → seq_of (set_in ls (o - length l) b) ≡ set_in (seq_of ls) (o - length l) b)
          → seq_of (cond u (set l o b ∷ ls) (l ∷ set_in ls (o - length l) b)) ≡ set_in (cond t [] (l ∷ seq_of ls)) o b
      go true e k u v r = absurd (omega arith)
      go false e k true v r = rw (begins-set l o b n e, v)
      go false e k false v r = rw (e, v, r (omega (arith, ltb-false o (length l) v)))

  pub after-set : (ls : List (List ℕ)) (o : ℕ) → o < sum_widths (seq_of ls) → after_seq (set_in ls o b) ≡ after_seq ls
  unfolding seq_of set_in sum_widths after_seq
  after-set [] o h = refl
  after-set (l ∷ ls) o h = go (begins l) refl h (ltb o (length l)) refl (after-set ls (o - length l))
    where
      go : (t : Bool) → begins l ≡ t → o < sum_widths (cond t [] (l ∷ seq_of ls)) → (u : Bool) → ltb o (length l) ≡ u
          → (o - length l < sum_widths (seq_of ls) → after_seq (set_in ls (o - length l) b) ≡ after_seq ls)
          → after_seq (cond u (set l o b ∷ ls) (l ∷ set_in ls (o - length l) b)) ≡ cond t (l ∷ ls) (after_seq ls)
      go true e k u v r = absurd (omega arith)
      go false e k true v r = rw (begins-set l o b n e)
      go false e k false v r = rw (e, r (omega (arith, ltb-false o (length l) v)))

-- a byte behind it, past the '>' there
begins-keep : (l : List ℕ) (c b : ℕ) → 0 < c → begins (set l c b) ≡ begins l
begins-keep [] c b h = refl
begins-keep (x ∷ l) zero b h = absurd (omega arith)
begins-keep (x ∷ l) (suc c) b h = refl

module _ (b d : ℕ) (z : 0 < d) where
  kept : (l : List ℕ) (ls : List (List ℕ)) → begins l ≡ true → (seq_of (set_in (l ∷ ls) d b) ≡ []) × (after_seq (set_in (l ∷ ls) d b) ≡ set_in (l ∷ ls) d b)
  unfolding set_in seq_of after_seq
  kept l ls e = go (ltb d (length l))
    where
      go : (t : Bool) → (seq_of (cond t (set l d b ∷ ls) (l ∷ set_in ls (d - length l) b)) ≡ [])
          × (after_seq (cond t (set l d b ∷ ls) (l ∷ set_in ls (d - length l) b)) ≡ cond t (set l d b ∷ ls) (l ∷ set_in ls (d - length l) b))
      go true = (rw (begins-keep l d b z, e), rw (begins-keep l d b z, e))
      go false = (rw e, rw e)

  pub past-set : (ls : List (List ℕ)) → (seq_of (set_in ls (sum_widths (seq_of ls) + d) b) ≡ seq_of ls) × (after_seq (set_in ls (sum_widths (seq_of ls) + d) b) ≡ set_in (after_seq ls) d b)
  unfolding seq_of after_seq sum_widths
  past-set [] = unfold set_in in (refl, refl)
  past-set (l ∷ ls) = go (begins l) refl (past-set ls)
    where
      go : (t : Bool) → begins l ≡ t → (seq_of (set_in ls (sum_widths (seq_of ls) + d) b) ≡ seq_of ls) × (after_seq (set_in ls (sum_widths (seq_of ls) + d) b) ≡ set_in (after_seq ls) d b)
          → (seq_of (set_in (l ∷ ls) (sum_widths (cond t [] (l ∷ seq_of ls)) + d) b) ≡ cond t [] (l ∷ seq_of ls))
          × (after_seq (set_in (l ∷ ls) (sum_widths (cond t [] (l ∷ seq_of ls)) + d) b) ≡ set_in (cond t (l ∷ ls) (after_seq ls)) d b)
      go true e r = rw (zero-add d) (kept l ls e)
      go false e r =
          let q : length l + sum_widths (seq_of ls) + d ≡ length l + (sum_widths (seq_of ls) + d) = omega arith in
          rw (q, set-later l ls (sum_widths (seq_of ls) + d) b, e) (ap (λ (k : List (List ℕ)). l ∷ k) r.0, r.1)

-- ---- a base is no LF

-- a base of a sequence is one of the lines it is taken from
pub base-seq : (ls : List (List ℕ)) (c j : ℕ) → BaseOf (seq_of ls) c j → BaseOf ls c j
unfolding seq_of sum_bases
base-seq [] c j r = r
base-seq (l ∷ ls) c j r = go (begins l) r (λ d i. base-seq ls d i)
  where
    go : (t : Bool) → BaseOf (cond t [] (l ∷ seq_of ls)) c j → ((d i : ℕ) → BaseOf (seq_of ls) d i → BaseOf ls d i) → BaseOf (l ∷ ls) c j
    go true k h = absurd (omega (arith, base-within k))
    go false (first m q) h = first m q
    go false (later {d = d} {i = i} k p q) h = later (h d i k) p q

bases-cons : (x : ℕ) (l : List ℕ) → length (bases_of (x ∷ l)) ≤ suc (length (bases_of l))
unfolding chop
bases-cons x [] = omega (arith, bases-few (x ∷ []))
bases-cons x (y ∷ l) = go (chop 10 (y ∷ l))
  where
    go : (k : List ℕ) → length (chop 13 (x ∷ k)) ≤ suc (length (chop 13 k))
    go [] = omega (arith, chop-le 13 (x ∷ []))
    go (z ∷ k) = omega arith

no-base : length (bases_of (10 ∷ [])) ≡ 0
unfolding chop
no-base = refl

pub base-no-lf : (s : List ℕ) (c j : ℕ) → BaseOf (lines s) c j → get_or s c 0 ≡ 10 → ⊥
unfolding lines sum_bases
base-no-lf [] c j r e = omega (arith, base-within r)
base-no-lf (x ∷ s) c j r e = go (eqb x 10) refl (lines s) (λ d i. base-no-lf s d i) c r e
  where
    go : (t : Bool) → eqb x 10 ≡ t → (ls : List (List ℕ)) → ((d i : ℕ) → BaseOf ls d i → get_or s d 0 ≡ 10 → ⊥) → (c : ℕ) → BaseOf (cond t ((x ∷ []) ∷ ls) (onto x ls)) c j → get_or (x ∷ s) c 0 ≡ 10 → ⊥
    go true q ls ih c (first m p) e = omega (arith, no-base, ap (λ (y : ℕ). length (bases_of (y ∷ []))) (eqb-true x 10 q))
    go true q ls ih zero (later k p n) e = omega arith
    go true q ls ih (suc c) (later {d = d} {i = i} k p n) e = let w : c ≡ d = omega arith in ih d i k (rw w at e)
    go false q [] ih zero k e = eqb-false x 10 q e
    go false q [] ih (suc c) (first m p) e = omega (arith, bases-few (x ∷ []))
    go false q [] ih (suc c) (later k p n) e = omega (arith, base-within k)
    go false q (l ∷ ls) ih zero k e = eqb-false x 10 q e
    go false q (l ∷ ls) ih (suc c) (first m p) e = ih c c (first (omega (arith, bases-cons x l)) refl) e
    go false q (l ∷ ls) ih (suc c) (later {d = d} {i = i} k p n) e = ih c (length (bases_of l) + i) (later k (omega arith) refl) e
