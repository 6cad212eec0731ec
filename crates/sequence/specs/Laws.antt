-- Laws of the scanning rule: how the bytes at a place decide a scan from there.
use Prim.Native.Nat.{ℕ, zero, suc, ◌+◌, ◌-◌, min, ◌≤◌, ◌<◌}
use Rattle.std.proofs.Math.Path.{◌≡◌, refl, ap}
use Rattle.std.proofs.Common.{sym, ◌∙◌, drop_of_length-le, length-drop, take-append-drop, length-append, length-take, drop-cons, take-take, length-take-le, arith, zero-add, add_assoc, Result, Ok}
use mathlib.Core.List.{List, [], ◌∷◌, ◌++◌, append-nil, append_assoc}
use Rattle.std.specs.Prelude.{Bool, take, drop, get_or}
use Rattle.std.proofs.Math.Bool.{true, false, cond}
use Rattle.std.proofs.Math.ListN.{length}
use Rattle.std.proofs.Math.Seq.{drop-drop, paste}
use Rattle.std.proofs.lemmas.List.{take-append-le}
use Rattle.std.proofs.lemmas.List.Edits.{length-paste, take-paste, drop-paste}
use Rattle.std.proofs.Math.Dec.{eqb, leb, leb-suc-zero}
use borrow.Author.Tests.{eqb-true, leb-true, leb-false, lt-leb}
use Rattle.std.proofs.Math.Numerals.{add-one}
use Rattle.std.proofs.Math.Nat.{add-zero, add-suc, suc-add, sub-zero, sub_self}
use Rattle.refusal.specs.declared.Refusal.{Refusal}
use Rattle.lines.specs.declared.Cursor.{Cursor}
use Rattle.lines.specs.declared.Span.{Span}
use Rattle.lines.specs.Lines.{lines, line_len, onto, chop, bases_of, begins, seq_of, seq_at, first_line, sum_widths}
use Rattle.lines.specs.Sums.{widths-lines}
use Rattle.lines.specs.Laws.{chop-front, chop-le, bases-front, lines_cut, bases-le, first-within, seq_at-end}
use Rattle.sequence.specs.Scan.{ends_line, skipped, skip_to, run_at, Scan, nothing, joined, bare, up_to, scan_from, scan_at, scan_all}
use Rattle.output.specs.Outcome.{Outcome, leaves}
use Rattle.sequence.specs.Read.{written}

-- the smaller of two numbers
abbrev pub capped : ℕ → ℕ → ℕ
capped m n = cond (leb m n) m n

pub capped-min : (m n r : ℕ) → r ≡ min n m → r ≡ capped m n
capped-min m n r e = go (leb m n) refl
  where
    go : (t : Bool) → leb m n ≡ t → r ≡ cond t m n
    go true h = omega (arith, leb-true m n h)
    go false h = omega (arith, leb-false m n h)

-- one step that gives at most so many bases
unfoldable pub piece_at : List ℕ → ℕ → ℕ → Span
piece_at s limit at = record { start = (run_at s at).start; length = capped limit (run_at s at).length }

-- ---- the CR and LF at an offset

module _ (s : List ℕ) (i : ℕ) where
  pub skip-hit : i < length s → ends_line (get_or s i 0) ≡ true → skip_to s i ≡ skip_to s (i + 1)
  unfolding skip_to skipped
  skip-hit h e = rw (drop-cons s i 0 h, e, add-one i, add-suc, suc-add)

  pub skip-miss : i < length s → ends_line (get_or s i 0) ≡ false → skip_to s i ≡ i
  unfolding skip_to skipped
  skip-miss h e = rw (drop-cons s i 0 h, e, add-zero i)

  pub skip-end : length s ≤ i → skip_to s i ≡ i
  unfolding skip_to skipped
  skip-end h = rw (drop_of_length-le s h, add-zero i)

-- ---- a scan skips them

module _ (b : ℕ) (e : ends_line b ≡ true) (n at : ℕ) where
  skip-alone : (ls : List (List ℕ)) → scan_from ((b ∷ []) ∷ ls) (suc n) at ≡ scan_from ls (suc n) (suc at)
  unfolding scan_from skipped chop
  skip-alone ls = rw (e, leb-suc-zero n, sub-zero (suc n), add-one at)

  skip-front : (l : List ℕ) (ls : List (List ℕ)) → scan_from ((b ∷ l) ∷ ls) (suc n) at ≡ scan_from (l ∷ ls) (suc n) (suc at)
  unfolding scan_from skipped
  skip-front l ls = rw (e, add-suc at (skipped l), ← suc-add at (skipped l), add-suc at (length l), ← suc-add at (length l))

  skip-onto : (ls : List (List ℕ)) → scan_from (onto b ls) (suc n) at ≡ scan_from ls (suc n) (suc at)
  skip-onto [] = skip-alone []
  skip-onto (l ∷ ls) = skip-front l ls

  skip-one : (s : List ℕ) → scan_from (lines (b ∷ s)) (suc n) at ≡ scan_from (lines s) (suc n) (suc at)
  unfolding lines
  skip-one s = go (eqb b 10)
    where
      go : (t : Bool) → scan_from (cond t ((b ∷ []) ∷ lines s) (onto b (lines s))) (suc n) at ≡ scan_from (lines s) (suc n) (suc at)
      go true = skip-alone (lines s)
      go false = skip-onto (lines s)

skip_all : (s : List ℕ) (n at : ℕ) → scan_from (lines s) (suc n) at ≡ scan_from (lines (drop (skipped s) s)) (suc n) (at + skipped s)
unfolding skipped
skip_all [] n at = rw (add-zero at)
skip_all (b ∷ s) n at = go (ends_line b) refl (skip_all s n (suc at))
  where
    go : (t : Bool) → ends_line b ≡ t → scan_from (lines s) (suc n) (suc at) ≡ scan_from (lines (drop (skipped s) s)) (suc n) (suc at + skipped s)
        → scan_from (lines (b ∷ s)) (suc n) at ≡ scan_from (lines (drop (cond t (suc (skipped s)) 0) (b ∷ s))) (suc n) (at + cond t (suc (skipped s)) 0)
    go true e h = rw (add-suc at (skipped s), ← suc-add at (skipped s)) (skip-one b e n at s ∙ h)
    go false e h = rw (add-zero at)

-- ---- the bases of a line, and its end

bases-ahead : (l s : List ℕ) → take (length (bases_of l)) (l ++ s) ≡ bases_of l
bases-ahead l s = take-append-le (length (bases_of l)) l s (omega (arith, chop-le 13 (chop 10 l), chop-le 10 l)) ∙ bases-front l

-- a scan goes on behind a final byte that is a CR or an LF
module _ (b : ℕ) (e : ends_line b ≡ true) (n : ℕ) where
  skip-chop : (l s : List ℕ) (at : ℕ) → scan_from (lines (drop (length (chop b l)) (l ++ s))) (suc n) (at + length (chop b l)) ≡ scan_from (lines s) (suc n) (at + length l)
  unfolding chop
  skip-chop [] s at = refl
  skip-chop (x ∷ []) s at = go (eqb x b) refl
    where
      go : (t : Bool) → eqb x b ≡ t → scan_from (lines (drop (length (cond t [] (x ∷ []))) (x ∷ s))) (suc n) (at + length (cond t [] (x ∷ []))) ≡ scan_from (lines s) (suc n) (at + 1)
      go true h = rw (add-zero at, add-one at) (skip-one x (rw (eqb-true x b h) e) n at s)
      go false h = refl
  skip-chop (x ∷ y ∷ l) s at =
      rw (add-suc at (length (chop b (y ∷ l))), ← suc-add at (length (chop b (y ∷ l))), add-suc at (length (y ∷ l)), ← suc-add at (length (y ∷ l))) (skip-chop (y ∷ l) s (suc at))

chop-whole : (b : ℕ) (l s : List ℕ) → chop b l ++ drop (length (chop b l)) (l ++ s) ≡ l ++ s
chop-whole b l s =
    ap (λ (k : List ℕ). k ++ drop (length (chop b l)) (l ++ s)) (sym (take-append-le (length (chop b l)) l s (chop-le b l) ∙ chop-front b l))
    ∙ take-append-drop (length (chop b l)) (l ++ s)

skip-end-of : (l s : List ℕ) (n at : ℕ) → scan_from (lines (drop (length (bases_of l)) (l ++ s))) (suc n) (at + length (bases_of l)) ≡ scan_from (lines s) (suc n) (at + length l)
unfolding ends_line
skip-end-of l s n at =
    ap (λ (d : List ℕ). scan_from (lines (drop (length (bases_of l)) d)) (suc n) (at + length (bases_of l))) (sym (chop-whole 10 l s))
    ∙ skip-chop 13 refl n (chop 10 l) (drop (length (chop 10 l)) (l ++ s)) at
    ∙ skip-chop 10 refl n l s at

-- ---- one step, over the bytes from a place that has no CR or LF

scan-none : (ls : List (List ℕ)) (at : ℕ) → scan_from ls 0 at ≡ nothing at
unfolding scan_from
scan-none [] at = refl
scan-none (l ∷ ls) at = refl

skip-end-for : (l s : List ℕ) (m at : ℕ) → 0 < m → scan_from (lines (drop (length (bases_of l)) (l ++ s))) m (at + length (bases_of l)) ≡ scan_from (lines s) m (at + length l)
skip-end-for l s zero at h = absurd (omega arith)
skip-end-for l s (suc n) at h = skip-end-of l s n at

module _ (l s : List ℕ) (n at : ℕ) (k : ℕ) (is : k ≡ capped (suc n) (length (bases_of l))) where
  line_step : up_to (suc n) at (bases_of l) (scan_from (lines s) (suc n - length (bases_of l)) (at + length l)) ≡ joined (take k (l ++ s)) (scan_from (lines (drop k (l ++ s))) (suc n - k) (at + k))
  line_step = rw is (go (leb (suc n) (length (bases_of l))) refl)
    where
      go : (t : Bool) → leb (suc n) (length (bases_of l)) ≡ t
          → cond t (record { bases = take (suc n) (bases_of l); place = at + suc n }) (joined (bases_of l) (scan_from (lines s) (suc n - length (bases_of l)) (at + length l)))
          ≡ joined (take (cond t (suc n) (length (bases_of l))) (l ++ s)) (scan_from (lines (drop (cond t (suc n) (length (bases_of l))) (l ++ s))) (suc n - cond t (suc n) (length (bases_of l))) (at + cond t (suc n) (length (bases_of l))))
      go true h = rw (sub_self (suc n), scan-none (lines (drop (suc n) (l ++ s))) (at + suc n), append-nil (take (suc n) (l ++ s)), ← bases-ahead l s, take-take (suc n) (length (bases_of l)) (l ++ s) (leb-true _ _ h))
      go false h = rw (bases-ahead l s, skip-end-for l s (suc n - length (bases_of l)) at (omega (arith, leb-false (suc n) (length (bases_of l)) h)))

-- a line that begins with no CR or LF has its first byte as its first base
pub chop-first : (b c : ℕ) (l : List ℕ) → eqb b c ≡ false → chop c (b ∷ l) ≡ b ∷ chop c l
unfolding chop
chop-first b c [] e = rw e
chop-first b c (y ∷ l) e = refl

module _ (b : ℕ) (e : ends_line b ≡ false) where
  no_end : (eqb b 13 ≡ false) × (eqb b 10 ≡ false)
  unfolding ends_line
  no_end = go (eqb b 13) refl e
    where
      go : (t : Bool) → eqb b 13 ≡ t → cond t true (eqb b 10) ≡ false → (eqb b 13 ≡ false) × (eqb b 10 ≡ false)
      go true h k = let z : ◌≡◌ {A = ℕ} 0 1 = cc in absurd (omega arith)
      go false h k = (h, k)

  bases-first : (l : List ℕ) → bases_of (b ∷ l) ≡ b ∷ bases_of l
  bases-first l = rw (chop-first b 10 l no_end.1, chop-first b 13 (chop 10 l) no_end.0)

  lines-first : (s : List ℕ) → lines (b ∷ s) ≡ (b ∷ take (line_len s) s) ∷ lines (drop (line_len s) s)
  unfolding line_len
  lines-first s = lines_cut (b ∷ s) (omega arith) ∙ rw no_end.1

  scan-first : (l : List ℕ) (ls : List (List ℕ)) (n at : ℕ)
      → scan_from ((b ∷ l) ∷ ls) (suc n) at ≡ cond (eqb b 62) (nothing at) (up_to (suc n) at (bases_of (b ∷ l)) (scan_from ls (suc n - length (bases_of (b ∷ l))) (at + length (b ∷ l))))
  unfolding scan_from skipped
  scan-first l ls n at = rw (e, add-zero at)

-- how many bases the sequence line at the front of some bytes has
abbrev run_of : List ℕ → ℕ
run_of d = (first_line (seq_of (lines d))).bases

-- one step from such a byte: nothing at '>', and else a piece of its line, with the scan behind it
module _ (b : ℕ) (e : ends_line b ≡ false) (s : List ℕ) (n at : ℕ) where
  abbrev line : List ℕ
  line = b ∷ take (line_len s) s

  abbrev behind : List ℕ
  behind = drop (line_len s) s

  run-first : run_of (b ∷ s) ≡ cond (eqb b 62) 0 (length (bases_of line))
  unfolding seq_of
  run-first = ap (λ (ls : List (List ℕ)). (first_line (seq_of ls)).bases) (lines-first b e s) ∙ go (eqb b 62)
    where
      go : (t : Bool) → (first_line (cond t [] (line ∷ seq_of (lines behind)))).bases ≡ cond t 0 (length (bases_of line))
      go true = refl
      go false = refl

  scan-here : scan_from (lines (b ∷ s)) (suc n) at ≡ cond (eqb b 62) (nothing at) (up_to (suc n) at (bases_of line) (scan_from (lines behind) (suc n - length (bases_of line)) (at + length line)))
  scan-here = rw (lines-first b e s) (scan-first b e (take (line_len s) s) (lines behind) n at)

  stop-first : run_of (b ∷ s) ≡ 0 → scan_from (lines (b ∷ s)) (suc n) at ≡ nothing at
  stop-first r = scan-here ∙ go (eqb b 62) (sym run-first ∙ r)
    where
      go : (t : Bool) → cond t 0 (length (bases_of line)) ≡ 0 → cond t (nothing at) (up_to (suc n) at (bases_of line) (scan_from (lines behind) (suc n - length (bases_of line)) (at + length line))) ≡ nothing at
      go true h = refl
      go false h = absurd (omega (arith, ap length (bases-first b e (take (line_len s) s))))

  step-first : (k : ℕ) → 0 < run_of (b ∷ s) → k ≡ capped (suc n) (run_of (b ∷ s)) → scan_from (lines (b ∷ s)) (suc n) at ≡ joined (take k (b ∷ s)) (scan_from (lines (drop k (b ∷ s))) (suc n - k) (at + k))
  step-first k r is = scan-here ∙ go (eqb b 62) (rw run-first at r) (rw run-first at is)
    where
      go : (t : Bool) → 0 < cond t 0 (length (bases_of line)) → k ≡ capped (suc n) (cond t 0 (length (bases_of line)))
          → cond t (nothing at) (up_to (suc n) at (bases_of line) (scan_from (lines behind) (suc n - length (bases_of line)) (at + length line))) ≡ joined (take k (b ∷ s)) (scan_from (lines (drop k (b ∷ s))) (suc n - k) (at + k))
      go true h q = absurd (omega arith)
      go false h q = line_step line behind n at k q ∙ rw (take-append-drop (line_len s) s)

first_plain : (b : ℕ) (s : List ℕ) → skipped (b ∷ s) ≡ 0 → ends_line b ≡ false
unfolding skipped
first_plain b s h = go (ends_line b) h
  where
    go : (t : Bool) → cond t (suc (skipped s)) 0 ≡ 0 → t ≡ false
    go true q = absurd (omega arith)
    go false q = refl

run-stop : (d : List ℕ) (n at : ℕ) → skipped d ≡ 0 → run_of d ≡ 0 → scan_from (lines d) (suc n) at ≡ nothing at
unfolding lines scan_from
run-stop [] n at h r = refl
run-stop (b ∷ s) n at h r = stop-first b (first_plain b s h) s n at r

run_step : (d : List ℕ) (n at k : ℕ) → skipped d ≡ 0 → 0 < run_of d → k ≡ capped (suc n) (run_of d) → scan_from (lines d) (suc n) at ≡ joined (take k d) (scan_from (lines (drop k d)) (suc n - k) (at + k))
unfolding lines seq_of
run_step [] n at k h r is = absurd (omega arith)
run_step (b ∷ s) n at k h r is = step-first b (first_plain b s h) s n at k r is

skipped-all : (s : List ℕ) → skipped (drop (skipped s) s) ≡ 0
unfolding skipped
skipped-all [] = refl
skipped-all (b ∷ s) = go (ends_line b) refl (skipped-all s)
  where
    go : (t : Bool) → ends_line b ≡ t → skipped (drop (skipped s) s) ≡ 0 → skipped (drop (cond t (suc (skipped s)) 0) (b ∷ s)) ≡ 0
    go true e h = h
    go false e h = rw e

-- ---- one step from an offset, for so many bases

capped-of : (m r : ℕ) → (capped m r ≤ m) × (capped m r ≤ r) × (capped m r ≡ 0 → 0 < m → r ≡ 0)
capped-of m r = go (leb m r) refl
  where
    go : (t : Bool) → leb m r ≡ t → (cond t m r ≤ m) × (cond t m r ≤ r) × (cond t m r ≡ 0 → 0 < m → r ≡ 0)
    go true e = (omega arith, leb-true m r e, λ z p. absurd (omega arith))
    go false e = (omega (arith, leb-false m r e), omega arith, λ z p. z)

module _ (s : List ℕ) (at : ℕ) where
  scan-zero : scan_at s 0 at ≡ nothing at
  unfolding scan_at
  scan-zero = scan-none (lines (drop at s)) at

  scan-skip : (n : ℕ) → scan_at s (suc n) at ≡ scan_from (lines (drop (skip_to s at) s)) (suc n) (skip_to s at)
  unfolding scan_at skip_to
  scan-skip n = skip_all (drop at s) n at ∙ rw (drop-drop (skipped (drop at s)) at s)

  skip-done : skipped (drop (skip_to s at) s) ≡ 0
  unfolding skip_to
  skip-done = rw (← drop-drop (skipped (drop at s)) at s) (skipped-all (drop at s))

  scan-stop : (m : ℕ) → 0 < m → (run_at s at).length ≡ 0 → scan_at s m at ≡ nothing (run_at s at).start
  unfolding run_at seq_at
  scan-stop zero h r = absurd (omega arith)
  scan-stop (suc n) h r = scan-skip n ∙ run-stop (drop (skip_to s at) s) n (skip_to s at) skip-done r

  scan_step : (m : ℕ) → 0 < m → (k : ℕ) → 0 < (run_at s at).length → k ≡ capped m (run_at s at).length
      → scan_at s m at ≡ joined (take k (drop (run_at s at).start s)) (scan_at s (m - k) ((run_at s at).start + k))
  unfolding run_at seq_at scan_at
  scan_step zero h k r is = absurd (omega arith)
  scan_step (suc n) h k r is = scan-skip n ∙ run_step (drop (skip_to s at) s) n (skip_to s at) k skip-done r is ∙ rw (drop-drop k (skip_to s at) s)

  run-within : 0 < (run_at s at).length → (run_at s at).start + (run_at s at).length ≤ length s
  unfolding run_at
  run-within r = go (leb (skip_to s at) (length s)) refl
    where
      go : (t : Bool) → leb (skip_to s at) (length s) ≡ t → skip_to s at + (first_line (seq_at s (skip_to s at))).bases ≤ length s
      go true e = omega (arith, bases-le (seq_at s (skip_to s at)), first-within s (skip_to s at) (leb-true (skip_to s at) (length s) e))
      go false e = absurd (omega (arith, ap (λ (ls : List (List ℕ)). (first_line ls).bases) (seq_at-end s (skip_to s at) (omega (arith, leb-false (skip_to s at) (length s) e)))))

-- what a turn of a scan for so many bases knows of the piece that it finds from i on, once n are taken
pub record Turn (s : List ℕ) (limit n i : ℕ) (p : Span) : Type 0 where
  pub most : n + p.length ≤ limit
  pub within : p.start + p.length ≤ length s
  pub scan : scan_at s (limit - n) i ≡ joined (take p.length (drop p.start s)) (scan_at s (limit - (n + p.length)) (p.start + p.length))
  pub count : length (scan_at s (limit - n) i).bases ≡ p.length + length (scan_at s (limit - (n + p.length)) (p.start + p.length)).bases

module _ (s : List ℕ) (limit n i : ℕ) (p : Span) (more : n < limit) (is : p ≡ piece_at s (limit - n) i) where
  piece-start : p.start ≡ (run_at s i).start
  unfolding piece_at
  piece-start = rw is

  piece-length : p.length ≡ capped (limit - n) (run_at s i).length
  unfolding piece_at
  piece-length = rw is

  pub piece-stop : p.length ≡ 0 → scan_at s (limit - n) i ≡ nothing p.start
  piece-stop z = rw piece-start (scan-stop s i (limit - n) (omega arith) ((capped-of (limit - n) (run_at s i).length).2 (sym piece-length ∙ z) (omega arith)))

  module _ (some : p.length ≡ 0 → ⊥) where
    some-run : 0 < (run_at s i).length
    some-run = omega (arith, piece-length, (capped-of (limit - n) (run_at s i).length).1)

    piece-within : p.start + p.length ≤ length s
    piece-within = omega (arith, piece-start, piece-length, (capped-of (limit - n) (run_at s i).length).1, run-within s i some-run)

    piece-scan : scan_at s (limit - n) i ≡ joined (take p.length (drop p.start s)) (scan_at s (limit - (n + p.length)) (p.start + p.length))
    piece-scan = rw (piece-start, ← left) (scan_step s i (limit - n) (omega arith) p.length some-run piece-length)
      where
        left : limit - n - p.length ≡ limit - (n + p.length)
        left = omega arith

    pub piece-step : Turn s limit n i p
    piece-step = record {
      most = omega (arith, piece-length, (capped-of (limit - n) (run_at s i).length).0);
      within = piece-within;
      scan = piece-scan;
      count =
          ap (λ (c : Scan). length c.bases) piece-scan
          ∙ length-append (take p.length (drop p.start s)) (scan_at s (limit - (n + p.length)) (p.start + p.length)).bases
          ∙ ap (λ (k : ℕ). k + length (scan_at s (limit - (n + p.length)) (p.start + p.length)).bases) (length-take-le p.length (drop p.start s) (simp length-drop (omega (arith, piece-within))));
    }

-- at the limit, a scan gives no more
pub piece-full : (s : List ℕ) (limit n i : ℕ) → limit ≤ n → scan_at s (limit - n) i ≡ nothing i
piece-full s limit n i h = ap (λ (m : ℕ). scan_at s m i) full ∙ scan-zero s i
  where
    full : limit - n ≡ 0
    full = omega arith

-- ---- what a read leaves

-- a scan's bases written behind n bytes of the output
unfoldable pub filled : ℕ → List ℕ → Scan → Outcome (Result (ℕ × Cursor) Refusal)
filled n out c = leaves (Ok ((n + length c.bases), (record { at = c.place }))) (take n out ++ c.bases ++ drop (n + length c.bases) out)

pub filled-start : (out : List ℕ) (c : Scan) → filled 0 out c ≡ written c out
unfolding filled written
filled-start out c = rw (zero-add (length c.bases))

pub filled-end : (n : ℕ) (out : List ℕ) (at : ℕ) → filled n out (nothing at) ≡ leaves (Ok (n, (record { at = at }))) out
unfolding filled
filled-end n out at = rw (add-zero n, append-nil (take n out), take-append-drop n out)

filled-step : (n : ℕ) (out src : List ℕ) (k : ℕ) (c : Scan) → n + k ≤ length out → k ≤ length src → filled n out (joined (take k src) c) ≡ filled (n + k) (paste out n src k) c
unfolding filled
filled-step n out src k c h q =
    rw (length-append (take k src) c.bases, length-take-le k src q, ← add_assoc n k (length c.bases), ← append_assoc (take n out) (take k src) c.bases)
    (rw (take-paste out n src k (omega arith) q, ← drop-drop (length c.bases) (n + k) (paste out n src k), drop-paste out n src k (omega arith) q, drop-drop (length c.bases) (n + k) out))

-- a turn with its piece copied: writing the rest behind the piece leaves the same output
pub turn-fills : (s : List ℕ) (limit n i : ℕ) (p : Span) (out copied : List ℕ) → Turn s limit n i p → n + length (scan_at s (limit - n) i).bases ≤ length out → copied ≡ paste out n (drop p.start s) p.length
    → (length copied ≡ length out) × (filled (n + p.length) copied (scan_at s (limit - (n + p.length)) (p.start + p.length)) ≡ filled n out (scan_at s (limit - n) i))
turn-fills s limit n i p out copied t h e = rw (e, t.scan) (length-paste out n src p.length (omega arith) room, sym (filled-step n out src p.length _ (omega arith) room))
  where
    src : List ℕ
    src = drop p.start s

    room : p.length ≤ length (drop p.start s)
    room = simp length-drop (omega arith)

-- ---- how much a scan gives

-- no more than it is asked for
scan_from-most : (ls : List (List ℕ)) (limit at : ℕ) → length (scan_from ls limit at).bases ≤ limit
unfolding scan_from
scan_from-most [] limit at = omega arith
scan_from-most (l ∷ ls) zero at = omega arith
scan_from-most (l ∷ ls) (suc n) at = go (begins (bare l)) (bases_of (bare l)) _ (scan_from-most ls (suc n - length (bases_of (bare l))) (at + length l))
  where
    some : (t : Bool) (bs : List ℕ) (c : Scan) → leb (suc n) (length bs) ≡ t → length c.bases ≤ suc n - length bs
        → length (cond t (record { bases = take (suc n) bs; place = at + skipped l + suc n }) (joined bs c)).bases ≤ suc n
    some true bs c e h = omega (arith, length-take (suc n) bs)
    some false bs c e h = omega (arith, length-append bs c.bases, leb-false (suc n) (length bs) e)

    go : (t : Bool) (bs : List ℕ) (c : Scan) → length c.bases ≤ suc n - length bs → length (cond t (nothing (at + skipped l)) (up_to (suc n) (at + skipped l) bs c)).bases ≤ suc n
    go true bs c h = omega arith
    go false bs c h = some (leb (suc n) (length bs)) bs c refl h

pub scan-most : (s : List ℕ) (limit at : ℕ) → length (scan_at s limit at).bases ≤ limit
unfolding scan_at
scan-most s limit at = scan_from-most (lines (drop at s)) limit at

-- a limit above the number of bytes is none
bare-le : (l : List ℕ) → length (bases_of (bare l)) ≤ length l
bare-le l = omega (arith, chop-le 13 (chop 10 (bare l)), chop-le 10 (bare l), length-drop (skipped l) l)

-- a limit that a line's bases do not reach
pub up_to-all : (m at : ℕ) (bs : List ℕ) (c : Scan) → length bs < m → up_to m at bs c ≡ joined bs c
up_to-all m at bs c h = rw (lt-leb m (length bs) h)

scan_from-free : (ls : List (List ℕ)) (m k at : ℕ) → sum_widths ls < m → sum_widths ls < k → scan_from ls m at ≡ scan_from ls k at
unfolding scan_from sum_widths
scan_from-free [] m k at h q = refl
scan_from-free (l ∷ ls) zero k at h q = absurd (omega arith)
scan_from-free (l ∷ ls) (suc m) zero at h q = absurd (omega arith)
scan_from-free (l ∷ ls) (suc m) (suc k) at h q =
    let w = bare-le l in
    rw (up_to-all (suc m) (at + skipped l) (bases_of (bare l)) _ (omega arith), up_to-all (suc k) (at + skipped l) (bases_of (bare l)) _ (omega arith))
    (rw (scan_from-free ls (suc m - length (bases_of (bare l))) (suc k - length (bases_of (bare l))) (at + length l) (omega arith) (omega arith)))

pub scan-free : (s : List ℕ) (limit at : ℕ) → length s < limit → scan_at s limit at ≡ scan_all s at
unfolding scan_all scan_at
scan-free s limit at h = scan_from-free (lines (drop at s)) limit (length s + 1) at (omega (arith, bytes)) (omega (arith, bytes))
  where
    bytes : sum_widths (lines (drop at s)) ≤ length s
    bytes = omega (arith, widths-lines (drop at s), length-drop at s)
