-- Laws of where parts begin, as the code finds it: from line to line, until one begins with '>'; and of the calls, by the starts that were found.
use Prim.Native.Nat.{ℕ, zero, suc, ◌+◌, ◌-◌, ◌≤◌, ◌<◌}
use Rattle.std.specs.Prelude.{◌≡◌, List, Bool, take, get_or, Err}
use Rattle.std.proofs.Math.Path.{refl}
use Rattle.std.proofs.Common.{add-zero}
use Rattle.std.proofs.Math.Bool.{true, false, cond}
use Rattle.std.proofs.Math.ListN.{length}
use Rattle.std.proofs.Math.Dec.{ltb}
use borrow.Author.Tests.{lt-ltb, le-ltb, ltb-true}
use native.Mathlib.Omega.{arith}
use Rattle.lines.specs.Lines.{line_end, seq_at, sum_widths}
use Rattle.lines.specs.Laws.{line_end-le, line_end-gt, part_length, seq_at-end, seq_at-stop, seq_at-step}
use Rattle.lines.specs.Sums.{widths-within}
use Rattle.refusal.specs.Numbers.{over_limit}
use Rattle.refusal.specs.declared.Refusal.TheVariants.{TooLong}
use Rattle.table.specs.Numbers.{numbers_in}
use Rattle.table.specs.Rows.{row_count}
use Rattle.table.specs.Bytes.{FilledBytes}
use Rattle.table.specs.ByteLaws.{FilledRows, held_by, filled-bytes, filled-nothing}
use Rattle.table.specs.declared.Filled.{Filled}
use Rattle.fitting.specs.declared.Rule.{Rule}
use Rattle.fitting.specs.Rules.{rows_by}
use Rattle.checker.specs.Check.{from_says}
use Rattle.parts.specs.Parts.{line_start, record_start, part_by, part_in, part_says, part_checked}

-- ---- a line's start

module _ (s : List ℕ) where
  pub line_first : (n : ℕ) → n ≡ 0 → 0 ≡ line_start s n
  unfolding line_start
  line_first zero e = refl
  line_first (suc n) e = absurd (omega arith)

  pub line-past : (n : ℕ) → length s < n → length s ≡ line_start s n
  unfolding line_start
  line-past zero h = absurd (omega arith)
  line-past (suc n) h = rw (le-ltb n (length s) (omega arith))

  pub line-within : (n : ℕ) → (n ≡ 0 → ⊥) → n ≤ length s → line_end s (n - 1) ≡ line_start s n
  unfolding line_start
  line-within zero z h = absurd (z refl)
  line-within (suc n) z h =
      let e : suc n - 1 ≡ n = omega arith in
      rw (lt-ltb n (length s) (omega arith), e)

  pub line-le : (n : ℕ) → line_start s n ≤ length s
  unfolding line_start
  line-le zero = omega arith
  line-le (suc n) = go (ltb n (length s)) refl
    where
      go : (t : Bool) → ltb n (length s) ≡ t → cond t (line_end s n) (length s) ≤ length s
      go true e = line_end-le s n (omega (arith, ltb-true n (length s) e))
      go false e = omega arith

  -- ---- a record's start

  -- behind the sequence lines from an offset on
  abbrev pub behind : ℕ → ℕ
  behind i = i + sum_widths (seq_at s i)

  pub record-first : (n : ℕ) → n ≡ 0 → 0 ≡ record_start s n
  unfolding record_start
  record-first zero e = refl
  record-first (suc n) e = absurd (omega arith)

  pub record-line : (n : ℕ) → (n ≡ 0 → ⊥) → behind (line_start s n) ≡ record_start s n
  unfolding record_start
  record-line zero z = absurd (z refl)
  record-line (suc n) z = refl

  pub behind-start : (i : ℕ) → i < length s → get_or s i 0 ≡ 62 → behind i ≡ i
  unfolding sum_widths
  behind-start i h e = rw (seq_at-stop s i h e) (add-zero i)

  pub behind-past : (i : ℕ) → length s ≤ i → behind i ≡ i
  unfolding sum_widths
  behind-past i h = rw (seq_at-end s i h) (add-zero i)

  pub behind-line : (i : ℕ) → i < length s → (get_or s i 0 ≡ 62 → ⊥) → behind (line_end s i) ≡ behind i
  unfolding sum_widths
  behind-line i h e =
      rw (seq_at-step s i h e)
      (omega (arith, part_length s i (line_end s i) (line_end-le s i (omega arith)), line_end-gt s i h))

  pub record-le : (n : ℕ) → record_start s n ≤ length s
  unfolding record_start
  record-le zero = omega arith
  record-le (suc n) = widths-within s (line_start s (suc n)) (line-le (suc n))

-- ---- the calls

module _ (f : List ℕ) (from to : ℕ) (i : List ℕ) (first last : ℕ) where
  pub part-long : over_limit (length f) ≡ true → Err TooLong ≡ part_checked f from to i first last
  unfolding part_checked
  part-long h = rw h

  pub part-long-index : over_limit (length f) ≡ false → over_limit (length i) ≡ true → Err TooLong ≡ part_checked f from to i first last
  unfolding part_checked
  part-long-index h k = rw (h, k)

  -- by the starts that were found
  pub part-judged : over_limit (length f) ≡ false → over_limit (length i) ≡ false → (a b c d : ℕ) → a ≡ record_start f from → b ≡ record_start f to → c ≡ line_start i first → d ≡ line_start i last
      → from_says (take b f) a (take d i) c ≡ part_checked f from to i first last
  unfolding part_checked part_says
  part-judged h k a b c d p q r t = rw (h, k, p, q, r, t)

module _ (rule : Rule) (s : List ℕ) (from to : ℕ) (t : List ℕ) where
  pub part_none : over_limit (length s) ≡ true → ((i : ℕ) → get_or t i 0 < 256)
      → FilledBytes (part_in rule s from to (row_count (numbers_in t))) t t (record { rows = 0; stop = Err TooLong })
  unfolding part_in
  part_none h m = rw h (filled-nothing t (Err TooLong) m)

  pub part-rows : over_limit (length s) ≡ false → (a b : ℕ) → a ≡ record_start s from → b ≡ record_start s to → (t' : List ℕ) (r : Filled) → FilledRows (held_by t (rows_by rule (take b s) a)) t t' r
      → ((i : ℕ) → get_or t' i 0 < 256) → FilledBytes (part_in rule s from to (row_count (numbers_in t))) t t' r
  unfolding part_in part_by
  part-rows h a b p q t' r x m = rw (h, ← p, ← q) (filled-bytes _ t t' r x m)
