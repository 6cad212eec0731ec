-- Parts of a file whose numbers rise from 0 to its end give the whole: their rows, one part behind the other up to the first refusal, are the
-- file's rows and its refusal; and if each part is accepted with its part of the index, the file is accepted with the index. Nothing
-- more is asked of the numbers than that they rise.
use Rattle.std.specs.Prelude.{ℕ, zero, suc, ◌+◌, ◌≤◌, ◌<◌, ◌≡◌, refl, List, [], ◌∷◌, Bool, true, false, cond, take, drop, ltb, Ok, Err}
use Rattle.std.proofs.Common.{ap, sym, ◌∙◌, length-drop, length-take-le, ltb-true, arith, add-zero}
use Rattle.std.proofs.Math.ListN.{length, drop_of_length-le}
use Rattle.refusal.specs.Numbers.{over_limit}
use Rattle.refusal.specs.declared.Refusal.TheVariants.{TooLong}
use Rattle.lines.specs.Lines.{lines, line_end, sum_widths}
use Rattle.lines.specs.Laws.{line_end-le, line_end-gt, seq_at-end}
use Rattle.lines.specs.Groups.{Group, groups}
use Rattle.lines.specs.Sums.{widths-lines}
use Rattle.table.specs.Fill.{Found, nothing}
use Rattle.table.specs.Laws.{held_all}
use Rattle.indexer.specs.Rule.{groups_by, file_by, call_by}
use Rattle.fitting.specs.declared.Rule.{Rule}
use Rattle.fitting.specs.Rules.{rule_of, rows_by, rows_in}
use Rattle.checker.specs.Accepts.{bytes_of}
use Rattle.checker.specs.Sequences.{bytes-lines}
use Rattle.checker.specs.Check.{records_say, from_says, check_of}
use Rattle.checker.specs.Steps.{check-start}
use Rattle.parts.specs.Parts.{line_start, record_start, part_by, part_in, part_says, part_checked}
use Rattle.parts.specs.Laws.{record-le}
use Rattle.parts.specs.Cuts.{lines_split, cut-at-line, groups-split}
use Rattle.parts.specs.Rising.{line-rises, record-rises}
use Rattle.parts.specs.Joining.{joined, rows-joined, verdicts-joined}

-- ---- the end of a file

line-last : (s : List ℕ) (n : ℕ) → length s ≤ n → line_start s n ≡ length s
unfolding line_start
line-last s zero h = omega arith
line-last s (suc n) h = go (ltb n (length s)) refl
  where
    go : (t : Bool) → ltb n (length s) ≡ t → cond t (line_end s n) (length s) ≡ length s
    go true e =
        let m : n < length s = ltb-true n (length s) e in
        omega (arith, line_end-le s n (omega arith), line_end-gt s n m)
    go false e = refl

record-last : (s : List ℕ) (n : ℕ) → length s ≤ n → record_start s n ≡ length s
unfolding record_start sum_widths
record-last s zero h = omega arith
record-last s (suc n) h = rw (line-last s (suc n) h, seq_at-end s (length s) (omega arith)) (add-zero (length s))

-- ---- where a part ends, the next begins

part_bytes : (s : List ℕ) (from to : ℕ) → from ≤ to → record_start s from + bytes_of (groups (lines (drop (record_start s from) (take (record_start s to) s)))) ≡ record_start s to
part_bytes s from to h =
    let a = record_start s from in
    let b = record_start s to in
    omega (arith, record-rises s from to h, bytes-lines (lines (drop a (take b s))), widths-lines (drop a (take b s)), length-drop a (take b s), length-take-le b s (record-le s to))

-- ---- rows

part-onward : (rule : Rule) (s : List ℕ) (from to : ℕ) → from ≤ to → rows_by rule s (record_start s from) ≡ joined (part_by rule s from to) (rows_by rule s (record_start s to))
unfolding part_by file_by
part-onward rule s from to h =
    let a = record_start s from in
    let b = record_start s to in
    let r = rule_of rule in
    let gs = groups (lines (drop a (take b s))) in
    let hs = groups (lines (drop b s)) in
    ap (λ (k : List Group). groups_by r k a) (groups-split s a to (record-rises s from to h))
    ∙ rows-joined r gs hs a
    ∙ ap (λ (n : ℕ). joined (groups_by r gs a) (groups_by r hs n)) (part_bytes s from to h)

-- numbers that rise, the last of which is the end of the file or behind it
pub data Rises (end : ℕ) : ℕ → List ℕ → Type 0 where
  ends : (n : ℕ) → end ≤ n → Rises end n []
  rises : (n m : ℕ) (ms : List ℕ) → n ≤ m → Rises end m ms → Rises end n (m ∷ ms)

-- what the parts between some numbers give, one behind the other, up to the first refusal
unfoldable pub parts_by : Rule → List ℕ → ℕ → List ℕ → Found
parts_by rule s n [] = nothing (Ok tt)
parts_by rule s n (m ∷ ms) = joined (part_by rule s n m) (parts_by rule s m ms)

parts-from : (rule : Rule) (s : List ℕ) (n : ℕ) (ms : List ℕ) → Rises (length s) n ms → parts_by rule s n ms ≡ rows_by rule s (record_start s n)
unfolding parts_by
parts-from rule s n ms (ends _ h) = unfold file_by groups_by groups lines in rw (record-last s n h, drop_of_length-le s {i = length s} (omega arith))
parts-from rule s n _ (rises _ m ms h r) = ap (joined (part_by rule s n m)) (parts-from rule s m ms r) ∙ sym (part-onward rule s n m h)

-- the parts of a file give its rows, and its refusal
pub parts-index : (rule : Rule) (s : List ℕ) (ms : List ℕ) → Rises (length s) 0 ms → parts_by rule s 0 ms ≡ rows_by rule s 0
unfolding record_start
parts-index rule s ms r = parts-from rule s 0 ms r

-- what a call on a part, or on the whole, tells is what the part or the whole gives, where its table has the room
module _ (rule : Rule) (s : List ℕ) (h : over_limit (length s) ≡ false) where
  pub part-told : (n m rows : ℕ) → length (part_by rule s n m).rows ≤ rows → part_in rule s n m rows ≡ part_by rule s n m
  unfolding part_in
  part-told n m rows k = rw h (held_all rows rows (part_by rule s n m) k)

  pub whole-told : (rows : ℕ) → length (rows_by rule s 0).rows ≤ rows → rows_in rule s rows ≡ rows_by rule s 0
  unfolding call_by
  whole-told rows k = rw h (held_all rows rows (rows_by rule s 0) k)

-- ---- verdicts

-- parts of a file and of its index, from two numbers on to the end of both, each of which is accepted
pub data Checked (f i : List ℕ) : ℕ → ℕ → Type 0 where
  over : (n j : ℕ) → length f ≤ n → length i ≤ j → Checked f i n j
  accepted : (n m j k : ℕ) → n ≤ m → j ≤ k → part_checked f n m i j k ≡ Ok tt → Checked f i m k → Checked f i n j

-- a part that is accepted is within the limits
pub record Within (f i : List ℕ) (n m j k : ℕ) : Type 0 where
  pub fasta : over_limit (length f) ≡ false
  pub index : over_limit (length i) ≡ false
  pub says : part_says f n m i j k ≡ Ok tt

part-within : (f i : List ℕ) (n m j k : ℕ) → part_checked f n m i j k ≡ Ok tt → Within f i n m j k
unfolding part_checked
part-within f i n m j k = go (over_limit (length f)) refl (over_limit (length i)) refl
  where
    go : (t : Bool) → over_limit (length f) ≡ t → (u : Bool) → over_limit (length i) ≡ u → cond t (Err TooLong) (cond u (Err TooLong) (part_says f n m i j k)) ≡ Ok tt → Within f i n m j k
    go true a u b e = let z : ◌≡◌ {A = ℕ} 0 1 = cc in absurd (omega arith)
    go false a true b e = let z : ◌≡◌ {A = ℕ} 0 1 = cc in absurd (omega arith)
    go false a false b e = record { fasta = a; index = b; says = e }

checked-end : (f i : List ℕ) → from_says f (length f) i (length i) ≡ Ok tt
unfolding from_says records_say groups lines
checked-end f i = rw (drop_of_length-le f {i = length f} (omega arith), drop_of_length-le i {i = length i} (omega arith))

checked-part : (f i : List ℕ) (n m j k : ℕ) → n ≤ m → j ≤ k → part_says f n m i j k ≡ Ok tt → from_says f (record_start f m) i (line_start i k) ≡ Ok tt
    → from_says f (record_start f n) i (line_start i j) ≡ Ok tt
unfolding part_says from_says
checked-part f i n m j k h q e r =
    let a = record_start f n in
    let b = record_start f m in
    let c = line_start i j in
    let d = line_start i k in
    let gs = groups (lines (drop a (take b f))) in
    let hs = groups (lines (drop b f)) in
    rw (groups-split f a m (record-rises f n m h), lines_split i c d (cut-at-line i k) (line-rises i j k q))
    (verdicts-joined 0 a gs hs (lines (drop c (take d i))) (lines (drop d i)) e (rw (part_bytes f n m h) r))

checked-from : (f i : List ℕ) (n j : ℕ) → Checked f i n j → from_says f (record_start f n) i (line_start i j) ≡ Ok tt
checked-from f i n j (over _ _ h k) = rw (record-last f n h, line-last i j k) (checked-end f i)
checked-from f i n j (accepted _ m _ k h q e r) = checked-part f i n m j k h q (part-within f i n m j k e).says (checked-from f i m k r)

empty-within : over_limit 0 ≡ false
unfolding over_limit
empty-within = refl

-- the limits hold where a part is accepted; a file and an index without bytes are within them
checked-within : (f i : List ℕ) (n j : ℕ) → n ≡ 0 → j ≡ 0 → Checked f i n j → (over_limit (length f) ≡ false) × (over_limit (length i) ≡ false)
checked-within f i n j x y (over _ _ h k) =
    let a : length f ≡ 0 = omega arith in
    let b : length i ≡ 0 = omega arith in
    rw (a, b) (empty-within, empty-within)
checked-within f i n j x y (accepted _ m _ k h q e r) = let w = part-within f i n m j k e in (w.fasta, w.index)

checked-start : (f i : List ℕ) → Checked f i 0 0 → from_says f 0 i 0 ≡ Ok tt
unfolding record_start line_start
checked-start f i c = checked-from f i 0 0 c

-- if every part is accepted, the whole is
pub parts-check : (f i : List ℕ) → Checked f i 0 0 → check_of f i ≡ Ok tt
parts-check f i c =
    let w = checked-within f i 0 0 refl refl c in
    sym (check-start f i w.0 w.1) ∙ checked-start f i c
