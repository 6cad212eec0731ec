-- Every verdict of the checker of FASTQ, for all records and for a file and an index: what it means, and nothing else is said.
use Prim.Native.Nat.{ℕ, zero, suc, ◌+◌, ◌<◌}
use Rattle.std.proofs.Math.Path.{◌≡◌, refl, ap}
use Rattle.std.proofs.Common.{sym, zero-add, Result, Ok, Err}
use mathlib.Core.List.{List, [], ◌∷◌}
use Rattle.std.specs.Prelude.{Bool, true, false, cond, length, drop, get_or, ltb, ⊤}
use borrow.Author.Tests.{ltb-true, ltb-false, lt-ltb, le-ltb}
use native.Mathlib.Omega.{arith}
use Rattle.refusal.specs.Numbers.{over_limit}
use Rattle.refusal.specs.declared.Refusal.{Refusal}
use Rattle.refusal.specs.declared.Refusal.TheVariants.{TooLong, BytesLeft}
use Rattle.lines.specs.Lines.{lines, ends, content_of, tail_of}
use Rattle.fastq.specs.declared.QualityRow.{QualityRow}
use Rattle.fastq_line.specs.SixColumns.{six_line_says, content_says, fields_of}
use Rattle.fastq_index.specs.File.{rows_at}
use Rattle.checker.specs.Check.{and_then}
use Rattle.checker.specs.Accepts.{limit, Fit}
use Rattle.fastq_checker.specs.Check.{record_says, records_say, file_says, check_of}
use Rattle.fastq_checker.specs.Accepts.{records_of, record_at, Matches, MatchesAt, Accepts}
use Rattle.fastq_mission.specs.FirstFault.{RecordFault, FirstFault}
use Rattle.fastq_mission.specs.FirstFault.FirstFault.{long-file, long-index, bad-file, wrong-record, lines_left}
use Rattle.fastq_mission.specs.Said.{RecordSaid, record-said, record-only}
use Rattle.fastq_mission.specs.Said.RecordSaid.{matching, wrong}

-- ---- all records: those behind k others

module _ (f : List ℕ) where
  -- record j of some matches line j
  abbrev pub MatchesFrom : ℕ → List QualityRow → List (List ℕ) → ℕ → Type 0
  MatchesFrom k xs ls j = Matches (suc (k + j)) f (record_at xs j) (get_or ls j [])

  -- all match, and lines are left or not; or one is the first that is wrong
  pub data AllSaid (k : ℕ) (xs : List QualityRow) (ls : List (List ℕ)) : Result ⊤ Refusal → Type 0 where
    all-match : length ls ≡ length xs → ((j : ℕ) → j < length xs → MatchesFrom k xs ls j) → AllSaid k xs ls (Ok tt)
    some_left : (n : ℕ) → n ≡ k + length xs → ((j : ℕ) → j < length xs → MatchesFrom k xs ls j) → length xs < length ls → AllSaid k xs ls (Err (BytesLeft n))
    one-wrong : {y : Refusal} → (r : ℕ) → r < length xs → ((j : ℕ) → j < r → MatchesFrom k xs ls j)
        → RecordFault (suc (k + r)) f (record_at xs r) (drop r ls) y → AllSaid k xs ls (Err y)

  -- one record more in front
  number : (k j : ℕ) → suc (suc k + j) ≡ suc (k + suc j)
  number k j = omega arith

  number-first : (k : ℕ) → suc k ≡ suc (k + 0)
  number-first k = omega arith

  module _ (k : ℕ) (x : QualityRow) (xs : List QualityRow) where
    -- the first, and those behind it
    join : (l : List ℕ) (ls : List (List ℕ)) (n : ℕ) → Matches (suc k) f x l → ((j : ℕ) → j < n → MatchesFrom (suc k) xs ls j)
        → (j : ℕ) → j < suc n → MatchesFrom k (x ∷ xs) (l ∷ ls) j
    join l ls n m h zero q = rw (← number-first k) m
    join l ls n m h (suc j) q = rw (← number k j) (h j (omega arith))

    more : (l : List ℕ) (ls : List (List ℕ)) (v : Result ⊤ Refusal) → Matches (suc k) f x l → AllSaid (suc k) xs ls v → AllSaid k (x ∷ xs) (l ∷ ls) v
    more l ls v m (all-match c h) = all-match (ap suc c) (join l ls (length xs) m h)
    more l ls v m (some_left n e h q) = some_left n (omega arith) (join l ls (length xs) m h) (omega arith)
    more l ls v m (one-wrong r q h e) = one-wrong (suc r) (omega arith) (join l ls r m h) (rw (number k r) at e)

    onward : (l : List ℕ) (ls : List (List ℕ)) (v : Result ⊤ Refusal) → MatchesFrom k (x ∷ xs) (l ∷ ls) 0 → records_say (suc k) f xs ls ≡ v → records_say k f (x ∷ xs) (l ∷ ls) ≡ v
    unfolding records_say
    onward l ls v m e = rw (record-only (suc k) f x (l ∷ ls) (Ok tt) (matching (rw (number-first k) m))) e

    rest : (l : List ℕ) (ls : List (List ℕ)) (n : ℕ) → ((j : ℕ) → j < suc n → MatchesFrom k (x ∷ xs) (l ∷ ls) j) → (j : ℕ) → j < n → MatchesFrom (suc k) xs ls j
    rest l ls n h j q = rw (number k j) (h (suc j) (omega arith))

  all_said : (xs : List QualityRow) (k : ℕ) (ls : List (List ℕ)) → AllSaid k xs ls (records_say k f xs ls)
  unfolding records_say
  all_said [] k [] = all-match refl (λ j h. absurd (omega arith))
  all_said [] k (l ∷ ls) = some_left k (omega arith) (λ j h. absurd (omega arith)) (omega arith)
  all_said (x ∷ xs) k ls = go ls (record_says (suc k) f x ls) (record-said (suc k) f x ls) (all_said xs (suc k))
    where
      go : (ls : List (List ℕ)) (v : Result ⊤ Refusal) → RecordSaid (suc k) f x ls v → ((left : List (List ℕ)) → AllSaid (suc k) xs left (records_say (suc k) f xs left))
          → AllSaid k (x ∷ xs) ls (and_then v (records_say (suc k) f xs (tail_of ls)))
      go (l ∷ left) v (matching m) h = more k x xs l left _ m (h left)
      go ls v (wrong e) h = one-wrong 0 (omega arith) (λ j q. absurd (omega arith)) (rw (number-first k) at e)

  -- a line without bytes does not read, so nothing matches it
  no-bytes : (n : ℕ) (x : QualityRow) → Matches n f x [] → ⊥
  unfolding six_line_says content_says fields_of content_of ends
  no-bytes n x m =
      let e = m.reads in
      let z : ◌≡◌ {A = ℕ} 0 1 = cc in
      omega arith

  all-only : (xs : List QualityRow) (k : ℕ) (ls : List (List ℕ)) (v : Result ⊤ Refusal) → AllSaid k xs ls v → records_say k f xs ls ≡ v
  unfolding records_say
  all-only [] k [] v (all-match c h) = refl
  all-only [] k (l ∷ ls) v (all-match c h) = absurd (omega arith)
  all-only [] k [] v (some_left n e h q) = absurd (omega arith)
  all-only [] k (l ∷ ls) v (some_left n e h q) = ap (λ (m : ℕ). Err (BytesLeft m)) (omega arith)
  all-only [] k ls v (one-wrong r q h e) = absurd (omega arith)
  all-only (x ∷ xs) k ls v (one-wrong zero q h e) = rw (record-only (suc k) f x ls v (wrong (rw (← number-first k) at e)))
  all-only (x ∷ xs) k [] v (all-match c h) = absurd (omega arith)
  all-only (x ∷ xs) k [] v (some_left n e h q) = absurd (omega arith)
  all-only (x ∷ xs) k [] v (one-wrong (suc r) q h e) = absurd (no-bytes _ x (h 0 (omega arith)))
  all-only (x ∷ xs) k (l ∷ ls) v (all-match c h) =
      onward k x xs l ls v (h 0 (omega arith)) (all-only xs (suc k) ls v (all-match (omega arith) (rest k x xs l ls (length xs) h)))
  all-only (x ∷ xs) k (l ∷ ls) v (some_left n e h q) =
      onward k x xs l ls v (h 0 (omega arith)) (all-only xs (suc k) ls v (some_left n (omega arith) (rest k x xs l ls (length xs) h) (omega arith)))
  all-only (x ∷ xs) k (l ∷ ls) v (one-wrong (suc r) q h e) =
      onward k x xs l ls v (h 0 (omega arith)) (all-only xs (suc k) ls v (one-wrong r (omega arith) (rest k x xs l ls r h) (rw (← number k r) at e)))

-- ---- a file and an index

-- what a verdict means
abbrev pub Means : List ℕ → List ℕ → Result ⊤ Refusal → Type 0
Means f i (Ok tt) = Accepts f i
Means f i (Err y) = FirstFault f i y

module _ (f i : List ℕ) where
  from_start : (n : ℕ) → ((j : ℕ) → j < n → MatchesFrom f 0 (records_of f) (lines i) j) → (j : ℕ) → j < n → MatchesAt f i j
  from_start n h j q = rw (zero-add j) at (h j q)

  to_start : (n : ℕ) → ((j : ℕ) → j < n → MatchesAt f i j) → (j : ℕ) → j < n → MatchesFrom f 0 (records_of f) (lines i) j
  to_start n h j q = rw (zero-add j) (h j q)

  all-mean : Fit f i → (rows_at f 0).stop ≡ Ok tt → (v : Result ⊤ Refusal) → AllSaid f 0 (records_of f) (lines i) v → Means f i v
  all-mean l t v (all-match c h) = record { limits = l; taken = t; count = c; each = from_start (length (records_of f)) h }
  all-mean l t v (some_left n e h q) = rw (e, zero-add) (lines_left l t (from_start (length (records_of f)) h) q)
  all-mean l t v (one-wrong r q h e) = wrong-record l t r q (from_start r h) (rw (zero-add r) at e)

  pub check-means : Means f i (check_of f i)
  unfolding check_of over_limit
  check-means = go (ltb limit (length f)) refl (ltb limit (length i)) refl
    where
      file : Fit f i → (s : Result ⊤ Refusal) → (rows_at f 0).stop ≡ s → Means f i (file_says f (lines i) (rows_at f 0).rows s)
      file l (Err y) e = bad-file l y e
      file l (Ok tt) e = all-mean l e _ (all_said f (records_of f) 0 (lines i))

      go : (s : Bool) → ltb limit (length f) ≡ s → (t : Bool) → ltb limit (length i) ≡ t
          → Means f i (cond s (Err TooLong) (cond t (Err TooLong) (file_says f (lines i) (rows_at f 0).rows (rows_at f 0).stop)))
      go true h t k = long-file (ltb-true _ _ h)
      go false h true k = long-index (ltb-false _ _ h) (ltb-true _ _ k)
      go false h false k = file (record { fasta = ltb-false _ _ h; index = ltb-false _ _ k }) (rows_at f 0).stop refl

  -- within the limit the indexer decides, and then the records
  within : Fit f i → (rows_at f 0).stop ≡ Ok tt → (v : Result ⊤ Refusal) → AllSaid f 0 (records_of f) (lines i) v → check_of f i ≡ v
  unfolding check_of over_limit
  within l t v s = rw (le-ltb _ _ l.fasta, le-ltb _ _ l.index, t) (all-only f (records_of f) 0 (lines i) v s)

  pub check-only : (v : Result ⊤ Refusal) → Means f i v → check_of f i ≡ v
  check-only (Ok tt) m = within m.limits m.taken (Ok tt) (all-match m.count (to_start (length (records_of f)) m.each))
  check-only (Err y) (long-file h) = unfold check_of over_limit in rw (lt-ltb _ _ h)
  check-only (Err y) (long-index h k) = unfold check_of over_limit in rw (le-ltb _ _ h, lt-ltb _ _ k)
  check-only (Err y) (bad-file l z e) = unfold check_of over_limit in rw (le-ltb _ _ l.fasta, le-ltb _ _ l.index, e)
  check-only (Err y) (wrong-record l t r q h e) = within l t (Err y) (one-wrong r q (to_start r h) (rw (zero-add r) e))
  check-only (Err y) (lines_left l t h q) = within l t (Err y) (some_left (length (records_of f)) (sym (zero-add (length (records_of f)))) (to_start (length (records_of f)) h) q)
