-- Parts of a file where a host meets them (R90): at wakeluri_index_part and wakeluri_check_part, called on parts whose numbers rise from 0 to the
-- lengths or more. Whatever numbers a host takes, and whatever the calls answer, if it meets their contracts, then:
--
-- `parts-accepted`: if every call of wakeluri_check_part answers 0, wakeluri_check answers 0.
--
-- `parts-indexed`: if no call of wakeluri_index_part answers 1 or 8, what they tell, one part behind the other up to the first refusal, is what
-- wakeluri_index_file or wakeluri_index_complete tells with a table that has room for it.
use Prim.Native.Nat.{ℕ, ◌≤◌}
use Rattle.std.specs.Prelude.{◌≡◌, List, [], ◌∷◌, Bool, true, false, cond, length, take, ltb, Ok, Err}
use Rattle.std.proofs.Math.Path.{refl, ap}
use Rattle.std.proofs.Common.{sym, ◌∙◌}
use Rattle.refusal.specs.Numbers.{over_limit, numbers_of}
use Rattle.refusal.specs.declared.Refusal.TheVariants.{TooLong, TableFull}
use Rattle.table.specs.Kinds.{FoundOf}
use Rattle.table.specs.Fill.{Found, nothing, held_in}
use Rattle.table.specs.Numbers.{numbers_in}
use Rattle.table.specs.Rows.{row_count}
use Rattle.fitting.specs.Rules.{rows_by, rows_in}
use Rattle.checker.specs.Check.{check_of}
use Rattle.output.specs.Outcome.{Outcome, leaves}
use Rattle.parts.specs.Parts.{part_by, part_in, part_checked}
use Rattle.parts.specs.Joining.{joined}
use Rattle.parts.specs.Together as together
use Rattle.wakeluri.specs.declared.answer.Answer.{Answer}
use Rattle.wakeluri.specs.Answer.{verdict_answer, filled_answer}
use Rattle.wakeluri.specs.Told.{filled_told}
use Rattle.wakeluri.specs.Feeding.{rule_by}
use Rattle.demands.specs.Calls.{Check}
use Rattle.demands.specs.Laws.{accepted-zero, zero-accepted}

-- ---- the calls' promises, word for word

-- wakeluri_index_part(file, from, to, complete, table) answers a, and leaves table'
abbrev pub IndexPart : List ℕ → ℕ → ℕ → ℕ → List ℕ → Answer → List ℕ → Type 0
IndexPart file from to complete table a table' = leaves a table' ≡ filled_told (part_in (rule_by complete) file from to (row_count (numbers_in table))) table

-- wakeluri_check_part(fasta, from, to, index, first, last) answers a
abbrev pub CheckPart : List ℕ → ℕ → ℕ → List ℕ → ℕ → ℕ → Answer → Type 0
CheckPart fasta from to index first last a = a ≡ verdict_answer (part_checked fasta from to index first last)

-- ---- check

-- calls on parts from two numbers on to the end of both, each of which answers 0
pub data Accepted (file index : List ℕ) : ℕ → ℕ → Type 0 where
  over : (n j : ℕ) → length file ≤ n → length index ≤ j → Accepted file index n j
  part : (n m j k : ℕ) (a : Answer) → n ≤ m → j ≤ k → CheckPart file n m index j k a → a.refusal ≡ 0 → Accepted file index m k → Accepted file index n j

checked : (file index : List ℕ) (n j : ℕ) → Accepted file index n j → together.Checked file index n j
checked file index n j (over _ _ h k) = together.Checked.over n j h k
checked file index n j (part _ m _ k a h q c z r) =
    together.Checked.accepted n m j k h q (zero-accepted (part_checked file n m index j k) (rw c at z)) (checked file index m k r)

pub parts-accepted : (file index : List ℕ) (a : Answer) → Accepted file index 0 0 → Check file index a → a.refusal ≡ 0
parts-accepted file index a p c = rw c (accepted-zero (check_of file index) (together.parts-check file index (checked file index 0 0 p)))

-- ---- index

-- an answer that is neither 1 nor 8 tells all that a part gives
told-answer : (f : Found) (table : List ℕ) (a : Answer) (table' : List ℕ) → leaves a table' ≡ filled_told f table → a ≡ filled_answer (length f.rows) f.stop
unfolding filled_told
told-answer f table a table' e = ap (λ (o : Outcome Answer). o.answer) e

full-eight : (n k : ℕ) → (filled_answer k (Err (TableFull n))).refusal ≡ 8
unfolding filled_answer numbers_of
full-eight n k = refl

long-one : (k : ℕ) → (filled_answer k (Err TooLong)).refusal ≡ 1
unfolding filled_answer numbers_of
long-one k = refl

-- rows of any kind that a table does not refuse with 8 are all there
pub held-room : {Row : Type 0} (n : ℕ) (f : FoundOf Row) → ((filled_answer (length (held_in n n f).rows) (held_in n n f).stop).refusal ≡ 8 → ⊥) → held_in n n f ≡ f
unfolding held_in
held-room n f h = go (ltb n (length f.rows)) h
  where
    go : (t : Bool) → ((filled_answer (length (cond t (record { rows = take n f.rows; stop = Err (TableFull n) }) f).rows) (cond t (record { rows = take n f.rows; stop = Err (TableFull n) }) f).stop).refusal ≡ 8 → ⊥)
        → cond t (record { rows = take n f.rows; stop = Err (TableFull n) }) f ≡ f
    go true k = absurd (k (full-eight n (length (take n f.rows))))
    go false k = refl

module _ (file : List ℕ) (complete : ℕ) where
  part-all : (from to : ℕ) (table : List ℕ) (a : Answer) (table' : List ℕ) → IndexPart file from to complete table a table' → (a.refusal ≡ 1 → ⊥) → (a.refusal ≡ 8 → ⊥)
      → part_in (rule_by complete) file from to (row_count (numbers_in table)) ≡ part_by (rule_by complete) file from to
  unfolding part_in
  part-all from to table a table' e one eight =
      go (over_limit (length file)) (told-answer _ table a table' e)
    where
      n : ℕ
      n = row_count (numbers_in table)

      f : Found
      f = part_by (rule_by complete) file from to

      go : (t : Bool) → a ≡ filled_answer (length (cond t (nothing (Err TooLong)) (held_in n n f)).rows) (cond t (nothing (Err TooLong)) (held_in n n f)).stop
          → cond t (nothing (Err TooLong)) (held_in n n f) ≡ f
      go true q = absurd (one (rw q (long-one 0)))
      go false q = held-room n f (λ z. eight (rw q z))

  -- calls on parts from a number on to the end of the file, none of which answers 1 or 8, and what they tell together
  pub data Told : ℕ → Found → Type 0 where
    over : (n : ℕ) → length file ≤ n → Told n (nothing (Ok tt))
    part : (n m : ℕ) (table : List ℕ) (a : Answer) (table' : List ℕ) (g : Found) → n ≤ m → IndexPart file n m complete table a table' → (a.refusal ≡ 1 → ⊥) → (a.refusal ≡ 8 → ⊥) → Told m g
        → Told n (joined (part_in (rule_by complete) file n m (row_count (numbers_in table))) g)

  -- the numbers of the parts, and what they give
  record Numbers (n : ℕ) (f : Found) : Type 0 where
    ms : List ℕ
    rise : together.Rises (length file) n ms
    gives : f ≡ together.parts_by (rule_by complete) file n ms

  parts_more : (n m : ℕ) (ms : List ℕ) (f g : Found) → f ≡ part_by (rule_by complete) file n m → g ≡ together.parts_by (rule_by complete) file m ms
      → joined f g ≡ together.parts_by (rule_by complete) file n (m ∷ ms)
  unfolding together.parts_by
  parts_more n m ms f g p q = ap (λ (k : Found). joined k g) p ∙ ap (joined (part_by (rule_by complete) file n m)) q

  numbers : (n : ℕ) (f : Found) → Told n f → Numbers n f
  numbers n _ (over _ h) = record { ms = []; rise = together.Rises.ends n h; gives = unfold together.parts_by in refl }
  numbers n _ (part _ m table a table' g h e one eight r) =
      let x = numbers m g r in
      record {
        ms = m ∷ x.ms;
        rise = together.Rises.rises n m x.ms h x.rise;
        gives = parts_more n m x.ms _ g (part-all n m table a table' e one eight) x.gives;
      }

  pub parts-indexed : (f : Found) → Told 0 f → over_limit (length file) ≡ false → (rows : ℕ) → length f.rows ≤ rows → rows_in (rule_by complete) file rows ≡ f
  parts-indexed f t small rows room =
      let x = numbers 0 f t in
      let e : f ≡ rows_by (rule_by complete) file 0 = x.gives ∙ together.parts-index (rule_by complete) file x.ms x.rise in
      together.whole-told (rule_by complete) file small rows (rw e at room) ∙ sym e
