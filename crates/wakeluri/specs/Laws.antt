-- Laws of the answers: what a host gets of a call, by what the call answers and leaves.
use Rattle.std.specs.Prelude.{ℕ, ◌+◌, ◌^◌, ◌<◌, ◌≡◌, refl, List, Bool, true, false, cond, length, leb, Result, Ok, Err}
use Rattle.std.proofs.Common.{ap, sym, ◌∙◌, arith, leb-true, leb-false}
use Rattle.refusal.specs.declared.Refusal.{Refusal}
use Rattle.refusal.specs.declared.Refusal.TheVariants.{TooLong}
use Rattle.refusal.specs.Numbers.{over_limit}
use Rattle.lines.specs.declared.Span.{Span}
use Rattle.lines.specs.declared.Cursor.{Cursor}
use Rattle.lines.specs.Lines.{first_line, seq_at}
use Rattle.lines.specs.Laws.{bases-le, first-within, seq_at-end}
use Rattle.sequence.specs.Scan.{run_at}
use Rattle.sequence.specs.Read.{read_run}
use Rattle.table.specs.Fill.{Found}
use Rattle.table.specs.declared.Filled.{Filled}
use Rattle.output.specs.Outcome.{Outcome, leaves}
use Rattle.table.specs.Bytes.{FilledBytes}
use Rattle.wakeluri.specs.declared.answer.Answer.{Answer}
use Rattle.wakeluri.specs.Answer.{written_answer, sequence_answer, filled_answer}
use Rattle.wakeluri.specs.Told.{sequence_told, written_told, filled_told}

-- ---- answers with what is left

module _ (a : Answer) (out : List ℕ) where
  pub written-told : (r : Result ℕ Refusal) (o : Outcome (Result ℕ Refusal)) → leaves r out ≡ o → a ≡ written_answer r → leaves a out ≡ written_told o
  unfolding written_told
  written-told r o e q = rw (← e, q)

  pub sequence-told : (r : Result (ℕ × Cursor) Refusal) (o : Outcome (Result (ℕ × Cursor) Refusal)) → leaves r out ≡ o → a ≡ sequence_answer r → leaves a out ≡ sequence_told o
  unfolding sequence_told
  sequence-told r o e q = rw (← e, q)

  pub filled-told : (r : Filled) (before : List ℕ) (f : Found) → FilledBytes f before out r → a ≡ filled_answer r.rows r.stop → leaves a out ≡ filled_told f before
  unfolding filled_told
  filled-told r before f t q = rw (q, t.filled.rows, t.filled.stop, ← t.filled.table, ← t.bytes)

-- ---- a run

-- the run in the answer is the one at the place
run-told : (s : List ℕ) (c : Cursor) (x : Span) → read_run s c ≡ Ok x → x ≡ run_at s c.at
unfolding read_run
run-told s c x e = go (over_limit (length s)) e
  where
    go : (t : Bool) → cond t (Err TooLong) (Ok (run_at s c.at)) ≡ Ok x → x ≡ run_at s c.at
    go true q = let z : ◌≡◌ {A = ℕ} 0 1 = cc in absurd (omega arith)
    go false q = cc

-- it begins at an offset, and ends inside the file if it has bases
pub run_fits : (s : List ℕ) (c : Cursor) (r : Result Span Refusal) (x : Span) → r ≡ read_run s c → r ≡ Ok x → length s < 2 ^ 64 → x.start < 2 ^ 64 → x.start + x.length < 2 ^ 64
unfolding run_at
run_fits s c r x e q h m = go (leb x.start (length s)) refl
  where
    at : x.length ≡ (first_line (seq_at s x.start)).bases
    at = let w = run-told s c x (sym e ∙ q) in rw w refl

    go : (t : Bool) → leb x.start (length s) ≡ t → x.start + x.length < 2 ^ 64
    go true l = omega (arith, at, bases-le (seq_at s x.start), first-within s x.start (leb-true _ _ l))
    go false l = omega (arith, at, ap (λ (ls : List (List ℕ)). (first_line ls).bases) (seq_at-end s x.start (omega (arith, leb-false x.start (length s) l))))
