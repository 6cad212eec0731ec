-- A law for PlainAgain.antt: a line that is answered as plain reads, and its entry is plain.
use Rattle.std.specs.Prelude.{ℕ, ◌≡◌, refl, List, Bool, true, false, Result, Ok, Err}
use Rattle.std.proofs.Common.{arith}
use Rattle.refusal.specs.declared.Refusal.{Refusal}
use Rattle.index_line.specs.IndexLine.{read_line}
use Rattle.index_line.specs.declared.Entry.{Entry}
use Rattle.wakeluri.specs.Answer.{flag_of, entry_answer}
use Rattle.wakeluri.specs.Told.{told_row}

-- if the answer says plain, the line reads and is plain
pub record ToldPlain (l : List ℕ) : Type 0 where
  pub entry : Entry
  pub reads : read_line l ≡ Ok entry
  pub plain : entry.plain ≡ true
  pub same : told_row (entry_answer (read_line l)) ≡ entry.«record»

pub told-plain : (l : List ℕ) → (entry_answer (read_line l)).plain ≡ 1 → ToldPlain l
unfolding entry_answer
told-plain l h = go (read_line l) refl h
  where
    flagged : (b : Bool) → flag_of b ≡ 1 → b ≡ true
    flagged true q = refl
    flagged false q = absurd (omega arith)

    go : (r : Result Entry Refusal) → read_line l ≡ r → (entry_answer r).plain ≡ 1 → ToldPlain l
    go (Ok e) q p = record { entry = e; reads = q; plain = flagged e.plain p; same = rw q }
    go (Err f) q p = absurd (omega arith)
