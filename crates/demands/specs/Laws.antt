-- Laws for AtTheEdge.antt: what an answer without a refusal means, the table that a call leaves, and the lines that are written from it.
use Rattle.std.specs.Prelude.{ℕ, suc, ◌+◌, ◌≤◌, ◌<◌, ◌≡◌, List, [], ◌∷◌, drop, Bool, Option, Result, Ok, Err, ⊤}
use Rattle.std.proofs.Math.Path.{refl, ap}
use Rattle.std.proofs.Common.{take_at, lt-ltb, le-ltb, arith, add-zero}
use Rattle.std.proofs.Math.ListN.{length, take}
use Rattle.std.proofs.Math.Dec.{ltb}
use Rattle.std.proofs.Math.Bool.{true, false}
use Rattle.refusal.specs.declared.Refusal.{Refusal}
use Rattle.record.specs.declared.Position.{Position}
use Rattle.refusal.specs.Numbers.{numbers_of, over_limit}
use Rattle.lines.specs.Lines.{lines}
use Rattle.lines.specs.Groups.{groups}
use Rattle.record.specs.declared.Record.{Record}
use Rattle.table.specs.Rows.{row_count, with_rows}
use Rattle.table.specs.Fill.{Found}
use Rattle.output.specs.Outcome.{Outcome, leaves, pours}
use Rattle.index_line.specs.IndexLine.{columns_of, name_in, line_of, line_written, written_as}
use Rattle.checker.specs.Accepts.{limit}
use Rattle.region.specs.Exact.{exact_read}
use Rattle.table.specs.Numbers.{numbers_in, with_numbers}
use Rattle.wakeluri.specs.declared.answer.Answer.{Answer}
use Rattle.wakeluri.specs.Answer.{written_answer, filled_answer, verdict_answer}
use Rattle.wakeluri.specs.Told.{filled_told, written_told}
use Rattle.mission.specs.IndexedLaws.{Along, text-fronted, row-held}
use Rattle.mission.specs.Leading.{line_in, index_text, no_row, row_in, LeadsTo, leading_at}
use Rattle.mission.specs.TableOf.{Gives, TableOf}
use Rattle.mission.specs.TableLaws.{filled-table}
use Rattle.mission.specs.Asked.{Asked}
use Rattle.mission.specs.Reads.{table-reads}
use Rattle.refusal.specs.Apart.{never-zero}
use Rattle.demands.specs.Host.{AreBytes, JustThose, Needs, joined}
use Rattle.demands.specs.TableBytes.{rows_back}

-- ---- an answer with no refusal

pub accepted-zero : (v : Result ⊤ Refusal) → v ≡ Ok tt → (verdict_answer v).refusal ≡ 0
unfolding verdict_answer
accepted-zero v e = rw e

pub zero-accepted : (v : Result ⊤ Refusal) → (verdict_answer v).refusal ≡ 0 → v ≡ Ok tt
unfolding verdict_answer
zero-accepted (Ok tt) h = refl
zero-accepted (Err x) h = absurd (omega (arith, never-zero x))

pub zero_ended : (n : ℕ) (s : Result ⊤ Refusal) → (filled_answer n s).refusal ≡ 0 → s ≡ Ok tt
unfolding filled_answer
zero_ended n (Ok tt) h = refl
zero_ended n (Err x) h = absurd (omega (arith, never-zero x))

pub filled-count : (n : ℕ) (s : Result ⊤ Refusal) → (filled_answer n s).count ≡ n
unfolding filled_answer
filled-count n (Ok tt) = refl
filled-count n (Err x) = refl

-- a call that fills a table answers what it found, and leaves it there
pub found-told : (a : Answer) (t t' : List ℕ) (found : Found) → leaves a t' ≡ filled_told found t → (a ≡ filled_answer (length found.rows) found.stop) × (t' ≡ with_numbers t (with_rows (numbers_in t) 0 found.rows))
unfolding filled_told
found-told a t t' found h = (ap (λ (x : Outcome Answer). x.answer) h, ap (λ (x : Outcome Answer). x.output) h)

-- if it answers no refusal, it came to the end
pub found-ended : (a : Answer) (t t' : List ℕ) (found : Found) → leaves a t' ≡ filled_told found t → a.refusal ≡ 0 → found.stop ≡ Ok tt
found-ended a t t' found h z = zero_ended (length found.rows) found.stop (rw (found-told a t t' found h).0 at z)

-- ---- the table that is left of rows about a file's records

module _ (f t t' : List ℕ) (found : Found) (a : Answer) (bytes : AreBytes t) (gives : Gives f found (row_count (numbers_in t))) (told : leaves a t' ≡ filled_told found t) where
  pub left-answer : (a.refusal ≡ 0) × (a.count ≡ length found.rows)
  unfolding filled_answer
  left-answer = let e = (found-told a t t' found told).0 in rw (e, gives.stop) (refl, refl)

  pub left-numbers : numbers_in t' ≡ with_rows (numbers_in t) 0 found.rows
  left-numbers = rw (found-told a t t' found told).1 (rows_back t found.rows bytes gives.rows.fits)

  pub left-table : TableOf f (numbers_in t') a.count
  left-table =
      rw left-answer.1
      (filled-table f (numbers_in t) (numbers_in t') found (record { rows = length found.rows; stop = found.stop }) gives
      (record { rows = refl; stop = refl; table = left-numbers }))

pub table-told : (f t : List ℕ) (n r : ℕ) (start end : Option Position) (out : List ℕ) (a : Answer) (out' : List ℕ) → TableOf f t n → length f ≤ limit → Asked f r start end out
    → leaves a out' ≡ written_told (exact_read f t n r start end out) → JustThose f r start end out a out'
unfolding written_told written_answer
table-told f t n r start end out a out' table small asked told =
    let e = rw (table-reads f t n r start end out table small asked) at told in
    let x = ap (λ (y : Outcome Answer). y.answer) e in
    record { refusal = ap (λ (y : Answer). y.refusal) x; count = ap (λ (y : Answer). y.count) x; output = ap (λ (y : Outcome Answer). y.output) e }

-- ---- index lines that are written one after another

-- joined outputs are the rows' index lines, if each is
pub joined-lines : (f : List ℕ) (xs : List Record) (answers : ℕ → Answer) (outputs : ℕ → List ℕ) (k : ℕ)
    → ((j : ℕ) → j < length xs → take (answers (k + j)).count (outputs (k + j)) ≡ line_in f (row_in xs j)) → joined answers outputs k (length xs) ≡ index_text f xs
unfolding joined index_text
joined-lines f [] answers outputs k h = refl
joined-lines f (x ∷ xs) answers outputs k h =
    let z = rw (add-zero k) at (h 0 (omega arith)) in
    rw (z, joined-lines f xs answers outputs (suc k) (λ j m. rw (q j) (h (suc j) (omega arith))))
  where
    q : (j : ℕ) → suc k + j ≡ k + suc j
    q j = omega arith

-- a text that is put at the front of an output: it is there if the call is not refused, and it needs its own length
module _ (a : Answer) (text out out' : List ℕ) (told : leaves a out' ≡ written_told (pours text out)) where
  pub front-is : a.refusal ≡ 0 → take a.count out' ≡ text
  unfolding written_told written_answer pours numbers_of
  front-is none = go (ltb (length out) (length text)) refl
    where
      go : (t : Bool) → ltb (length out) (length text) ≡ t → take a.count out' ≡ text
      go true e =
          let q = rw e at told in
          absurd (omega (arith, ap (λ (x : Outcome Answer). x.answer.refusal) q))
      go false e =
          let q = rw e at told in
          let n : a.count ≡ length text = ap (λ (x : Outcome Answer). x.answer.count) q in
          rw (n, ap (λ (x : Outcome Answer). x.output) q) (take_at text (drop (length text) out) (length text) refl)

  pub front-needs : Needs (length text) out a
  unfolding written_told written_answer pours numbers_of
  front-needs = record { enough = λ h. ap (λ (x : Outcome Answer). x.answer.refusal) (rw (le-ltb (length out) (length text) h) at told); short = short }
    where
      short : length out < length text → (a.refusal ≡ 14) × (a.first ≡ length text)
      short h = let q = rw (lt-ltb (length out) (length text) h) at told in (ap (λ (x : Outcome Answer). x.answer.refusal) q, ap (λ (x : Outcome Answer). x.answer.first) q)

-- so the index line of row k of a table of rows that lead to their bases
pub row-fronted : (f t : List ℕ) (xs : List Record) (s : Result ⊤ Refusal) (h : Along (LeadsTo f) 0 (groups (lines f)) xs s) → length f ≤ limit → length xs ≤ row_count t
    → (k : ℕ) → k < length xs → (out : List ℕ) → written_as f (with_rows t 0 xs) (length xs) k out ≡ pours (line_in f (row_in xs k)) out
unfolding written_as line_written over_limit line_of
row-fronted f t xs s h small room k m out =
    let d = leading_at f xs s h k m in
    rw (le-ltb 1099511627776 (length f) small, row-held t xs no_row k (length f) room m (d.lined (omega arith)) d.named d.described)
    (text-fronted (name_in f (row_in xs k)) (columns_of (row_in xs k)) out d.unbroken)
