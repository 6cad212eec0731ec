-- Just the needed bytes fetched, and read (request K7), where a host meets it: at the entry points, over the bytes that it lends. A host that
-- has only a part of a file at hand calls wakeluri_needed_bytes with the file's length and the room of its output, fetches the part that this
-- answers, and calls wakeluri_read_window with it.
--
-- `fetched-exact`: without a refusal, that call answers and leaves what wakeluri_read_exact would for the whole file.
--
-- `not-fetched`: with one, wakeluri_read_exact would answer the same three numbers, and leave the output as it was.
use Rattle.std.specs.Prelude.{ℕ, ◌-◌, ◌≡◌, refl, List, length, take, drop, Option, Result, Ok, Err}
use Rattle.std.proofs.Math.Path.{ap}
use Rattle.std.proofs.Common.{◌∙◌, arith}
use Rattle.refusal.specs.declared.Refusal.{Refusal}
use Rattle.record.specs.declared.Position.{Position}
use Rattle.region.specs.declared.Part.{Part}
use Rattle.refusal.specs.Numbers.{numbers_of}
use Rattle.refusal.specs.Apart.{never-zero}
use Rattle.output.specs.Outcome.{Outcome, leaves}
use Rattle.table.specs.Rows.{held_at}
use Rattle.table.specs.Numbers.{numbers_in}
use Rattle.region.specs.Exact.{exact_read}
use Rattle.region.specs.Window.{window_read, needed_read}
use Rattle.region.specs.NeededPart.{needed-reads, needed-refuses}
use Rattle.wakeluri.specs.declared.answer.Answer.{Answer}
use Rattle.wakeluri.specs.declared.window.PartAnswer.{PartAnswer}
use Rattle.wakeluri.specs.Answer.{bound_of, written_answer}
use Rattle.wakeluri.specs.Told.{written_told}
use Rattle.wakeluri.specs.Window.{part_answer}
use Rattle.demands.specs.Calls.{ReadExact, NeededBytes, ReadWindow}

-- the read answers what the first call answered, and leaves the output as it was
pub record NotRead (p : PartAnswer) (a : Answer) (out out' : List ℕ) : Type 0 where
  pub refusal : a.refusal ≡ p.refusal
  pub first : a.first ≡ p.first
  pub second : a.second ≡ p.second
  pub same : out' ≡ out

module _ (file t : List ℕ) (u r : ℕ) (a e : Option Position) (out : List ℕ) (p : PartAnswer) where
  reads : (d : Result Part Refusal) → needed_read (length file) (length out) t u r a e ≡ d → p ≡ part_answer d → p.refusal ≡ 0
      → window_read (length file) (take (p.to - p.from) (drop p.from file)) p.from t u r a e out ≡ exact_read file t u r a e out
  unfolding needed_read window_read exact_read part_answer
  reads (Ok part) n q z = rw q (needed-reads file (held_at t u r) a e out part n)
  reads (Err f) n q z = let h : (numbers_of f).refusal ≡ 0 = rw q at z in absurd (omega (arith, never-zero f))

  refuses-as : (d : Result Part Refusal) → needed_read (length file) (length out) t u r a e ≡ d → p ≡ part_answer d → (p.refusal ≡ 0 → ⊥)
      → (told : Answer) (out' : List ℕ) → leaves told out' ≡ written_told (exact_read file t u r a e out) → NotRead p told out out'
  unfolding needed_read exact_read part_answer written_told written_answer
  refuses-as (Ok part) n q z told out' h = absurd (z (rw q))
  refuses-as (Err f) n q z told out' h =
      let w = rw (needed-refuses file (held_at t u r) a e out f n) at h in
      let b : told ≡ written_answer (Err f) = ap (λ (o : Outcome Answer). o.answer) w in
      record { refusal = rw (b, q); first = rw (b, q); second = rw (b, q); same = ap (λ (o : Outcome Answer). o.output) w }

module _ (file table : List ℕ) (in_use row has-start start has_end end : ℕ) (out : List ℕ) (p : PartAnswer)
    (needs : NeededBytes (length file) (length out) table in_use row has-start start has_end end p) (a : Answer) (out' : List ℕ) where
  pub fetched-exact : p.refusal ≡ 0
      → ReadWindow (length file) (take (p.to - p.from) (drop p.from file)) p.from table in_use row has-start start has_end end out a out'
      → ReadExact file table in_use row has-start start has_end end out a out'
  fetched-exact z h = h ∙ ap written_told (reads file (numbers_in table) in_use row (bound_of has-start start) (bound_of has_end end) out p _ refl needs z)

  pub not-fetched : (p.refusal ≡ 0 → ⊥) → ReadExact file table in_use row has-start start has_end end out a out' → NotRead p a out out'
  not-fetched z h = refuses-as file (numbers_in table) in_use row (bound_of has-start start) (bound_of has_end end) out p _ refl needs z a out' h
