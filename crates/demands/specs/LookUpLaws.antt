-- Laws for LookUp.antt: the calls below, with their answers as numbers.
use Rattle.std.specs.Prelude.{ℕ, ◌≡◌, refl, List, Result, Ok, Err}
use Rattle.std.proofs.Common.{ap, arith}
use Rattle.refusal.specs.Numbers.{numbers_of}
use Rattle.refusal.specs.Apart.{never-zero}
use Rattle.refusal.specs.declared.Refusal.{Refusal}
use Rattle.output.specs.Outcome.{Outcome, leaves}
use Rattle.region.specs.Refusals.{OfLookUp, OfRead}
use Rattle.region.specs.Refusals.OfLookUp.{bad-row, unknown}
use Rattle.region.specs.Refusals.OfRead.{bad-bounds, past-length, no_room, not-in-file}
use Rattle.wakeluri.specs.declared.answer.Answer.{Answer}
use Rattle.wakeluri.specs.Answer.{found_answer, written_answer}
use Rattle.wakeluri.specs.Told.{written_told}
use Rattle.region.specs.ByName as one
use Rattle.demands.specs.LookUpTells.{FirstTells, SecondTells, Split}
use Rattle.demands.specs.LookUpTells.FirstTells.{told-25, told-15}
use Rattle.demands.specs.LookUpTells.SecondTells.{told-0, told-16, told-17, told-14, told-18}

first-tells : (f : Refusal) → OfLookUp f → FirstTells (numbers_of f).refusal
unfolding numbers_of
first-tells _ (bad-row r) = told-25
first-tells _ unknown = told-15

second-refuses : (f : Refusal) → OfRead f → SecondTells (numbers_of f).refusal
unfolding numbers_of
second-refuses _ bad-bounds = told-16
second-refuses _ (past-length n) = told-17
second-refuses _ (no_room n) = told-14
second-refuses _ (not-in-file p) = told-18

second-tells : (r : Result ℕ Refusal) → ((f : Refusal) → r ≡ Err f → OfRead f) → SecondTells (written_answer r).refusal
unfolding written_answer
second-tells (Ok n) h = told-0
second-tells (Err f) h = second-refuses f (h f refl)

pub split : (single : Outcome (Result ℕ Refusal)) (d : Result ℕ Refusal) (second : ℕ → Outcome (Result ℕ Refusal)) (out : List ℕ) (first : Answer) → first ≡ found_answer d → one.Split single d second out
    → Split (written_told single) first (λ row a out'. leaves a out' ≡ written_told (second row)) out
unfolding found_answer written_told written_answer
split single (Err f) second out first q s =
    let k = s.refused f refl in
    record {
      refused = λ n. (rw q (first-tells f k.0), rw (k.1, q));
      read = λ z. let h : (numbers_of f).refusal ≡ 0 = rw q at z in absurd (omega (arith, never-zero f));
    }
split single (Ok r) second out first q s =
    let k = s.read r refl in
    record {
      refused = λ n. absurd (n (rw q));
      read = λ z a out' h.
          let t : leaves a out' ≡ written_told (second r) = rw q at h in
          let e : a ≡ written_answer (second r).answer = ap (λ (x : Outcome Answer). x.answer) t in
          (rw (k.0, t), rw e (second-tells (second r).answer k.1));
    }
