-- An outcome: an answer, and the lent buffer afterwards.
use Rattle.std.specs.Prelude.{ℕ, List, ◌++◌, cond, length, drop, ltb, Result, Ok, Err}
use Rattle.refusal.specs.declared.Refusal.{Refusal}
use Rattle.refusal.specs.declared.Refusal.TheVariants.{NoRoom}

pub record Outcome (A : Type 0) : Type 0 where
  pub answer : A
  pub output : List ℕ

abbrev pub leaves : {A : Type 0} → A → List ℕ → Outcome A
leaves a out = record { answer = a; output = out }

-- ---- so many bytes, or a refusal

-- refused: the output is as it was
abbrev pub refuses : Refusal → List ℕ → Outcome (Result ℕ Refusal)
refuses f out = leaves (Err f) out

-- some bytes at the front of the output; the bytes behind them stay
abbrev pub gives : List ℕ → List ℕ → Outcome (Result ℕ Refusal)
gives bs out = leaves (Ok (length bs)) (bs ++ drop (length bs) out)

-- the same, or 14 if there is too little room, with how many bytes they are
unfoldable pub pours : List ℕ → List ℕ → Outcome (Result ℕ Refusal)
pours bs out = cond (ltb (length out) (length bs)) (refuses (NoRoom (length bs)) out) (gives bs out)
