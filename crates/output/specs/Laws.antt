-- Laws of outcomes: an answer says which bytes were written.
use Rattle.std.specs.Prelude.{ℕ, ◌≤◌, ◌<◌, ◌≡◌, refl, List, ◌++◌, Bool, true, false, cond, length, take, drop, ltb, Result, Ok}
use Rattle.std.proofs.Common.{sym, ap, ◌∙◌, arith, take_at, drop_at, lt-ltb, le-ltb, ltb-false}
use Rattle.refusal.specs.declared.Refusal.{Refusal}
use Rattle.refusal.specs.declared.Refusal.TheVariants.{NoRoom}
use Rattle.output.specs.Outcome.{Outcome, leaves, refuses, gives, pours}

-- by whether there is room
module _ (bs out : List ℕ) where
  pub pours-short : length out < length bs → refuses (NoRoom (length bs)) out ≡ pours bs out
  unfolding pours
  pours-short h = rw (lt-ltb _ _ h)

  pub pours-fits : length bs ≤ length out → gives bs out ≡ pours bs out
  unfolding pours
  pours-fits h = rw (le-ltb _ _ h)

-- k bytes that were written are these, and the rest is as it was
pub record Front (bs out : List ℕ) (k : ℕ) (after : List ℕ) : Type 0 where
  pub size : length bs ≡ k
  pub room : length bs ≤ length out
  pub front : take k after ≡ bs
  pub rest : drop k after ≡ drop k out

-- a refusal is no bytes
pub no-bytes : (f : Refusal) (out : List ℕ) (k : ℕ) (after : List ℕ) → refuses f out ≡ leaves (Ok k) after → ⊥
no-bytes f out k after q = let a = ap (λ (w : Outcome (Result ℕ Refusal)). w.answer) q in let z : ◌≡◌ {A = ℕ} 0 1 = cc in omega arith

pub poured-known : (bs out : List ℕ) (k : ℕ) (after : List ℕ) → pours bs out ≡ leaves (Ok k) after → Front bs out k after
unfolding pours
poured-known bs out k after h = go (ltb (length out) (length bs)) refl h
  where
    go : (t : Bool) → ltb (length out) (length bs) ≡ t → cond t (refuses (NoRoom (length bs)) out) (gives bs out) ≡ leaves (Ok k) after → Front bs out k after
    go true e q = absurd (no-bytes _ out k after q)
    go false e q =
        let a = ap (λ (w : Outcome (Result ℕ Refusal)). w.answer) q in
        let b : length bs ≡ k = cc in
        let o : bs ++ drop (length bs) out ≡ after = ap (λ (w : Outcome (Result ℕ Refusal)). w.output) q in
        record {
          size = b;
          room = ltb-false _ _ e;
          front = ap (take k) (sym o) ∙ take_at bs (drop (length bs) out) k b;
          rest = ap (drop k) (sym o) ∙ (drop_at bs (drop (length bs) out) k b ∙ ap (λ (i : ℕ). drop i out) b);
        }
