-- `scoring::score_by` meets its contract: the counts by the places where both have a byte.
use Rattle.std.proofs.Common.{◌≤◌, ℕ, Bool, List, refl, ◌∙◌, arith, length, take, length-take-le, get_or-take, zero-add}
use Rattle.scoring.specs.Laws.{score-is}
use Rattle.scoring.specs.Counting.{Counted, agrees, count_same, count_none, counted-front}
use Rattle.scoring.proofs.score_by.Goals as goal

-- the places that both have are the first of each
taken : (rule : ℕ → ℕ → Bool) (key typed : List ℕ) (n r : ℕ) → n ≤ length key
    → Counted (agrees rule (take n key) (take n typed)) 0 (length (take n key)) r
    → Counted (agrees rule key typed) 0 n r
unfolding agrees
taken rule key typed n r h c =
    let d = rw (length-take-le n key h) at c in
    let s = count_same (agrees rule (take n key) (take n typed)) (agrees rule key typed) n (λ p q. rw (get_or-take n key p 0 q, get_or-take n typed p 0 q)) in
    let w = counted-front (agrees rule (take n key) (take n typed)) n r d ∙ s in
    record { counts = rw (zero-add n) (omega (arith, w, count_none (agrees rule key typed))); most = d.most }

pub returns : goal.returns
returns g c = score-is _ _ _ _ _ _ _ c.min-both.ensures (taken _ _ _ _ _ (omega arith) c.right_in-right.ensures) refl c.tenths-score.ensures
