-- A table that is filled from the front.
use Rattle.std.specs.Prelude.{ℕ, ◌+◌, ◌<◌, ◌≡◌, List, length, get_or, set}
use Rattle.std.proofs.Common.{◌∙◌, arith, below_more, get_or-set_same, get_or-set_other}

-- one entry more
pub filled : (f : ℕ → ℕ) (l : List ℕ) (i v : ℕ) → i < length l → ((k : ℕ) → k < i → get_or l k 0 ≡ f k) → v ≡ f i
    → (k : ℕ) → k < i + 1 → get_or (set l i v) k 0 ≡ f k
filled f l i v h all e = below_more (λ (k : ℕ). get_or (set l i v) k 0 ≡ f k) i (λ k b. get_or-set_other l i k v 0 (λ q. omega arith) ∙ all k b) (get_or-set_same l i v 0 h ∙ e)
