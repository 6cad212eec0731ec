-- Tables of 256 entries, one for each byte. One computed test shows that a table holds what a rule gives.
use Rattle.std.specs.Prelude.{ℕ, zero, suc, ◌+◌, ◌<◌, ◌≡◌, Bool, true, false, cond, List, [], ◌∷◌, T, eqb, length, get_or}
use Rattle.std.proofs.Common.{add-zero, add-suc, suc-add, zero-add, arith, eqb→eq}
use Rattle.letters.specs.Laws.{both}

-- a table of what f gives: the entry of a byte is at its place
unfoldable pub IsTable : (ℕ → ℕ) → List ℕ → Type 0
IsTable f t = (b : ℕ) → b < 256 → get_or t b 0 ≡ f b

-- the entry of a byte
pub entry : (f : ℕ → ℕ) (t : List ℕ) → IsTable f t → (b : ℕ) → b < 256 → get_or t b 0 ≡ f b
unfolding IsTable
entry f t h = h

-- the entries from place i on are what f gives for their places
abbrev pub right : (ℕ → ℕ) → ℕ → List ℕ → Bool
right f i [] = true
right f i (x ∷ xs) = cond (eqb x (f i)) (right f (suc i) xs) false

entries : (f : ℕ → ℕ) (xs : List ℕ) (i : ℕ) → T (right f i xs) → (k : ℕ) → k < length xs → get_or xs k 0 ≡ f (i + k)
entries f [] i t k h = absurd (omega arith)
entries f (x ∷ xs) i t zero h = rw (add-zero i) (eqb→eq x (f i) (both (eqb x (f i)) (right f (suc i) xs) t).0)
entries f (x ∷ xs) i t (suc k) h =
    rw (add-suc i k, ← suc-add i k) (entries f xs (suc i) (both (eqb x (f i)) (right f (suc i) xs) t).1 k (omega arith))

-- if one computed test holds at all entries of a list, it holds at each; so 256 right entries are a table
pub is-table : (f : ℕ → ℕ) (t : List ℕ) → length t ≡ 256 → T (right f 0 t) → IsTable f t
unfolding IsTable
is-table f t n ok b h = rw (zero-add b) at (entries f t 0 ok b (omega arith))
