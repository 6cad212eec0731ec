-- The set of a complement letter has the complements of the letter's bases; and one set lies inside another exactly if their complements
-- do. For every byte at once.
use Rattle.std.specs.Prelude.{ℕ, ◌≡◌, refl, Bool, true, false, cond, not, T, eqb}
use Rattle.std.proofs.Common.{eqb→eq}
use Rattle.letters.specs.Letters.{letters, partner, set_of}
use Rattle.letters.specs.Sets.{inside, complements}
use Rattle.letters.specs.Laws.{both, every, of-all}

pub complement-set : (b : ℕ) → set_of (partner b) ≡ complements (set_of b)
unfolding partner set_of inside complements
complement-set b = eqb→eq _ _ (of-all (λ b y t. eqb (set_of y) (complements t)) tt b tt)

-- do two tests give the same
abbrev same : Bool → Bool → Bool
same true y = y
same false y = not y

so-same : (x y : Bool) → T (same x y) → x ≡ y
so-same true true t = refl
so-same true false t = absurd t
so-same false true t = absurd t
so-same false false t = refl

-- a byte's set lies inside a letter's exactly if their complements' sets do
abbrev kept : ℕ → ℕ → ℕ → ℕ → ℕ → Bool
kept y t p z q = same (inside (set_of y) (set_of z)) (inside t q)

abbrev kept_by : ℕ → ℕ → Bool
kept_by y t = cond (kept y t 0 0 0) (every (kept y t) letters) false

all-kept : (b : ℕ) → T (kept_by (partner b) (set_of b))
unfolding partner set_of inside
all-kept b = of-all (λ b y t. kept_by y t) tt b tt

pub complement-inside : (b p : ℕ) → inside (set_of (partner b)) (set_of (partner p)) ≡ inside (set_of b) (set_of p)
complement-inside b p =
    let t = both (kept (partner b) (set_of b) 0 0 0) (every (kept (partner b) (set_of b)) letters) (all-kept b) in
    so-same _ _ (of-all (kept (partner b) (set_of b)) t.1 p t.0)
