-- Laws of the letters: what one computed test finds at each letter holds of each byte.
use Rattle.std.specs.Prelude.{ℕ, ◌<◌, ◌≡◌, refl, Bool, true, false, cond, List, [], ◌∷◌, T, eqb, ltb}
use Rattle.std.proofs.Common.{eqb-true, ltb-true}
use Rattle.letters.specs.Letters.{Letter, looked, letters, partner, set_of}

pub both : (a b : Bool) → T (cond a b false) → T a × T b
both true b t = (tt, t)
both false b t = absurd t

-- a test of a byte, its partner and its set, at each of some letters
abbrev pub every : (ℕ → ℕ → ℕ → Bool) → List Letter → Bool
every f [] = true
every f (l ∷ ls) = cond (f l.byte l.gives l.set) (every f ls) false

at-letter : (f : ℕ → ℕ → ℕ → Bool) (ls : List Letter) → T (every f ls) → (b : ℕ) → T (f b 0 0) → T (f b (looked (λ (l : Letter). l.gives) ls b) (looked (λ (l : Letter). l.set) ls b))
at-letter f [] t b none = none
at-letter f (l ∷ ls) t b none = go (eqb b l.byte) refl (at-letter f ls tests.1 b none)
  where
    tests : T (f l.byte l.gives l.set) × T (every f ls)
    tests = both (f l.byte l.gives l.set) (every f ls) t

    go : (v : Bool) → eqb b l.byte ≡ v → T (f b (looked (λ (l : Letter). l.gives) ls b) (looked (λ (l : Letter). l.set) ls b))
        → T (f b (cond v l.gives (looked (λ (l : Letter). l.gives) ls b)) (cond v l.set (looked (λ (l : Letter). l.set) ls b)))
    go true e more = rw (eqb-true b l.byte e) tests.0
    go false e more = more

-- a test that holds at each letter, and for a byte that is none, holds of all bytes
pub of-all : (f : ℕ → ℕ → ℕ → Bool) → T (every f letters) → (b : ℕ) → T (f b 0 0) → T (f b (partner b) (set_of b))
unfolding partner set_of
of-all f t b none = at-letter f letters t b none

-- a test that holds at each letter holds of each byte that has a complement
pub of-each : (f : ℕ → ℕ → Bool) → T (every (λ b y t. cond (eqb y 0) true (f b y)) letters) → (b : ℕ) → (partner b ≡ 0 → ⊥) → T (f b (partner b))
of-each f t b h = go (eqb (partner b) 0) refl (of-all (λ b y t. cond (eqb y 0) true (f b y)) t b tt)
  where
    go : (v : Bool) → eqb (partner b) 0 ≡ v → T (cond v true (f b (partner b))) → T (f b (partner b))
    go true e p = absurd (h (eqb-true (partner b) 0 e))
    go false e p = p

-- a set is a number below 16
pub set-lt : (b : ℕ) → set_of b < 16
set-lt b = go (ltb (set_of b) 16) refl (of-all (λ b y t. ltb t 16) tt b tt)
  where
    go : (v : Bool) → ltb (set_of b) 16 ≡ v → T v → set_of b < 16
    go true e p = ltb-true (set_of b) 16 e
    go false e p = absurd p
