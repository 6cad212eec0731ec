-- Where the key's letter stands for one base at most, it settles what is right in edition 2. Elsewhere a place is open: the two sets tell.
use Rattle.std.specs.Prelude.{ℕ, ◌+◌, ◌<◌, ◌≡◌, refl, Bool, true, false, not, ◌&&◌, ◌||◌, List, [], ◌∷◌, eqb, ltb, leb, get_or}
use Rattle.std.proofs.Common.{arith, sym, add-zero, zero-add, ltb-true, lt-ltb}
use Rattle.std.specs.Int.Bits.{bit_or, bit_xor}
use Rattle.letters.specs.Letters.{set_of}
use Rattle.letters.specs.Sets.{bit, inside}
use Rattle.scoring.specs.Rules.{folded, same, coded, lies}
use Rattle.scoring.specs.RuleLaws.{holds, holds_at}
use Rattle.scoring.specs.Theorems.{among, all-at, beq, beq_same}
use Rattle.scoring.specs.Plain.{lone, is_lone}
use Rattle.scoring.specs.Places.{count_below}
use Rattle.scoring.specs.Counting.{Counted, agrees, count-two, count-rise}

-- a letter in lower case that stands for one base at most, and is no U
unfoldable pub is_single : ℕ → Bool
is_single x = among x (97 ∷ 99 ∷ 101 ∷ 103 ∷ 116 ∷ [])

-- the key's letter settles the place
unfoldable pub settled : ℕ → ℕ → Bool
settled k t = is_lone k && ltb t 256

-- a letter in lower case was typed, or U for T
unfoldable pub near : ℕ → ℕ → Bool
near x t = leb (bit_xor x (bit_or t 32)) (bit (eqb x 116))

-- right, and settled
unfoldable pub hit : ℕ → ℕ → Bool
hit k t = settled k t && near (bit_or k 32) t

unfoldable pub is_open : ℕ → ℕ → Bool
is_open k t = not (settled k t)

-- right, and open
unfoldable pub open_lies : ℕ → ℕ → Bool
open_lies k t = is_open k t && lies k t

-- ---- by bits

single-bits : ℕ → Bool
single-bits x = beq (eqb (bit_or x 6) 103 || eqb x 116) (is_single x)

-- of bytes that have the bit of lower case
pub single-test : (k : ℕ) → k < 256 → (eqb (bit_or k 6) 103 || eqb k 116) ≡ is_single k
unfolding is_single beq single-bits
single-test k h = beq_same _ (is_single k) (holds_at single-bits 256 tt k h)

lone-bits : ℕ → Bool
lone-bits k = beq (is_single (bit_or k 32)) (is_lone k)

lone-low : (k : ℕ) → k < 256 → is_single (bit_or k 32) ≡ is_lone k
unfolding is_single is_lone beq lone-bits
lone-low k h = beq_same (is_single (bit_or k 32)) (is_lone k) (holds_at lone-bits 256 tt k h)

pub hit-byte : (k t : ℕ) → k < 256 → t < 256 → (is_single (bit_or k 32) && near (bit_or k 32) t) ≡ hit k t
unfolding hit settled
hit-byte k t h i = rw (lone-low k h, lt-ltb t 256 i) (go (is_lone k))
  where
    go : (a : Bool) → (a && near (bit_or k 32) t) ≡ ((a && true) && near (bit_or k 32) t)
    go true = refl
    go false = refl

pub open-byte : (k t : ℕ) → k < 256 → t < 256 → not (is_single (bit_or k 32)) ≡ is_open k t
unfolding is_open settled
open-byte k t h i = rw (lone-low k h, lt-ltb t 256 i) (go (is_lone k))
  where
    go : (a : Bool) → not a ≡ not (a && true)
    go true = refl
    go false = refl

-- ---- what edition 2 takes there

-- a letter of one base, and any byte: computed
as-near : ℕ → ℕ → Bool
as-near k t = beq (lies k t) (near (bit_or k 32) t)

near-lies : (k t : ℕ) → is_lone k ≡ true → t < 256 → near (bit_or k 32) t ≡ lies k t
unfolding is_lone near beq as-near same lies coded folded set_of inside
near-lies k t p h = sym (beq_same (lies k t) (near (bit_or k 32) t) (holds_at (as-near k) 256 (all-at (λ k. holds (as-near k) 256) lone tt k (rw p tt)) t h))

-- a right place is settled, or open
pub settled-or-open : (k t : ℕ) → bit (hit k t) + bit (open_lies k t) ≡ bit (lies k t)
unfolding hit open_lies is_open settled
settled-or-open k t = go (is_lone k) refl (ltb t 256) refl
  where
    go : (a : Bool) → is_lone k ≡ a → (b : Bool) → ltb t 256 ≡ b → bit ((a && b) && near (bit_or k 32) t) + bit (not (a && b) && lies k t) ≡ bit (lies k t)
    go true p true q = rw (near-lies k t p (ltb-true t 256 q)) (add-zero (bit (lies k t)))
    go true p false q = zero-add (bit (lies k t))
    go false p b q = zero-add (bit (lies k t))

-- some places: right by edition 2 is what is right and settled, and what is right and open
pub counted-open : (key typed : List ℕ) (at n r s : ℕ) → Counted (agrees hit key typed) at n r → Counted (agrees open_lies key typed) at n s → Counted (agrees lies key typed) at n (r + s)
unfolding agrees
counted-open key typed at n r s c d = record {
  counts = omega (arith, both at, both (at + n), c.counts, d.counts);
  most = omega (arith, both at, both (at + n), c.counts, d.counts, count-rise (agrees lies key typed) at n);
}
  where
    both : (m : ℕ) → count_below (agrees hit key typed) m + count_below (agrees open_lies key typed) m ≡ count_below (agrees lies key typed) m
    both m = count-two (agrees hit key typed) (agrees open_lies key typed) (agrees lies key typed) m (λ p. settled-or-open (get_or key p 0) (get_or typed p 0))
