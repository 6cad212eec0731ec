-- The first equal name wins: looking up gives a row exactly if its name is the one looked for and every row before it is sound and has
-- another; said without a walk through the rows.
use Rattle.std.specs.Prelude.{ℕ, List, Bool, length, Ok, Err}
use Rattle.std.proofs.Math.Path.{◌≡◌, refl}
use Rattle.std.proofs.Math.Bool.{true, false, cond}
use Rattle.std.proofs.Common.{arith}
use Rattle.refusal.specs.Numbers.{over_limit}
use Rattle.refusal.specs.declared.Refusal.TheVariants.{TooLong}
use Rattle.table.specs.RowLaws.{held-known, named-known}
use Rattle.index.specs.Find.{row_named, row_read}
use Rattle.index.specs.First.{IsFirst, Wins}
use Rattle.index.specs.FirstLaws.{from-only-if, from-if}

module _ (names t : List ℕ) (n : ℕ) (name : List ℕ) where
  -- over the rows in use
  module _ (r : ℕ) where
    pub found-only-if : row_named names t n name ≡ Ok r → IsFirst names t n name r
    unfolding row_named
    found-only-if h = let f = from-only-if names t n name n 0 r h in record { here = f.here; before = λ k m. f.before k (omega arith) m }

    pub found-if : IsFirst names t n name r → row_named names t n name ≡ Ok r
    unfolding row_named
    found-if f =
        let x = f.here in
        let used = (held-known t n r x.row (named-known t n r (length names) x.row x.sound).0).in_use in
        from-if names t n name n 0 r (record { low = omega arith; high = omega arith; here = x; before = λ j a b. f.before j b })

  pub wins-only-if : (r : ℕ) → row_read names t n name ≡ Ok r → Wins names t n name r
  unfolding row_read
  wins-only-if r h = go (over_limit (length names)) refl (over_limit (length name)) refl h
    where
      go : (a : Bool) → over_limit (length names) ≡ a → (b : Bool) → over_limit (length name) ≡ b
          → cond a (Err TooLong) (cond b (Err TooLong) (row_named names t n name)) ≡ Ok r → Wins names t n name r
      go true p b q k = let z : ◌≡◌ {A = ℕ} 0 1 = cc in absurd (omega arith)
      go false p true q k = let z : ◌≡◌ {A = ℕ} 0 1 = cc in absurd (omega arith)
      go false p false q k = record { small-names = p; small-name = q; is-first = found-only-if r k }

  pub wins-if : (r : ℕ) → Wins names t n name r → row_read names t n name ≡ Ok r
  unfolding row_read
  wins-if r w = rw (w.small-names, w.small-name) (found-if r w.is-first)
