-- Regions that are lent as bytes: five numbers to a region.
use Rattle.std.specs.Prelude.{ℕ, zero, suc, ◌+◌, ◌-◌, ◌*◌, ◌/◌, ◌≤◌, ◌<◌, ◌≡◌, cond, length, get_or, take, drop, eqb, Option, Some, None}
use Rattle.std.proofs.Math.Path.{refl, ap, sym}
use Rattle.std.proofs.Common.{◌∙◌, drop-cons, add-zero}
use mathlib.Core.List.{List, [], ◌∷◌}
use native.Mathlib.Omega.{arith}
use Rattle.std.proofs.Math.Numerals.{add-one}
use Rattle.record.specs.declared.Position.{Position}
use Rattle.table.specs.Numbers.{from_bytes, numbers_in}
use Rattle.table.specs.NumberLaws.{length-numbers, number-inside, number-here}
use Rattle.sheet.specs.declared.Region.{Region}

-- a bound is absent if its flag is 0, and given otherwise, whatever its number
unfoldable pub bound_by : ℕ → ℕ → Option Position
bound_by flag p = cond (eqb flag 0) None (Some (record { 0 = p }))

-- how many numbers a region has
abbrev pub region_words : ℕ
region_words = 5

-- the region of the numbers at an index and behind it
abbrev pub region_of : List ℕ → ℕ → Region
region_of t i = record {
  row = get_or t i 0;
  start = bound_by (get_or t (i + 1) 0) (get_or t (i + 2) 0);
  end = bound_by (get_or t (i + 3) 0) (get_or t (i + 4) 0);
}

-- n regions from region i on
unfoldable pub regions_from : List ℕ → ℕ → ℕ → List Region
regions_from t i zero = []
regions_from t i (suc n) = region_of t (i * region_words) ∷ regions_from t (suc i) n

-- the regions of some bytes; a last part of a region is none
unfoldable pub regions_in : List ℕ → List Region
regions_in bs = regions_from (numbers_in bs) 0 (length (numbers_in bs) / region_words)

-- ---- laws

-- eight bytes, one by one
module _ (t : List ℕ) where
  from_step : (n m k : ℕ) → k ≡ n + 1 → n + suc m ≤ length t → from_bytes (take (suc m) (drop n t)) ≡ get_or t n 0 + 256 * from_bytes (take m (drop k t))
  unfolding from_bytes
  from_step n m k e h = rw (e, add-one n) (ap (λ (l : List ℕ). from_bytes (take (suc m) l)) (drop-cons t n 0 (omega arith)))

  from-none : (n : ℕ) → from_bytes (take 0 (drop n t)) ≡ 0
  unfolding from_bytes
  from-none n = refl

  abbrev at : ℕ → ℕ
  at n = get_or t n 0

  pub eight-bytes : (n low high : ℕ) → n + 8 ≤ length t → low ≡ at n + 256 * (at (n + 1) + 256 * (at (n + 2) + 256 * at (n + 3))) → high ≡ at (n + 4) + 256 * (at (n + 5) + 256 * (at (n + 6) + 256 * at (n + 7)))
      → low + high * 4294967296 ≡ from_bytes (take 8 (drop n t))
  eight-bytes n low high h p q =
      omega (
        arith,
        from_step n 7 (n + 1) (omega arith) (omega arith),
        from_step (n + 1) 6 (n + 2) (omega arith) (omega arith),
        from_step (n + 2) 5 (n + 3) (omega arith) (omega arith),
        from_step (n + 3) 4 (n + 4) (omega arith) (omega arith),
        from_step (n + 4) 3 (n + 5) (omega arith) (omega arith),
        from_step (n + 5) 2 (n + 6) (omega arith) (omega arith),
        from_step (n + 6) 1 (n + 7) (omega arith) (omega arith),
        from_step (n + 7) 0 (n + 8) (omega arith) (omega arith),
        from-none (n + 8),
      )

  -- number k of them
  module _ (k : ℕ) (h : k < length (numbers_in t)) where
    pub number-ends : k * 8 + 8 ≤ length t
    number-ends = number-inside t k (length (numbers_in t)) refl h

    pub number_is : (low high : ℕ) → low ≡ at (k * 8) + 256 * (at (k * 8 + 1) + 256 * (at (k * 8 + 2) + 256 * at (k * 8 + 3))) → high ≡ at (k * 8 + 4) + 256 * (at (k * 8 + 5) + 256 * (at (k * 8 + 6) + 256 * at (k * 8 + 7)))
        → low + high * 4294967296 ≡ get_or (numbers_in t) k 0
    number_is low high p q =
        let e : k * 8 + 8 - k * 8 ≡ 8 = omega arith in
        eight-bytes (k * 8) low high number-ends p q ∙ rw e at (number-here t k (length (numbers_in t)) refl h)

length_from : (t : List ℕ) (i n : ℕ) → length (regions_from t i n) ≡ n
unfolding regions_from
length_from t i zero = refl
length_from t i (suc n) = ap suc (length_from t (suc i) n)

get_or-from : (t : List ℕ) (i n k : ℕ) (d : Region) → k < n → get_or (regions_from t i n) k d ≡ region_of t ((i + k) * region_words)
unfolding regions_from
get_or-from t i zero k d h = absurd (omega arith)
get_or-from t i (suc n) zero d h = rw (add-zero i)
get_or-from t i (suc n) (suc k) d h = get_or-from t (suc i) n k d (omega arith) ∙ ap (λ (m : ℕ). region_of t (m * region_words)) q
  where
    q : suc i + k ≡ i + suc k
    q = omega arith

module _ (bs : List ℕ) where
  pub length-regions : length (regions_in bs) ≡ length bs / 8 / region_words
  unfolding regions_in
  length-regions = length_from (numbers_in bs) 0 (length (numbers_in bs) / region_words) ∙ ap (λ (n : ℕ). n / region_words) (length-numbers bs)

  -- region i of them
  module _ (i : ℕ) (h : i < length (regions_in bs)) where
    pub region-inside : i * region_words + region_words ≤ length (numbers_in bs)
    region-inside = omega (arith, length-regions, length-numbers bs)

    pub region-here : (d : Region) → region_of (numbers_in bs) (i * region_words) ≡ get_or (regions_in bs) i d
    unfolding regions_in
    region-here d = sym (get_or-from (numbers_in bs) 0 (length (numbers_in bs) / region_words) i d (rw (length_from (numbers_in bs) 0 (length (numbers_in bs) / region_words)) at h) ∙ ap (λ (m : ℕ). region_of (numbers_in bs) (m * region_words)) q)
      where
        q : 0 + i ≡ i
        q = omega arith
