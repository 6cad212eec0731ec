-- Eight bytes turned to planes: halves, quarters and bits swapped in four pairs each.
use Rattle.std.specs.Prelude.{ℕ, zero, suc, ◌<◌, ◌≡◌}
use Rattle.std.proofs.Common.{◌∙◌, arith, lit<}
use Rattle.scoring.specs.Planes.{bit_at, Swapped}

-- one of eight numbers
unfoldable pub row : ℕ → ℕ → ℕ → ℕ → ℕ → ℕ → ℕ → ℕ → ℕ → ℕ
row a b c d e f g h zero = a
row a b c d e f g h (suc zero) = b
row a b c d e f g h (suc (suc zero)) = c
row a b c d e f g h (suc (suc (suc zero))) = d
row a b c d e f g h (suc (suc (suc (suc zero)))) = e
row a b c d e f g h (suc (suc (suc (suc (suc zero))))) = f
row a b c d e f g h (suc (suc (suc (suc (suc (suc zero)))))) = g
row a b c d e f g h (suc (suc (suc (suc (suc (suc (suc n))))))) = h

-- plane i has bit i of all eight: y of x
unfoldable pub Turned : (ℕ → ℕ) → (ℕ → ℕ) → Type 0
Turned x y = (i j : ℕ) → i < 8 → j < 8 → bit_at j (y i) ≡ bit_at i (x j)

-- what holds of each of eight holds of all
pub each : (P : ℕ → Type 0) → P 0 → P 1 → P 2 → P 3 → P 4 → P 5 → P 6 → P 7 → (j : ℕ) → j < 8 → P j
each P a b c d e f g h zero p = a
each P a b c d e f g h (suc zero) p = b
each P a b c d e f g h (suc (suc zero)) p = c
each P a b c d e f g h (suc (suc (suc zero))) p = d
each P a b c d e f g h (suc (suc (suc (suc zero)))) p = e
each P a b c d e f g h (suc (suc (suc (suc (suc zero))))) p = f
each P a b c d e f g h (suc (suc (suc (suc (suc (suc zero)))))) p = g
each P a b c d e f g h (suc (suc (suc (suc (suc (suc (suc zero))))))) p = h
each P a b c d e f g h (suc (suc (suc (suc (suc (suc (suc (suc n)))))))) p = absurd (omega arith)

-- each bit is followed through a swap of bits, of quarters and of halves
module _ (a b c d e f g h aal aah bbl bbh ccl cch ddl ddh eel eeh ffl ffh ggl ggh hhl hhh iil iih jjl jjh kkl kkh lll llh : ℕ)
    (sA : Swapped 4 a e aal aah) (sB : Swapped 4 b f bbl bbh) (sC : Swapped 4 c g ccl cch) (sD : Swapped 4 d h ddl ddh)
    (sE : Swapped 2 aal ccl eel eeh) (sF : Swapped 2 bbl ddl ffl ffh) (sG : Swapped 2 aah cch ggl ggh) (sH : Swapped 2 bbh ddh hhl hhh)
    (sI : Swapped 1 eel ffl iil iih) (sJ : Swapped 1 eeh ffh jjl jjh) (sK : Swapped 1 ggl hhl kkl kkh) (sL : Swapped 1 ggh hhh lll llh) where
  plane0 : (j : ℕ) → j < 8 → bit_at j iil ≡ bit_at 0 (row a b c d e f g h j)
  unfolding Swapped row
  plane0 =
      each (λ j. bit_at j iil ≡ bit_at 0 (row a b c d e f g h j))
      ((sI 0 (lit< tt)).0 ∙ ((sE 0 (lit< tt)).0 ∙ (sA 0 (lit< tt)).0))
      ((sI 1 (lit< tt)).0 ∙ ((sF 0 (lit< tt)).0 ∙ (sB 0 (lit< tt)).0))
      ((sI 2 (lit< tt)).0 ∙ ((sE 2 (lit< tt)).0 ∙ (sC 0 (lit< tt)).0))
      ((sI 3 (lit< tt)).0 ∙ ((sF 2 (lit< tt)).0 ∙ (sD 0 (lit< tt)).0))
      ((sI 4 (lit< tt)).0 ∙ ((sE 4 (lit< tt)).0 ∙ (sA 4 (lit< tt)).0))
      ((sI 5 (lit< tt)).0 ∙ ((sF 4 (lit< tt)).0 ∙ (sB 4 (lit< tt)).0))
      ((sI 6 (lit< tt)).0 ∙ ((sE 6 (lit< tt)).0 ∙ (sC 4 (lit< tt)).0))
      ((sI 7 (lit< tt)).0 ∙ ((sF 6 (lit< tt)).0 ∙ (sD 4 (lit< tt)).0))

  plane1 : (j : ℕ) → j < 8 → bit_at j iih ≡ bit_at 1 (row a b c d e f g h j)
  unfolding Swapped row
  plane1 =
      each (λ j. bit_at j iih ≡ bit_at 1 (row a b c d e f g h j))
      ((sI 0 (lit< tt)).1 ∙ ((sE 1 (lit< tt)).0 ∙ (sA 1 (lit< tt)).0))
      ((sI 1 (lit< tt)).1 ∙ ((sF 1 (lit< tt)).0 ∙ (sB 1 (lit< tt)).0))
      ((sI 2 (lit< tt)).1 ∙ ((sE 3 (lit< tt)).0 ∙ (sC 1 (lit< tt)).0))
      ((sI 3 (lit< tt)).1 ∙ ((sF 3 (lit< tt)).0 ∙ (sD 1 (lit< tt)).0))
      ((sI 4 (lit< tt)).1 ∙ ((sE 5 (lit< tt)).0 ∙ (sA 5 (lit< tt)).0))
      ((sI 5 (lit< tt)).1 ∙ ((sF 5 (lit< tt)).0 ∙ (sB 5 (lit< tt)).0))
      ((sI 6 (lit< tt)).1 ∙ ((sE 7 (lit< tt)).0 ∙ (sC 5 (lit< tt)).0))
      ((sI 7 (lit< tt)).1 ∙ ((sF 7 (lit< tt)).0 ∙ (sD 5 (lit< tt)).0))

  plane2 : (j : ℕ) → j < 8 → bit_at j jjl ≡ bit_at 2 (row a b c d e f g h j)
  unfolding Swapped row
  plane2 =
      each (λ j. bit_at j jjl ≡ bit_at 2 (row a b c d e f g h j))
      ((sJ 0 (lit< tt)).0 ∙ ((sE 0 (lit< tt)).1 ∙ (sA 2 (lit< tt)).0))
      ((sJ 1 (lit< tt)).0 ∙ ((sF 0 (lit< tt)).1 ∙ (sB 2 (lit< tt)).0))
      ((sJ 2 (lit< tt)).0 ∙ ((sE 2 (lit< tt)).1 ∙ (sC 2 (lit< tt)).0))
      ((sJ 3 (lit< tt)).0 ∙ ((sF 2 (lit< tt)).1 ∙ (sD 2 (lit< tt)).0))
      ((sJ 4 (lit< tt)).0 ∙ ((sE 4 (lit< tt)).1 ∙ (sA 6 (lit< tt)).0))
      ((sJ 5 (lit< tt)).0 ∙ ((sF 4 (lit< tt)).1 ∙ (sB 6 (lit< tt)).0))
      ((sJ 6 (lit< tt)).0 ∙ ((sE 6 (lit< tt)).1 ∙ (sC 6 (lit< tt)).0))
      ((sJ 7 (lit< tt)).0 ∙ ((sF 6 (lit< tt)).1 ∙ (sD 6 (lit< tt)).0))

  plane3 : (j : ℕ) → j < 8 → bit_at j jjh ≡ bit_at 3 (row a b c d e f g h j)
  unfolding Swapped row
  plane3 =
      each (λ j. bit_at j jjh ≡ bit_at 3 (row a b c d e f g h j))
      ((sJ 0 (lit< tt)).1 ∙ ((sE 1 (lit< tt)).1 ∙ (sA 3 (lit< tt)).0))
      ((sJ 1 (lit< tt)).1 ∙ ((sF 1 (lit< tt)).1 ∙ (sB 3 (lit< tt)).0))
      ((sJ 2 (lit< tt)).1 ∙ ((sE 3 (lit< tt)).1 ∙ (sC 3 (lit< tt)).0))
      ((sJ 3 (lit< tt)).1 ∙ ((sF 3 (lit< tt)).1 ∙ (sD 3 (lit< tt)).0))
      ((sJ 4 (lit< tt)).1 ∙ ((sE 5 (lit< tt)).1 ∙ (sA 7 (lit< tt)).0))
      ((sJ 5 (lit< tt)).1 ∙ ((sF 5 (lit< tt)).1 ∙ (sB 7 (lit< tt)).0))
      ((sJ 6 (lit< tt)).1 ∙ ((sE 7 (lit< tt)).1 ∙ (sC 7 (lit< tt)).0))
      ((sJ 7 (lit< tt)).1 ∙ ((sF 7 (lit< tt)).1 ∙ (sD 7 (lit< tt)).0))

  plane4 : (j : ℕ) → j < 8 → bit_at j kkl ≡ bit_at 4 (row a b c d e f g h j)
  unfolding Swapped row
  plane4 =
      each (λ j. bit_at j kkl ≡ bit_at 4 (row a b c d e f g h j))
      ((sK 0 (lit< tt)).0 ∙ ((sG 0 (lit< tt)).0 ∙ (sA 0 (lit< tt)).1))
      ((sK 1 (lit< tt)).0 ∙ ((sH 0 (lit< tt)).0 ∙ (sB 0 (lit< tt)).1))
      ((sK 2 (lit< tt)).0 ∙ ((sG 2 (lit< tt)).0 ∙ (sC 0 (lit< tt)).1))
      ((sK 3 (lit< tt)).0 ∙ ((sH 2 (lit< tt)).0 ∙ (sD 0 (lit< tt)).1))
      ((sK 4 (lit< tt)).0 ∙ ((sG 4 (lit< tt)).0 ∙ (sA 4 (lit< tt)).1))
      ((sK 5 (lit< tt)).0 ∙ ((sH 4 (lit< tt)).0 ∙ (sB 4 (lit< tt)).1))
      ((sK 6 (lit< tt)).0 ∙ ((sG 6 (lit< tt)).0 ∙ (sC 4 (lit< tt)).1))
      ((sK 7 (lit< tt)).0 ∙ ((sH 6 (lit< tt)).0 ∙ (sD 4 (lit< tt)).1))

  plane5 : (j : ℕ) → j < 8 → bit_at j kkh ≡ bit_at 5 (row a b c d e f g h j)
  unfolding Swapped row
  plane5 =
      each (λ j. bit_at j kkh ≡ bit_at 5 (row a b c d e f g h j))
      ((sK 0 (lit< tt)).1 ∙ ((sG 1 (lit< tt)).0 ∙ (sA 1 (lit< tt)).1))
      ((sK 1 (lit< tt)).1 ∙ ((sH 1 (lit< tt)).0 ∙ (sB 1 (lit< tt)).1))
      ((sK 2 (lit< tt)).1 ∙ ((sG 3 (lit< tt)).0 ∙ (sC 1 (lit< tt)).1))
      ((sK 3 (lit< tt)).1 ∙ ((sH 3 (lit< tt)).0 ∙ (sD 1 (lit< tt)).1))
      ((sK 4 (lit< tt)).1 ∙ ((sG 5 (lit< tt)).0 ∙ (sA 5 (lit< tt)).1))
      ((sK 5 (lit< tt)).1 ∙ ((sH 5 (lit< tt)).0 ∙ (sB 5 (lit< tt)).1))
      ((sK 6 (lit< tt)).1 ∙ ((sG 7 (lit< tt)).0 ∙ (sC 5 (lit< tt)).1))
      ((sK 7 (lit< tt)).1 ∙ ((sH 7 (lit< tt)).0 ∙ (sD 5 (lit< tt)).1))

  plane6 : (j : ℕ) → j < 8 → bit_at j lll ≡ bit_at 6 (row a b c d e f g h j)
  unfolding Swapped row
  plane6 =
      each (λ j. bit_at j lll ≡ bit_at 6 (row a b c d e f g h j))
      ((sL 0 (lit< tt)).0 ∙ ((sG 0 (lit< tt)).1 ∙ (sA 2 (lit< tt)).1))
      ((sL 1 (lit< tt)).0 ∙ ((sH 0 (lit< tt)).1 ∙ (sB 2 (lit< tt)).1))
      ((sL 2 (lit< tt)).0 ∙ ((sG 2 (lit< tt)).1 ∙ (sC 2 (lit< tt)).1))
      ((sL 3 (lit< tt)).0 ∙ ((sH 2 (lit< tt)).1 ∙ (sD 2 (lit< tt)).1))
      ((sL 4 (lit< tt)).0 ∙ ((sG 4 (lit< tt)).1 ∙ (sA 6 (lit< tt)).1))
      ((sL 5 (lit< tt)).0 ∙ ((sH 4 (lit< tt)).1 ∙ (sB 6 (lit< tt)).1))
      ((sL 6 (lit< tt)).0 ∙ ((sG 6 (lit< tt)).1 ∙ (sC 6 (lit< tt)).1))
      ((sL 7 (lit< tt)).0 ∙ ((sH 6 (lit< tt)).1 ∙ (sD 6 (lit< tt)).1))

  plane7 : (j : ℕ) → j < 8 → bit_at j llh ≡ bit_at 7 (row a b c d e f g h j)
  unfolding Swapped row
  plane7 =
      each (λ j. bit_at j llh ≡ bit_at 7 (row a b c d e f g h j))
      ((sL 0 (lit< tt)).1 ∙ ((sG 1 (lit< tt)).1 ∙ (sA 3 (lit< tt)).1))
      ((sL 1 (lit< tt)).1 ∙ ((sH 1 (lit< tt)).1 ∙ (sB 3 (lit< tt)).1))
      ((sL 2 (lit< tt)).1 ∙ ((sG 3 (lit< tt)).1 ∙ (sC 3 (lit< tt)).1))
      ((sL 3 (lit< tt)).1 ∙ ((sH 3 (lit< tt)).1 ∙ (sD 3 (lit< tt)).1))
      ((sL 4 (lit< tt)).1 ∙ ((sG 5 (lit< tt)).1 ∙ (sA 7 (lit< tt)).1))
      ((sL 5 (lit< tt)).1 ∙ ((sH 5 (lit< tt)).1 ∙ (sB 7 (lit< tt)).1))
      ((sL 6 (lit< tt)).1 ∙ ((sG 7 (lit< tt)).1 ∙ (sC 7 (lit< tt)).1))
      ((sL 7 (lit< tt)).1 ∙ ((sH 7 (lit< tt)).1 ∙ (sD 7 (lit< tt)).1))

  pub turn-planes : Turned (row a b c d e f g h) (row iil iih jjl jjh kkl kkh lll llh)
  unfolding Turned row
  turn-planes i j p q = each (λ i. bit_at j (row iil iih jjl jjh kkl kkh lll llh i) ≡ bit_at i (row a b c d e f g h j)) (plane0 j q) (plane1 j q) (plane2 j q) (plane3 j q) (plane4 j q) (plane5 j q) (plane6 j q) (plane7 j q) i p
