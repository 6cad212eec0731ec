-- Lines that are strides: each has a stride's bases and a stride's width, and begins where a stride does. A walk passes them at once.
use Rattle.std.specs.Prelude.{ℕ, suc, ◌+◌, ◌*◌, ◌^◌, ◌≤◌, ◌<◌, ◌≡◌, List, ◌∷◌, Bool, length, None}
use Rattle.std.proofs.Math.Path.{refl}
use Rattle.std.proofs.Common.{ap, sym, arith, add-one, add-zero, zero-mul, add-mul, one-mul}
use Rattle.std.proofs.Math.Bool.{true, false, cond}
use Rattle.std.proofs.Math.Dec.{eqb, ltb}
use borrow.Author.Tests.{eq-eqb, eqb-true, ne_eqb, ltb-true, ltb-false, lt-ltb, le-ltb}
use Rattle.lines.specs.Lines.{bases_of, seq_at}
use Rattle.lines.specs.Laws.{seq_at-end}
use Rattle.lines.specs.Alike.{alike, alike-none, alike-passes, alike-within, LineLike}
use Rattle.lines.specs.declared.Line.{Line}
use Rattle.walking.specs.Walk.{WalkedLine, Onward, onward-start, onward-over, judged-there, moved-next, walked-there}
use Rattle.walking.specs.declared.Walk.{Walk}

-- a stride of b bases and width w, as a line
abbrev pub stride_line : ℕ → ℕ → Line
stride_line b w = record { width = w; bases = b }

-- how many lines from an offset on are strides, the first of which begins at p; none where strides have no byte between them
unfoldable pub strides_here : List ℕ → ℕ → ℕ → ℕ → ℕ → ℕ
strides_here s at p b w = cond (eqb p at) (cond (ltb b w) (alike (stride_line b w) (seq_at s at)) 0) 0

-- the walk behind n strides, the next of which begins at an offset
abbrev pub behind_strides : ℕ → ℕ → ℕ → Walk
behind_strides b n start = record { bases = n * b; placed = None; stride = record { start = record { 0 = start }; passed = 0 } }

-- ---- what the code finds

module _ (s : List ℕ) (at p b w : ℕ) where
  pub strides-elsewhere : (p ≡ at → ⊥) → 0 ≡ strides_here s at p b w
  unfolding strides_here
  strides-elsewhere n = rw (ne_eqb p at n)

  pub strides-joined : w ≤ b → 0 ≡ strides_here s at p b w
  unfolding strides_here
  strides-joined h = go (eqb p at)
    where
      go : (t : Bool) → 0 ≡ cond t (cond (ltb b w) (alike (stride_line b w) (seq_at s at)) 0) 0
      go true = rw (le-ltb b w h)
      go false = refl

  pub strides-like : p ≡ at → b < w → alike (stride_line b w) (seq_at s at) ≡ strides_here s at p b w
  unfolding strides_here
  strides-like e h = rw (eq-eqb p at e, lt-ltb b w h)

  -- what holds of no stride, and of the lines like a stride where the first begins, holds of the strides
  strides-are : (P : ℕ → Type 0) → P 0 → (at ≤ length s → p ≡ at → b < w → P (alike (stride_line b w) (seq_at s at))) → P (strides_here s at p b w)
  unfolding strides_here
  strides-are P none some = go (eqb p at) refl (ltb b w) refl (ltb (length s) at) refl
    where
      go : (t : Bool) → eqb p at ≡ t → (u : Bool) → ltb b w ≡ u → (v : Bool) → ltb (length s) at ≡ v → P (cond t (cond u (alike (stride_line b w) (seq_at s at)) 0) 0)
      go true e true k true h = rw (seq_at-end s at (omega (arith, ltb-true (length s) at h)), ← alike-none (stride_line b w)) none
      go true e true k false h = some (ltb-false _ _ h) (eqb-true _ _ e) (ltb-true _ _ k)
      go true e false k v h = none
      go false e u k v h = none

-- ---- the walk behind them

module _ (s : List ℕ) (at b w : ℕ) (z : 0 < b) (narrow : b < w) (fits : length s < 2 ^ 64) where
  -- a line that is like a stride and begins where the next does
  stride-walked : (k i : ℕ) → i + w ≤ length s → k * b ≤ i → WalkedLine b w (behind_strides b k i) (record { 0 = i }) b (behind_strides b (suc k) (i + w))
  stride-walked k i h f =
      let q : suc k * b ≡ k * b + b = rw (← add-one k, add-mul k 1 b, one-mul b) in
      let v = behind_strides b k i in
      rw q (walked-there b w v (record { 0 = i }) b None (record { start = record { 0 = i + w }; passed = 0 }) refl f (omega arith) (λ e. absurd (omega arith))
      (judged-there v.stride b (k * b) (record { 0 = i }) b (omega arith) (λ e. omega arith) z true (sym (eq-eqb i (i + 0) (omega arith))) refl (omega arith))
      (moved-next v.stride b w b z (i + w) (omega arith) (omega arith)))

  pub stride-over : (k i : ℕ) (l : List ℕ) → seq_at s i ≡ l ∷ seq_at s (i + w) → length l ≡ w → length (bases_of l) ≡ b → i + w ≤ length s → Onward s at at b w i (behind_strides b k i)
      → Onward s at at b w (i + w) (behind_strides b (suc k) (i + w))
  stride-over k i l here width bases within o =
      onward-over s at at b w i (behind_strides b k i) o l (i + w) b (behind_strides b (suc k) (i + w)) here (ap (λ (n : ℕ). i + n) width) (sym bases)
      (stride-walked k i within o.fewer)

  stride-passed : (k i : ℕ) (l : List ℕ) → LineLike s (stride_line b w) i l → Onward s at at b w i (behind_strides b k i) → Onward s at at b w (i + w) (behind_strides b (suc k) (i + w))
  stride-passed k i l y o = stride-over k i l y.here y.width y.bases y.within o

module _ (s : List ℕ) (at p b w : ℕ) (fits : length s < 2 ^ 64) (here : p < 2 ^ 64) where
  pub strides-fit : at < 2 ^ 64 → (at + strides_here s at p b w * w < 2 ^ 64) × (p + strides_here s at p b w * w < 2 ^ 64)
  strides-fit f =
      strides-are s at p b w (λ n. (at + n * w < 2 ^ 64) × (p + n * w < 2 ^ 64)) (rw zero-mul (omega arith, omega arith))
      (λ h e k. let q = alike-within s (stride_line b w) at h in (omega (arith, q), omega (arith, q, e)))

  pub onward-strides : 0 < b → Onward s at p b w (at + strides_here s at p b w * w) (behind_strides b (strides_here s at p b w) (p + strides_here s at p b w * w))
  onward-strides z =
      strides-are s at p b w (λ n. Onward s at p b w (at + n * w) (behind_strides b n (p + n * w))) none
      (λ h e k. rw e (alike-passes s (stride_line b w) (λ n i. Onward s at at b w i (behind_strides b n i)) (stride-passed s at b w z k fits) at h (rw (zero-mul b) (onward-start s at at b w z (omega (arith, e))))))
    where
      none : Onward s at p b w (at + 0 * w) (behind_strides b 0 (p + 0 * w))
      none = rw (zero-mul w, zero-mul b, add-zero at, add-zero p) (onward-start s at p b w z here)
