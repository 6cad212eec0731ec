-- `writer::all_high` meets its contract: before each turn, where the mark is 0, none of the bytes so far is barred.
use Rattle.std.proofs.Common.{ℕ, ◌≡◌, refl, ◌∙◌, Bool, true, false, ◌||◌, eqb-true, arith, bit_or, bit_and, bit_xor, eqb, take, get_or}
use lib.Bits.{or_add_and, and_le_l, and_le_r}
use Rattle.writer.specs.Text.{any_of, barred}
use Rattle.writer.specs.Laws.{any_next}
use Rattle.writer.proofs.all_high.Goals as goal

-- two marks are 0 together
both : (a b : ℕ) → bit_or a b ≡ 0 → (a ≡ 0) × (b ≡ 0)
both a b e = (omega (arith, or_add_and a b, and_le_r a b, e), omega (arith, or_add_and a b, and_le_l a b, e))

-- a byte with the bit 64 is not barred
high : (b : ℕ) → bit_xor (bit_and b 64) 64 ≡ 0 → barred b ≡ false
unfolding barred
high b e = go (eqb b 10) refl (eqb b 13) refl (eqb b 62) refl
  where
    go : (x : Bool) → eqb b 10 ≡ x → (y : Bool) → eqb b 13 ≡ y → (z : Bool) → eqb b 62 ≡ z → (x || y || z) ≡ false
    go true p y q z r = let w : ◌≡◌ {A = ℕ} 64 0 = rw (eqb-true b 10 p) at e in absurd (omega (arith, w))
    go false p true q z r = let w : ◌≡◌ {A = ℕ} 64 0 = rw (eqb-true b 13 q) at e in absurd (omega (arith, w))
    go false p false q true r = let w : ◌≡◌ {A = ℕ} 64 0 = rw (eqb-true b 62 r) at e in absurd (omega (arith, w))
    go false p false q false r = refl

none : (x y : Bool) → x ≡ false → y ≡ false → (x || y) ≡ false
none x y p q = rw (p, q)

pub loop-b-init : goal.loop-b-init
unfolding any_of
loop-b-init c = λ _. refl

pub loop-b-preserved : goal.loop-b-preserved
loop-b-preserved c =
    let s = c.args.s.now in
    let i = c.loop-b.b-index in
    λ e.
    let b = both c.loop-b.low (bit_xor (bit_and (get_or s i 0) 64) 64) e in
    any_next barred s i c.loop-b-test.true ∙ none (any_of barred (take i s)) (barred (get_or s i 0)) (c.loop-b.invariant b.0) (high (get_or s i 0) b.1)
