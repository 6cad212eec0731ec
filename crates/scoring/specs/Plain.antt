-- Where edition 2 is told by the letters alone.
use Rattle.std.specs.Prelude.{ℕ, ◌<◌, ◌≡◌, refl, Bool, true, false, not, ◌&&◌, ◌||◌, List, [], ◌∷◌, T, eqb, ltb}
use Rattle.std.proofs.Common.{sym, true≢false, ltb-true}
use Rattle.std.specs.Int.Bits.{bit_or}
use mir.Val.{bool_byte}
use Rattle.letters.specs.Letters.{set_of}
use Rattle.letters.specs.Sets.{bit, inside}
use Rattle.scoring.specs.Rules.{folded, same, coded, lies}
use Rattle.scoring.specs.RuleLaws.{holds, holds_at}
use Rattle.scoring.specs.Counting.{Counted, agrees, counted-sound}
use Rattle.scoring.specs.Theorems.{among, all-at, beq, beq_same}

abbrev pub lone : List ℕ
lone = 65 ∷ 67 ∷ 69 ∷ 71 ∷ 84 ∷ 97 ∷ 99 ∷ 101 ∷ 103 ∷ 116 ∷ []

-- a letter that stands for one base, in either case, but U; or E, which stands for none
unfoldable pub is_lone : ℕ → Bool
is_lone b = among b (65 ∷ 67 ∷ 69 ∷ 71 ∷ 84 ∷ 97 ∷ 99 ∷ 101 ∷ 103 ∷ 116 ∷ [])

-- U, in either case
unfoldable pub is_uracil : ℕ → Bool
is_uracil b = among b (85 ∷ 117 ∷ [])

-- such a letter is the key's, and no U was typed
unfoldable pub told : ℕ → ℕ → Bool
told k t = (is_lone k && not (is_uracil t)) && ltb t 256

-- two bytes are the same but for the bit of lower case
unfoldable pub alike : ℕ → ℕ → Bool
alike k t = eqb (bit_or k 32) (bit_or t 32)

-- ---- by bits

lone-bits : ℕ → Bool
lone-bits b = beq (eqb (bit_or (bit_or b 32) 6) 103 || eqb (bit_or b 32) 116) (is_lone b)

pub lone-test : (b : ℕ) → b < 256 → (eqb (bit_or (bit_or b 32) 6) 103 || eqb (bit_or b 32) 116) ≡ is_lone b
unfolding is_lone beq lone-bits
lone-test b h = beq_same _ (is_lone b) (holds_at lone-bits 256 tt b h)

uracil-bits : ℕ → Bool
uracil-bits b = beq (eqb (bit_or b 32) 117) (is_uracil b)

pub uracil-test : (b : ℕ) → b < 256 → eqb (bit_or b 32) 117 ≡ is_uracil b
unfolding is_uracil beq uracil-bits
uracil-test b h = beq_same _ (is_uracil b) (holds_at uracil-bits 256 tt b h)

pub byte-bit : (b : Bool) → bool_byte b ≡ bit b
byte-bit true = refl
byte-bit false = refl

-- ---- what edition 2 takes there

-- a letter of one base, and any byte but U: computed
as-alike : ℕ → ℕ → Bool
as-alike k t = is_uracil t || beq (lies k t) (alike k t)

pub told-alike : (k t : ℕ) → told k t ≡ true → alike k t ≡ lies k t
unfolding told is_lone is_uracil beq as-alike alike same lies coded folded set_of inside
told-alike k t h = go (is_lone k) refl (is_uracil t) refl (ltb t 256) refl h
  where
    go : (a : Bool) → is_lone k ≡ a → (b : Bool) → is_uracil t ≡ b → (c : Bool) → ltb t 256 ≡ c → ((a && not b) && c) ≡ true → alike k t ≡ lies k t
    go true p false q true r e =
        let w : T (as-alike k t) = holds_at (as-alike k) 256 (all-at (λ k. holds (as-alike k) 256) lone tt k (rw p tt)) t (ltb-true t 256 r) in
        sym (beq_same (lies k t) (alike k t) (rw q at w))
    go true p false q false r e = absurd (true≢false (sym e))
    go true p true q c r e = absurd (true≢false (sym e))
    go false p b q c r e = absurd (true≢false (sym e))

-- a part that is told all along: right by edition 2 is what is alike
pub counted-told : (key typed : List ℕ) (at n r : ℕ) → Counted (agrees told key typed) at n n → Counted (agrees alike key typed) at n r → Counted (agrees lies key typed) at n r
counted-told = counted-sound alike lies told told-alike
