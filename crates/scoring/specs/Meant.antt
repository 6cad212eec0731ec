-- Where edition 2 is told by the letter that the key means: its own, or the typed one where the key has N. T and U are one letter.
use Rattle.std.specs.Prelude.{ℕ, ◌<◌, ◌≡◌, refl, Bool, true, false, cond, not, ◌&&◌, ◌||◌, List, [], ◌∷◌, T, eqb, ltb, leb}
use Rattle.std.proofs.Common.{sym, true≢false, ltb-true, eqb-true}
use Rattle.std.specs.Int.Bits.{bit_or, bit_xor}
use Rattle.letters.specs.Letters.{set_of}
use Rattle.letters.specs.Sets.{bit, inside}
use Rattle.scoring.specs.Rules.{folded, same, coded, lies}
use Rattle.scoring.specs.RuleLaws.{holds, holds_at}
use Rattle.scoring.specs.Counting.{Counted, agrees, counted-sound}
use Rattle.scoring.specs.Theorems.{among, all-at, beq, beq_same}

-- the letter that the key's means, in lower case
unfoldable pub meant : ℕ → ℕ → ℕ
meant k t = cond (eqb (bit_or k 32) 110) (bit_or t 32) (bit_or k 32)

-- t or u
unfoldable pub is_thymine : ℕ → Bool
is_thymine x = eqb (bit_or x 1) 117

-- a, c, g, n, t or u
unfoldable pub is_clear : ℕ → Bool
is_clear x = among x (97 ∷ 99 ∷ 103 ∷ 110 ∷ 116 ∷ 117 ∷ [])

-- the letter that is meant is one of these
unfoldable pub clear : ℕ → ℕ → Bool
clear k t = is_clear (meant k t) && (ltb k 256 && ltb t 256)

-- it was typed; u for t and t for u too
unfoldable pub fits : ℕ → ℕ → Bool
fits k t = leb (bit_xor (meant k t) (bit_or t 32)) (bit (is_thymine (meant k t)))

-- ---- by bits

clear-bits : ℕ → Bool
clear-bits x = beq (((eqb (bit_or x 4) 103 || eqb x 97) || is_thymine x) || eqb x 110) (is_clear x)

pub clear-test : (x : ℕ) → x < 256 → (((eqb (bit_or x 4) 103 || eqb x 97) || is_thymine x) || eqb x 110) ≡ is_clear x
unfolding is_thymine is_clear beq clear-bits
clear-test x h = beq_same _ (is_clear x) (holds_at clear-bits 256 tt x h)

-- ---- what edition 2 takes there

-- the keys that can be clear
abbrev keys : List ℕ
keys = 65 ∷ 67 ∷ 71 ∷ 78 ∷ 84 ∷ 85 ∷ 97 ∷ 99 ∷ 103 ∷ 110 ∷ 116 ∷ 117 ∷ []

is_key : ℕ → Bool
is_key k = not (is_clear (bit_or k 32)) || among k keys

as_fits : ℕ → ℕ → Bool
as_fits k t = not (is_clear (meant k t)) || beq (lies k t) (fits k t)

-- where the key has N its own letter is clear too
own-clear : (k t : ℕ) → is_clear (meant k t) ≡ true → is_clear (bit_or k 32) ≡ true
unfolding meant is_clear
own-clear k t e = go (eqb (bit_or k 32) 110) refl e
  where
    go : (a : Bool) → eqb (bit_or k 32) 110 ≡ a → is_clear (cond a (bit_or t 32) (bit_or k 32)) ≡ true → is_clear (bit_or k 32) ≡ true
    go true p q = rw (eqb-true (bit_or k 32) 110 p)
    go false p q = q

either : (a b : Bool) → a ≡ true → T (not a || b) → T b
either true b e w = w
either false b e w = absurd (true≢false (sym e))

clear-key : (k t : ℕ) → k < 256 → is_clear (meant k t) ≡ true → T (among k keys)
unfolding is_clear is_key
clear-key k t h e = either (is_clear (bit_or k 32)) (among k keys) (own-clear k t e) (holds_at is_key 256 tt k h)

-- a key of these letters, and any byte: computed
pub clear-fits : (k t : ℕ) → clear k t ≡ true → fits k t ≡ lies k t
unfolding clear meant is_thymine is_clear fits as_fits beq same lies coded folded set_of inside
clear-fits k t h = go (is_clear (meant k t)) refl (ltb k 256) refl (ltb t 256) refl h
  where
    go : (a : Bool) → is_clear (meant k t) ≡ a → (b : Bool) → ltb k 256 ≡ b → (c : Bool) → ltb t 256 ≡ c → (a && (b && c)) ≡ true → fits k t ≡ lies k t
    go true p true q true r e =
        let w : T (as_fits k t) = holds_at (as_fits k) 256 (all-at (λ k. holds (as_fits k) 256) keys tt k (clear-key k t (ltb-true k 256 q) p)) t (ltb-true t 256 r) in
        sym (beq_same (lies k t) (fits k t) (either (is_clear (meant k t)) (beq (lies k t) (fits k t)) p w))
    go true p true q false r e = absurd (true≢false (sym e))
    go true p false q c r e = absurd (true≢false (sym e))
    go false p b q c r e = absurd (true≢false (sym e))

-- a part that is clear all along: right by edition 2 is what fits
pub counted-clear : (key typed : List ℕ) (at n r : ℕ) → Counted (agrees clear key typed) at n n → Counted (agrees fits key typed) at n r → Counted (agrees lies key typed) at n r
counted-clear = counted-sound fits lies clear clear-fits
