-- Laws of the two editions' rules.
use Rattle.std.specs.Prelude.{ℕ, zero, suc, ◌-◌, ◌≤◌, ◌<◌, ◌≡◌, refl, Bool, true, false, cond, not, ◌&&◌, T, eqb, ltb}
use Rattle.std.proofs.Common.{sym, ap, ◌∙◌, arith, eqb→eq, eq-eqb, ne_eqb, eqb-true, ltb-true, ltb-false, lt-ltb, le-ltb}
use Rattle.std.specs.Int.Bits.{bit_and, and_self, and_zero_r}
use Rattle.std.proofs.lemmas.Bool.{eqb-false}
use Rattle.letters.specs.Letters.{set_of}
use Rattle.letters.specs.Sets.{inside}
use Rattle.scoring.specs.Rules.{folded, same, coded, lies}

-- ---- folding

pub folded_low : (b : ℕ) → b < 97 → b ≡ folded b
unfolding folded
folded_low b h = rw (lt-ltb b 97 h)

pub folded-high : (b : ℕ) → 97 ≤ b → 122 < b → b ≡ folded b
unfolding folded
folded-high b h k = rw (le-ltb b 97 h, lt-ltb 122 b k)

pub folded-letter : (b : ℕ) → 97 ≤ b → b ≤ 122 → b - 32 ≡ folded b
unfolding folded
folded-letter b h k = rw (le-ltb b 97 h, le-ltb 122 b k)

-- ---- upper and lower case stand for the same set

abbrev pub holds : (ℕ → Bool) → ℕ → Bool
holds f zero = true
holds f (suc n) = cond (f n) (holds f n) false

pub holds_at : (f : ℕ → Bool) (n : ℕ) → T (holds f n) → (p : ℕ) → p < n → T (f p)
holds_at f zero t p h = absurd (omega arith)
holds_at f (suc n) t p h = go (f n) refl t (eqb p n) refl (λ s k. holds_at f n s p k)
  where
    go : (x : Bool) → f n ≡ x → T (cond x (holds f n) false) → (y : Bool) → eqb p n ≡ y → (T (holds f n) → p < n → T (f p)) → T (f p)
    go true e s true q more = rw (eqb-true p n q, e) tt
    go true e s false q more = let z : p ≡ n → ⊥ = eqb-false p n q in more s (omega arith)
    go false e s y q more = absurd s

alike : ℕ → Bool
alike b = eqb (set_of (folded b)) (set_of b)

small-set : (b : ℕ) → b < 123 → set_of (folded b) ≡ set_of b
unfolding set_of folded alike
small-set b h = eqb→eq _ _ (holds_at alike 123 tt b h)

pub folded-set : (b : ℕ) → set_of (folded b) ≡ set_of b
folded-set b = go (ltb 122 b) refl
  where
    go : (t : Bool) → ltb 122 b ≡ t → set_of (folded b) ≡ set_of b
    go true e = ap set_of (sym (folded-high b (omega (arith, ltb-true 122 b e)) (ltb-true 122 b e)))
    go false e = small-set b (omega (arith, ltb-false 122 b e))

same_set : (k t : ℕ) → same k t ≡ true → set_of k ≡ set_of t
unfolding same
same_set k t e = sym (folded-set k) ∙ (ap set_of (eqb-true (folded k) (folded t) e) ∙ folded-set t)

inside-self : (s : ℕ) → not (eqb s 0) ≡ true → inside s s ≡ true
unfolding inside
inside-self s e = rw (e, and_self s) (eq-eqb s s refl)

-- whatever is right in edition 1 is right in edition 2
pub same-lies : (k t : ℕ) → same k t ≡ true → lies k t ≡ true
unfolding lies coded
same-lies k t e = rw (same_set k t e) (go (not (eqb (set_of t) 0)) refl)
  where
    go : (x : Bool) → not (eqb (set_of t) 0) ≡ x → cond (x && x) (inside (set_of t) (set_of t)) (same k t) ≡ true
    go true q = inside-self (set_of t) q
    go false q = e

-- ---- edition 2 by the typed byte's set

pub lies-none : (k t : ℕ) → set_of t ≡ 0 → same k t ≡ lies k t
unfolding lies coded
lies-none k t e = rw e (go (not (eqb (set_of k) 0)))
  where
    go : (x : Bool) → same k t ≡ cond (x && false) (inside 0 (set_of k)) (same k t)
    go true = refl
    go false = refl

pub lies_in : (k t : ℕ) → (set_of t ≡ 0 → ⊥) → bit_and (set_of t) (set_of k) ≡ set_of t → true ≡ lies k t
unfolding lies coded inside
lies_in k t z e =
    let w : set_of k ≡ 0 → ⊥ = λ q. z (sym e ∙ (ap (bit_and (set_of t)) q ∙ and_zero_r (set_of t))) in
    rw (ne_eqb (set_of k) 0 w, ne_eqb (set_of t) 0 z, eq-eqb _ _ e)

not-lies : (k t : ℕ) → (set_of t ≡ 0 → ⊥) → (bit_and (set_of t) (set_of k) ≡ set_of t → ⊥) → same k t ≡ false → lies k t ≡ false
unfolding lies coded inside
not-lies k t z e q = rw (ne_eqb (set_of t) 0 z, ne_eqb _ _ e, q) (each (not (eqb (set_of k) 0)))
  where
    each : (x : Bool) → cond (x && true) false false ≡ false
    each true = refl
    each false = refl

pub lies_out : (k t : ℕ) → (set_of t ≡ 0 → ⊥) → (bit_and (set_of t) (set_of k) ≡ set_of t → ⊥) → same k t ≡ lies k t
lies_out k t z e = go (same k t) refl (lies k t) refl
  where
    go : (a : Bool) → same k t ≡ a → (b : Bool) → lies k t ≡ b → a ≡ b
    go true p b q = sym (same-lies k t p) ∙ q
    go false p b q = sym (not-lies k t z e p) ∙ q

-- a coded letter whose set is not inside the key's is wrong: the key's own letter has the same set
pub lies-no : (k t : ℕ) → (set_of t ≡ 0 → ⊥) → (bit_and (set_of t) (set_of k) ≡ set_of t → ⊥) → false ≡ lies k t
lies-no k t z e = go (same k t) refl
  where
    go : (a : Bool) → same k t ≡ a → false ≡ lies k t
    go true p = absurd (e (ap (bit_and (set_of t)) (same_set k t p) ∙ and_self (set_of t)))
    go false p = sym (not-lies k t z e p)

-- so the two sets tell it
pub lies-set : (k t : ℕ) → (set_of t ≡ 0 → ⊥) → eqb (bit_and (set_of t) (set_of k)) (set_of t) ≡ lies k t
lies-set k t z = go (eqb (bit_and (set_of t) (set_of k)) (set_of t)) refl
  where
    go : (a : Bool) → eqb (bit_and (set_of t) (set_of k)) (set_of t) ≡ a → a ≡ lies k t
    go true e = lies_in k t z (eqb-true _ _ e)
    go false e = lies-no k t z (eqb-false _ _ e)
