-- Laws of the kinds: of the tests and the flips of one byte, and of bytes that are all of a kind.
use Prim.Native.Nat.{ℕ, zero, suc, ◌*◌, ◌/◌, ◌<◌}
use Prim.Native.Char.{code}
use Prim.Native.String.{String, [] as empty, ◌∷◌ as ◌◂◌}
use Rattle.std.specs.Prelude.{◌≡◌, Bool, not, ◌||◌, ◌&&◌, T, eqb, leb, length, take, drop, get_or}
use Rattle.std.proofs.Math.Path.{refl}
use Rattle.std.proofs.Common.{sym, ap, ◌∙◌, eqb→eq, take-append-drop, take-suc, eqb-true, ne_eqb, arith}
use Rattle.std.proofs.Math.Bool.{true, false, cond}
use mathlib.Core.List.{List, [], ◌∷◌, ◌++◌, map, reverse, reverse-reverse, cons≢nil}
use Rattle.std.specs.Int.Bits.{bit_and, bit_or, bit_xor}
use Rattle.std.proofs.lemmas.Bool.{eqb-false}
use Rattle.refusal.specs.declared.Refusal.{Refusal}
use Rattle.refusal.specs.declared.Refusal.TheVariants.{NoComplement}
use Rattle.letters.specs.Letters.{partner}
use Rattle.complement.specs.Complement.{given, first_or, when, faults, complement_of, reverse_complement_of, poured}
use Rattle.complement.specs.Kinds.{among, is_of, all_of, in_order, judged_of, output_of}
use Rattle.letters.specs.Laws.{both}

-- ---- the tests of a byte

-- a test at each byte below n
abbrev pub every_below : (ℕ → Bool) → ℕ → Bool
every_below f zero = true
every_below f (suc n) = cond (f n) (every_below f n) false

of-each-below : (f : ℕ → Bool) (n : ℕ) → T (every_below f n) → (b : ℕ) → b < n → T (f b)
of-each-below f zero t b h = absurd (omega arith)
of-each-below f (suc n) t b h = go (eqb b n) refl (of-each-below f n tests.1 b)
  where
    tests : T (f n) × T (every_below f n)
    tests = both (f n) (every_below f n) t

    go : (v : Bool) → eqb b n ≡ v → (b < n → T (f b)) → T (f b)
    go true e more = rw (eqb-true b n e) tests.0
    go false e more = let d : b ≡ n → ⊥ = eqb-false b n e in more (omega arith)

agree : (x y : Bool) → T (cond x y (not y)) → x ≡ y
agree true true t = refl
agree true false t = absurd t
agree false true t = absurd t
agree false false t = refl

-- two tests of a byte are the same if they agree at each byte
same_test : (f g : ℕ → Bool) → T (every_below (λ x. cond (f x) (g x) (not (g x))) 256) → (b : ℕ) → b < 256 → f b ≡ g b
same_test f g t b h = agree _ _ (of-each-below (λ x. cond (f x) (g x) (not (g x))) 256 t b h)

-- a byte is plain if with its bit 32 set it is a, t or n, or with its bits 32 and 4 set g; c and g differ in the bit 4
pub plain-test : (b : ℕ) → b < 256
    → (((eqb (bit_or (bit_or b 32) 4) 103 || eqb (bit_or b 32) 97) || eqb (bit_or b 32) 116) || eqb (bit_or b 32) 110) ≡ is_of true b
unfolding is_of
plain-test b h =
    same_test (λ x. ((eqb (bit_or (bit_or x 32) 4) 103 || eqb (bit_or x 32) 97) || eqb (bit_or x 32) 116) || eqb (bit_or x 32) 110) (is_of true) tt b h

-- a byte has a complement if with its bit 32 set it is a to d, g, h, k, m, n, r to w or y
pub paired-test : (b : ℕ) → b < 256
    → ((((((leb 97 (bit_or b 32) && leb (bit_or b 32) 100) || (leb 103 (bit_or b 32) && leb (bit_or b 32) 104)) || eqb (bit_or b 32) 107) || (leb 109 (bit_or b 32) && leb (bit_or b 32) 110)) || (leb 114 (bit_or b 32) && leb (bit_or b 32) 119)) || eqb (bit_or b 32) 121) ≡ is_of false b
unfolding is_of partner
paired-test b h =
    same_test (λ x. (((((leb 97 (bit_or x 32) && leb (bit_or x 32) 100) || (leb 103 (bit_or x 32) && leb (bit_or x 32) 104)) || eqb (bit_or x 32) 107) || (leb 109 (bit_or x 32) && leb (bit_or x 32) 110)) || (leb 114 (bit_or x 32) && leb (bit_or x 32) 119)) || eqb (bit_or x 32) 121) (is_of false) tt b h

-- ---- the flips of a byte

-- a test at each letter of a text
abbrev pub every_of : (ℕ → Bool) → String → Bool
every_of f empty = true
every_of f (x ◂ s) = cond (f (code x)) (every_of f s) false

of-letters : (f : ℕ → Bool) (s : String) → T (every_of f s) → (b : ℕ) → among s b ≡ true → T (f b)
of-letters f empty t b h = let z : ◌≡◌ {A = ℕ} 0 1 = cc in absurd (omega arith)
of-letters f (x ◂ s) t b h = go (eqb b (code x)) refl (of-letters f s tests.1 b) h
  where
    tests : T (f (code x)) × T (every_of f s)
    tests = both (f (code x)) (every_of f s) t

    go : (v : Bool) → eqb b (code x) ≡ v → (among s b ≡ true → T (f b)) → cond v true (among s b) ≡ true → T (f b)
    go true e more h = rw (eqb-true b (code x) e) tests.0
    go false e more h = more h

-- a computed test that holds at every plain base holds at each
of_plain : (f : ℕ → Bool) → T (every_of f "ACGTNacgtn") → (b : ℕ) → is_of true b ≡ true → T (f b)
unfolding is_of
of_plain f t b h = of-letters f "ACGTNacgtn" t b h

-- some bits of a plain base, flipped, are its complement
pub plain-flips : (b : ℕ) → is_of true b ≡ true → bit_xor (bit_xor (bit_xor b 21) (bit_and (b / 2) 5)) (bit_and b 2 * 8) ≡ partner b
unfolding partner
plain-flips b h = eqb→eq _ _ (of_plain (λ x. eqb (bit_xor (bit_xor (bit_xor x 21) (bit_and (x / 2) 5)) (bit_and x 2 * 8)) (partner x)) tt b h)

-- a byte of either kind has a complement
plain-good : (b : ℕ) → is_of true b ≡ true → partner b ≡ 0 → ⊥
unfolding partner
plain-good b h e = rw e at (of_plain (λ x. not (eqb (partner x) 0)) tt b h)

paired-good : (b : ℕ) → is_of false b ≡ true → partner b ≡ 0 → ⊥
unfolding is_of
paired-good b h e = let z : ◌≡◌ {A = ℕ} 0 1 = cc in absurd (omega arith)

pub kind-good : (p : Bool) (b : ℕ) → is_of p b ≡ true → partner b ≡ 0 → ⊥
kind-good true b h e = plain-good b h e
kind-good false b h e = paired-good b h e

-- a byte that is of neither kind has no complement
pub unpaired : (b : ℕ) → is_of false b ≡ false → partner b ≡ 0
unfolding is_of
unpaired b t = go (eqb (partner b) 0) refl t
  where
    go : (w : Bool) → eqb (partner b) 0 ≡ w → not w ≡ false → partner b ≡ 0
    go true q t = eqb-true _ _ q
    go false q t = let z : ◌≡◌ {A = ℕ} 0 1 = cc in absurd (omega arith)

-- ---- bytes that are all of a kind

and_then : (x y : Bool) → cond x y false ≡ true → (x ≡ true) × (y ≡ true)
and_then true y e = (refl, e)
and_then false y e = let z : ◌≡◌ {A = ℕ} 0 1 = cc in absurd (omega arith)

module _ (p : Bool) where
  all_append : (s t : List ℕ) → all_of p (s ++ t) ≡ cond (all_of p s) (all_of p t) false
  unfolding all_of
  all_append [] t = refl
  all_append (a ∷ s) t = go (is_of p a) (all_append s t)
    where
      go : (v : Bool) → all_of p (s ++ t) ≡ cond (all_of p s) (all_of p t) false → cond v (all_of p (s ++ t)) false ≡ cond (cond v (all_of p s) false) (all_of p t) false
      go true e = e
      go false e = refl

  all_one : (b : ℕ) → all_of p (b ∷ []) ≡ is_of p b
  unfolding all_of
  all_one b = go (is_of p b)
    where
      go : (v : Bool) → cond v true false ≡ v
      go true = refl
      go false = refl

  -- one byte more
  pub all_more : (s : List ℕ) (k : ℕ) → k < length s → all_of p (take (suc k) s) ≡ cond (all_of p (take k s)) (is_of p (get_or s k 0)) false
  all_more s k h = rw (take-suc s k 0 h, ← all_one (get_or s k 0)) (all_append (take k s) (get_or s k 0 ∷ []))

  -- a block in front of the rest: if it is of the kind, the rest decides
  module _ (s x rest : List ℕ) (q : s ≡ x ++ rest) where
    pub block-good : all_of p x ≡ true → all_of p s ≡ all_of p rest
    block-good e = rw (q, all_append x rest, e)

    pub block-bad : all_of p x ≡ false → all_of p s ≡ false
    block-bad e = rw (q, all_append x rest, e)

  pub all-none : (s : List ℕ) → length s ≡ 0 → all_of p s ≡ true
  unfolding all_of
  all-none [] e = refl
  all-none (b ∷ s) e = absurd (omega arith)

  -- those up to a place, and those behind it
  all-halves : (s : List ℕ) (k : ℕ) → all_of p s ≡ cond (all_of p (take k s)) (all_of p (drop k s)) false
  all-halves s k = ap (all_of p) (sym (take-append-drop k s)) ∙ all_append (take k s) (drop k s)

  -- those up to a place, those behind it up to another, and the rest
  module _ (s : List ℕ) (k n : ℕ) (front rest back last : List ℕ) (f : front ≡ take k s) (r : rest ≡ drop k s) (b : back ≡ take n rest) (l : last ≡ drop n rest) where
    parts : all_of p s ≡ cond (all_of p front) (cond (all_of p back) (all_of p last) false) false
    parts = rw (all-halves s k, ← f, ← r, all-halves rest n, ← b, ← l)

    pub both-good : cond (all_of p front) (all_of p back) false ≡ true → all_of p s ≡ all_of p last
    both-good e = let (x, y) = and_then (all_of p front) (all_of p back) e in parts ∙ rw (x, y)

    pub both-bad : cond (all_of p front) (all_of p back) false ≡ false → all_of p s ≡ false
    both-bad e = parts ∙ go (all_of p front) (all_of p back) e
      where
        go : (x y : Bool) → cond x y false ≡ false → cond x (cond y (all_of p last) false) false ≡ false
        go true y e = rw e
        go false y e = refl

  -- each of them is
  pub all-at : (s : List ℕ) (k : ℕ) → k < length s → all_of p s ≡ true → is_of p (get_or s k 0) ≡ true
  unfolding all_of
  all-at [] k h e = absurd (omega arith)
  all-at (b ∷ s) zero h e = (and_then (is_of p b) (all_of p s) e).0
  all-at (b ∷ s) (suc k) h e = all-at s k (omega arith) (and_then (is_of p b) (all_of p s) e).1

  -- no refusal stands against them
  all-good : (at : ℕ) (s : List ℕ) → all_of p s ≡ true → faults at s ≡ []
  unfolding all_of faults
  all-good at [] e = refl
  all-good at (b ∷ s) e =
      let (g, more) = and_then (is_of p b) (all_of p s) e in
      rw (ne_eqb _ _ (kind-good p b g)) (all-good (suc at) s more)

  -- so their complements are written, either way
  all-given : (s : List ℕ) → all_of p s ≡ true → complement_of s ≡ given (map partner s)
  unfolding complement_of first_or
  all-given s e = rw (all-good 0 s e)

  all-given-reversed : (s : List ℕ) → all_of p s ≡ true → reverse_complement_of s ≡ given (reverse (map partner s))
  unfolding reverse_complement_of first_or
  all-given-reversed s e = rw (all-good 0 s e)

  pub all-judged : (reversed : Bool) (s : List ℕ) → all_of p s ≡ true → judged_of reversed s ≡ given (in_order reversed (map partner s))
  unfolding judged_of
  all-judged true s e = all-given-reversed s e
  all-judged false s e = all-given s e

-- ---- bytes, some without a complement

some-bad : (at : ℕ) (s : List ℕ) → all_of false s ≡ false → faults at s ≡ [] → ⊥
unfolding is_of all_of faults
some-bad at [] e q = let z : ◌≡◌ {A = ℕ} 0 1 = cc in omega arith
some-bad at (b ∷ s) e q = go (eqb (partner b) 0) (some-bad (suc at) s) e q
  where
    go : (v : Bool) → (all_of false s ≡ false → faults (suc at) s ≡ [] → ⊥) → cond (not v) (all_of false s) false ≡ false → when v (NoComplement at b) ++ faults (suc at) s ≡ [] → ⊥
    go true more e q = absurd (cons≢nil q)
    go false more e q = more e q

stays : (rs : List Refusal) (l out : List ℕ) → (rs ≡ [] → ⊥) → out ≡ output_of (first_or rs l) out
unfolding first_or poured
stays [] l out h = absurd (h refl)
stays (r ∷ rs) l out h = refl

-- they leave the output as it was
pub bad-stays : (reversed : Bool) (s out : List ℕ) → all_of false s ≡ false → out ≡ output_of (judged_of reversed s) out
unfolding judged_of complement_of reverse_complement_of
bad-stays false s out e = stays _ _ out (some-bad 0 s e)
bad-stays true s out e = stays _ _ out (λ q. some-bad 0 s e (sym (reverse-reverse (faults 0 s)) ∙ ap reverse q))
