-- Laws for Strands.antt: bytes and letters from the back, each as its partner.
use Rattle.std.specs.Prelude.{ℕ, suc, ◌+◌, ◌-◌, ◌<◌, ◌≡◌, refl, Bool, true, false, ◌↔◌, eqb, length, get_or}
use Rattle.std.proofs.Common.{sym, ap, ◌∙◌, arith, eqb-true}
use mathlib.Core.List.{List, [], ◌∷◌, ◌++◌, map, reverse, reverse-cons}
use Rattle.std.proofs.lemmas.List.{length-map, length-reverse, get_or_at}
use Rattle.std.proofs.Math.ListN.{get_or-map, get_or-append}
use Rattle.std.proofs.lemmas.Bool.{eqb-false}
use Rattle.letters.specs.Letters.{partner}
use Rattle.letters.specs.Complements.{complement-inside}
use Rattle.complement.specs.Complement.{given, faults, reverse_complement_of}
use Rattle.complement.specs.InverseLaws.{inside}
use Rattle.primer.specs.Search.{fits}
use Rattle.primer.specs.Places.{MatchesAt}

-- the complements from the last to the first
abbrev pub reversed : List ℕ → List ℕ
reversed s = reverse (map partner s)

pub reversed-is : (s t : List ℕ) → reverse_complement_of s ≡ given t → reversed s ≡ t
unfolding reverse_complement_of
reversed-is s t e = (inside (reverse (faults 0 s)) (reverse (map partner s)) t e).1

-- a byte fits a letter exactly if their complements do
fits-partners : (p b : ℕ) → fits (partner p) (partner b) ≡ fits p b
unfolding fits
fits-partners p b = complement-inside b p

from_back : (l : List ℕ) (i : ℕ) → i < length l → get_or (reverse l) i 0 ≡ get_or l (length l - 1 - i) 0
from_back [] i h = absurd (omega arith)
from_back (x ∷ l) i h = ap (λ (r : List ℕ). get_or r i 0) (reverse-cons x l) ∙ go (eqb i (length l)) refl (from_back l i)
  where
    go : (v : Bool) → eqb i (length l) ≡ v → (i < length l → get_or (reverse l) i 0 ≡ get_or l (length l - 1 - i) 0) → get_or (reverse l ++ (x ∷ [])) i 0 ≡ get_or (x ∷ l) (suc (length l) - 1 - i) 0
    go true e more =
        let q : i ≡ length l = eqb-true _ _ e in
        let z : suc (length l) - 1 - i ≡ 0 = omega arith in
        rw z (get_or_at (reverse l) x [] 0 i (length-reverse l ∙ sym q))
    go false e more =
        let q : i ≡ length l → ⊥ = eqb-false _ _ e in
        let n : i < length l = omega arith in
        let z : suc (length l) - 1 - i ≡ suc (length l - 1 - i) = omega arith in
        rw z (get_or-append (reverse l) (x ∷ []) 0 i (rw (length-reverse l) n) ∙ more n)

length-reversed : (l : List ℕ) → length (reversed l) ≡ length l
length-reversed l = length-reverse (map partner l) ∙ length-map l partner

partner-none : partner 0 ≡ 0
unfolding partner
partner-none = refl

at_back : (l : List ℕ) (i : ℕ) → i < length l → get_or (reversed l) i 0 ≡ partner (get_or l (length l - 1 - i) 0)
at_back l i h =
    from_back (map partner l) i (rw (length-map l partner) h) ∙ rw (length-map l partner) (ap (get_or (map partner l) (length l - 1 - i)) (sym partner-none) ∙ get_or-map partner l (length l - 1 - i) 0)

module _ (ps s : List ℕ) (k j : ℕ) (h : k + length ps + j ≡ length s) where
  -- a letter of the one match, and its partner in the other
  across : (i : ℕ) → i < length ps → fits (get_or (reversed ps) i 0) (get_or (reversed s) (j + i) 0) ≡ fits (get_or ps (length ps - 1 - i) 0) (get_or s (k + (length ps - 1 - i)) 0)
  across i l =
      let q : length s - 1 - (j + i) ≡ k + (length ps - 1 - i) = omega arith in
      rw (at_back ps i l, at_back s (j + i) (omega arith), q) (fits-partners (get_or ps (length ps - 1 - i) 0) (get_or s (k + (length ps - 1 - i)) 0))

  pub strands : MatchesAt ps s k ↔ MatchesAt (reversed ps) (reversed s) j
  strands = (there, back)
    where
      there : MatchesAt ps s k → MatchesAt (reversed ps) (reversed s) j
      there m = record {
        ends = rw (length-reversed ps, length-reversed s) (omega arith);
        each = λ i l. let n : i < length ps = omega (arith, l, length-reversed ps) in across i n ∙ m.each (length ps - 1 - i) (omega arith);
      }

      back : MatchesAt (reversed ps) (reversed s) j → MatchesAt ps s k
      back m = record {
        ends = omega arith;
        each = λ i l.
            let n : length ps - 1 - (length ps - 1 - i) ≡ i = omega arith in
            rw n at (sym (across (length ps - 1 - i) (omega arith)) ∙ m.each (length ps - 1 - i) (omega (arith, length-reversed ps)));
      }
