-- Laws of the complement: of the bytes that have none, of the writing, and of a call's answer.
use Rattle.std.specs.Prelude.{ℕ, suc, ◌+◌, ◌-◌, ◌≤◌, ◌<◌, ◌≡◌, refl, Bool, true, false, cond, eqb, length, take, drop, get_or, set, Result, Ok, Err}
use Rattle.std.proofs.Common.{sym, ◌∙◌, length-append, drop_of_length-le, drop-cons, take_all, eq-eqb, ne_eqb, arith, add-one, add-zero, suc-add, add-suc}
use mathlib.Core.List.{List, [], ◌∷◌, ◌++◌, map, reverse, append-nil, append_assoc, reverse-append}
use Rattle.std.proofs.lemmas.List.{length-map, length-reverse, get_or-map, get_or-reverse, set_at}
use Rattle.std.proofs.Math.Seq.{take-length, take-suc, length-take-le, append_snoc}
use Rattle.std.proofs.Math.Nat.{zero-add, sub-zero}
use Rattle.refusal.specs.declared.Refusal.{Refusal}
use Rattle.refusal.specs.declared.Refusal.TheVariants.{NoComplement}
use Rattle.letters.specs.Letters.{partner}
use Rattle.complement.specs.Complement.{Judged, given, refused, first_or, when, faults, complement_of, reverse_complement_of, sized, poured, complement_written}
use Rattle.complement.specs.Kinds.{in_order, judged_of, answer_of, output_of}
use Rattle.output.specs.Outcome.{leaves}

-- ---- the bytes that have no complement

faults-append : (at : ℕ) (s t : List ℕ) → faults at (s ++ t) ≡ faults at s ++ faults (at + length s) t
unfolding faults
faults-append at [] t = rw (add-zero at)
faults-append at (b ∷ s) t =
    rw (faults-append (suc at) s t, suc-add at (length s), add-suc at (length s), append_assoc)

module _ (s : List ℕ) (i : ℕ) (h : i < length s) where
  -- the refusal of the byte at a place, if it has one
  here : List Refusal
  here = when (eqb (partner (get_or s i 0)) 0) (NoComplement i (get_or s i 0))

  from-here : faults i (drop i s) ≡ here ++ faults (suc i) (drop (suc i) s)
  unfolding here faults
  from-here = rw (drop-cons s i 0 h)

  up-to-here : (n : ℕ) → n ≡ suc i → faults 0 (take n s) ≡ faults 0 (take i s) ++ here
  unfolding here faults
  up-to-here n q = rw (q, take-suc s i 0 h, faults-append 0 (take i s), length-take-le i s (omega arith), zero-add i, append-nil)

  bad : partner (get_or s i 0) ≡ 0 → here ≡ NoComplement i (get_or s i 0) ∷ []
  unfolding here
  bad e = rw (eq-eqb _ _ e)

  good : (partner (get_or s i 0) ≡ 0 → ⊥) → here ≡ []
  unfolding here
  good e = rw (ne_eqb _ _ e)

  -- from the front: if no byte before it is bad, a bad byte is the first, and a good one leaves none bad so far
  first-bad : faults i (drop i s) ≡ faults 0 s → partner (get_or s i 0) ≡ 0 → (l : List ℕ) → first_or (faults 0 s) l ≡ refused (NoComplement i (get_or s i 0))
  unfolding first_or
  first-bad inv e l = rw (← inv, from-here, bad e)

  first_good : faults i (drop i s) ≡ faults 0 s → (partner (get_or s i 0) ≡ 0 → ⊥) → faults (suc i) (drop (suc i) s) ≡ faults 0 s
  first_good inv e = rw (← inv, from-here, good e)

  -- from the back likewise
  last-bad : (n : ℕ) → n ≡ suc i → faults 0 (take n s) ≡ faults 0 s → partner (get_or s i 0) ≡ 0 → (l : List ℕ) → first_or (reverse (faults 0 s)) l ≡ refused (NoComplement i (get_or s i 0))
  unfolding first_or
  last-bad n q inv e l = rw (← inv, up-to-here n q, bad e, reverse-append)

  last-good : (n : ℕ) → n ≡ suc i → faults 0 (take n s) ≡ faults 0 s → (partner (get_or s i 0) ≡ 0 → ⊥) → faults 0 (take i s) ≡ faults 0 s
  last-good n q inv e = rw (← inv, up-to-here n q, good e, append-nil)

-- ---- a turn of the writing: one more byte behind those that are written

one_more : (l m out : List ℕ) (n a : ℕ) → length l ≡ n → n < length out → m ≡ l ++ (a ∷ []) → set (output_of (given l) out) n a ≡ output_of (given m) out
unfolding poured
one_more l m out n a e h q =
    rw (q, length-append l (a ∷ []), e, add-one n, append_snoc l a, drop-cons out n 0 h) (set_at l (get_or out n 0) (drop (suc n) out) a n e)

none_from : (s : List ℕ) (i : ℕ) → length s ≤ i → faults i (drop i s) ≡ []
unfolding faults
none_from s i h = rw (drop_of_length-le s h)

-- ---- an order: the place of the next byte, behind some others

-- none of the first i bytes in an order is bad
abbrev pub Passed : Bool → List ℕ → ℕ → Type 0
Passed true s i = faults 0 (take (length s - i) s) ≡ faults 0 s
Passed false s i = faults i (drop i s) ≡ faults 0 s

pub passed-none : (r : Bool) (s : List ℕ) → Passed r s 0
passed-none true s = rw (sub-zero (length s), take-length s)
passed-none false s = refl

pub length-in_order : (r : Bool) (s : List ℕ) → length (in_order r (map partner s)) ≡ length s
length-in_order true s = rw (length-reverse, length-map)
length-in_order false s = rw length-map

module _ (r : Bool) (s : List ℕ) (i p : ℕ) (h : i < length s) (q : p ≡ cond r (length s - 1 - i) i) where
  pub place-within : p < length s
  place-within = go r q
    where
      go : (t : Bool) → p ≡ cond t (length s - 1 - i) i → p < length s
      go true q = omega arith
      go false q = omega arith

  -- a bad byte is the first in this order
  pub passed-bad : Passed r s i → partner (get_or s p 0) ≡ 0 → judged_of r s ≡ refused (NoComplement p (get_or s p 0))
  unfolding judged_of complement_of reverse_complement_of
  passed-bad inv e = go r q inv
    where
      go : (t : Bool) → p ≡ cond t (length s - 1 - i) i → Passed t s i → judged_of t s ≡ refused (NoComplement p (get_or s p 0))
      go true q inv = last-bad s p (omega arith) (length s - i) (omega arith) inv e _
      go false q inv = let f : faults p (drop p s) ≡ faults 0 s = rw q inv in first-bad s p (omega arith) f e _

  -- behind a good one none is bad
  pub passed-good : Passed r s i → (partner (get_or s p 0) ≡ 0 → ⊥) → Passed r s (i + 1)
  passed-good inv e = go r q inv
    where
      go : (t : Bool) → p ≡ cond t (length s - 1 - i) i → Passed t s i → Passed t s (i + 1)
      go true q inv =
          let n : length s - (i + 1) ≡ p = omega arith in
          rw n (last-good s p (omega arith) (length s - i) (omega arith) inv e)
      go false q inv = let f : partner (get_or s i 0) ≡ 0 → ⊥ = rw (← q) e in rw add-one (first_good s i h inv f)

  -- its complement is written behind those of the others
  pub written-more : (v : ℕ) (now out : List ℕ) → v ≡ partner (get_or s p 0) → length s ≤ length out
      → now ≡ output_of (given (take i (in_order r (map partner s)))) out → set now i v ≡ output_of (given (take (i + 1) (in_order r (map partner s)))) out
  written-more v now out e fits inv =
      let n : length (in_order r (map partner s)) ≡ length s = length-in_order r s in
      let here : get_or (in_order r (map partner s)) i 0 ≡ v = go r q ∙ sym e in
      rw (inv, add-one i)
      (one_more _ _ out i v (length-take-le i (in_order r (map partner s)) (omega arith)) (omega arith) (rw (take-suc (in_order r (map partner s)) i 0 (omega arith), here)))
    where
      go : (t : Bool) → p ≡ cond t (length s - 1 - i) i → get_or (in_order t (map partner s)) i 0 ≡ partner (get_or s p 0)
      go true q = get_or-reverse (map partner s) i 0 (rw length-map h) ∙ rw (length-map, ← q) (get_or-map partner s p 0 0 place-within)
      go false q = rw (← q) (get_or-map partner s p 0 0 place-within)

-- no bad one is left
pub passed_all : (r : Bool) (s : List ℕ) (i : ℕ) → length s ≤ i → Passed r s i → judged_of r s ≡ given (in_order r (map partner s))
unfolding judged_of complement_of reverse_complement_of first_or faults
passed_all true s i h inv =
    let z : length s - i ≡ 0 = omega arith in
    rw (← (rw z at inv))
passed_all false s i h inv = rw (← inv, none_from s i h)

pub written-none : (l out : List ℕ) → out ≡ output_of (given (take 0 l)) out
unfolding poured
written-none l out = refl

-- all of them
pub written_all : (l now out : List ℕ) (n : ℕ) → length l ≤ n → now ≡ output_of (given (take n l)) out → now ≡ output_of (given l) out
written_all l now out n h inv = rw (take_all n l h) at inv

-- ---- a call's answer

-- an answer and an output that follow from one judgement are its outcome
pub poured-both : (j : Judged) (out after : List ℕ) (r : Result ℕ Refusal) → r ≡ answer_of j → after ≡ output_of j out → leaves r after ≡ poured j out
unfolding poured
poured-both (given l) out after r e q = rw (e, q)
poured-both (refused f) out after r e q = rw (e, q)

pub poured-given : (l out after : List ℕ) (n : ℕ) → n ≡ length l → after ≡ output_of (given l) out → leaves (Ok n) after ≡ poured (given l) out
unfolding poured
poured-given l out after n e q = rw (e, q)

-- if the sizes are fine, the bytes decide the answer
pub told-sized : (s out after : List ℕ) (j : Judged) (r : Result ℕ Refusal) → sized s (length out) j ≡ j → leaves r after ≡ poured j out → leaves r after ≡ complement_written s j out
unfolding complement_written
told-sized s out after j r k e = rw k e

pub told-refused : (s out : List ℕ) (j : Judged) (f : Refusal) → refused f ≡ sized s (length out) j → leaves (Err f) out ≡ complement_written s j out
unfolding complement_written poured
told-refused s out j f e = rw (← e)
