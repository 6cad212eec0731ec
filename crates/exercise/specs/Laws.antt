-- Laws of the walk over the fields.
use Prim.Native.Nat.{ℕ, zero, suc, ◌+◌, ◌-◌, ◌*◌, ◌≤◌, ◌<◌}
use Rattle.std.specs.Prelude.{◌≡◌, Bool, true, false, cond, not, ◌&&◌, eqb, ltb, leb, get_or, take, drop, Result, Ok, Err}
use Rattle.std.proofs.Math.Path.{refl}
use Rattle.std.proofs.Common.{take_all, sym, ◌∙◌, true≢false, add-one, add-zero, add-suc, drop_of_length-le, drop-drop, lt-ltb, le-ltb, ltb-false, leb-true}
use mathlib.Core.List.{List, [], ◌∷◌}
use native.Mathlib.Omega.{arith}
use Rattle.std.proofs.Math.Nat.{suc-add}
use Rattle.std.proofs.Math.ListN.{length, length-drop}
use Rattle.std.proofs.Math.Seq.{drop-cons}
use Rattle.refusal.specs.declared.Refusal.{Refusal}
use Rattle.refusal.specs.declared.Refusal.TheVariants.{UnknownNeededTag}
use Rattle.exercise.specs.Reading.{known_to, bad, name_field, start_field, end_field, edition_field, valued, sized, judge, ended, walk}
use Rattle.exercise.specs.declared.Kept.{Kept}

-- what is behind the first k of some bytes
pub tail-all : (k : ℕ) (l : List ℕ) → take (length l - k) (drop k l) ≡ drop k l
tail-all k l = take_all (length l - k) (drop k l) (omega (arith, length-drop k l))

-- ---- how far a field reaches

-- a field that is passed has n bytes
abbrev Long : ℕ → Result (Kept × ℕ) Refusal → Type 0
Long n (Ok (h, m)) = m ≡ n
Long n (Err r) = n ≡ n

long-either : (t : Bool) (n : ℕ) (x y : Result (Kept × ℕ) Refusal) → Long n x → Long n y → Long n (cond t x y)
long-either true n x y p q = p
long-either false n x y p q = q

valued-long : (newest : ℕ) (h : Kept) (at tag n : ℕ) (s : List ℕ) → Long n (valued newest h at tag n s)
unfolding valued name_field start_field end_field edition_field bad
valued-long newest h at tag n s =
    long-either (eqb tag 1) n _ _ (long-either (eqb h.wanted 1) n _ _ refl refl)
    (long-either (eqb tag 2) n _ _ (long-either (eqb h.wanted 2) n _ _ (long-either (eqb n 8) n _ _ refl refl) refl)
    (long-either (eqb tag 3) n _ _ (long-either (eqb h.wanted 3) n _ _ (long-either (eqb n 8) n _ _ refl refl) refl)
    (long-either (eqb tag 4) n _ _ (long-either (eqb h.wanted 4) n _ _ (long-either (eqb n 1) n _ _ (long-either (known_to newest (get_or s 0 0)) n _ _ refl refl) refl) refl)
    refl)))

pub valued-length : (newest : ℕ) (h : Kept) (at tag n : ℕ) (s : List ℕ) (g : Kept) (m : ℕ) → valued newest h at tag n s ≡ Ok (g, m) → m ≡ n
valued-length newest h at tag n s g m e = rw e at (valued-long newest h at tag n s)

-- what is judged lies in the bytes
pub judge-within : (newest : ℕ) (h : Kept) (at tag : ℕ) (s : List ℕ) (g : Kept) (m : ℕ) → judge newest h at tag s ≡ Ok (g, m) → 2 + m ≤ length s
unfolding judge sized bad
judge-within newest h at tag s g m = tagged (ltb tag 128)
  where
    two : (l : List ℕ) → sized newest h at tag l ≡ Ok (g, m) → 2 + m ≤ length l
    two [] e = let z : ◌≡◌ {A = ℕ} 0 1 = cc in absurd (omega arith)
    two (a ∷ []) e = let z : ◌≡◌ {A = ℕ} 0 1 = cc in absurd (omega arith)
    two (a ∷ b ∷ l) e = go (ltb (length l) (a * 256 + b)) refl e
      where
        go : (t : Bool) → ltb (length l) (a * 256 + b) ≡ t → cond t (bad at) (valued newest h at tag (a * 256 + b) (take (a * 256 + b) l)) ≡ Ok (g, m) → 2 + m ≤ suc (suc (length l))
        go true q e = let z : ◌≡◌ {A = ℕ} 0 1 = cc in absurd (omega arith)
        go false q e = omega (arith, valued-length newest h at tag (a * 256 + b) (take (a * 256 + b) l) g m e, ltb-false (length l) (a * 256 + b) q)

    tagged : (t : Bool) → cond t (sized newest h at tag s) (Err (UnknownNeededTag at)) ≡ Ok (g, m) → 2 + m ≤ length s
    tagged true e = two s e
    tagged false e = let z : ◌≡◌ {A = ℕ} 0 1 = cc in absurd (omega arith)

-- ---- a field at an offset of some bytes

module _ (newest : ℕ) (h : Kept) (at tag : ℕ) where
  pub judge-needed : (s : List ℕ) → 128 ≤ tag → Err (UnknownNeededTag at) ≡ judge newest h at tag s
  unfolding judge sized bad
  judge-needed s k = rw (le-ltb tag 128 k)

  pub judge-short : (s : List ℕ) → tag < 128 → at < length s → length s - at < 3 → bad at ≡ judge newest h at tag (drop (at + 1) s)
  unfolding judge sized bad
  judge-short s k i m = rw (lt-ltb tag 128 k) (two (drop (at + 1) s) (rw length-drop (omega arith)))
    where
      two : (l : List ℕ) → length l < 2 → bad at ≡ sized newest h at tag l
      two [] m = refl
      two (a ∷ []) m = refl
      two (a ∷ b ∷ l) m = absurd (omega arith)

  module _ (s : List ℕ) (k : tag < 128) (i : at < length s) (m : 3 ≤ length s - at) (n : ℕ) (e : n ≡ get_or s (at + 1) 0 * 256 + get_or s (at + 2) 0) where
    cut : judge newest h at tag (drop (at + 1) s) ≡ cond (ltb (length s - at - 3) n) (bad at) (valued newest h at tag n (take n (drop (at + 3) s)))
    unfolding judge sized
    cut =
        let a : suc (at + 1) ≡ at + 2 = omega arith in
        let b : suc (at + 2) ≡ at + 3 = omega arith in
        let l : length (drop (at + 3) s) ≡ length s - at - 3 = rw length-drop (omega arith) in
        rw (lt-ltb tag 128 k, drop-cons s (at + 1) 0 (omega arith), a, drop-cons s (at + 2) 0 (omega arith), b, l, ← e)

    pub judge-cut : length s - at - 3 < n → bad at ≡ judge newest h at tag (drop (at + 1) s)
    judge-cut p = sym (cut ∙ rw (lt-ltb _ n p))

    pub judge-whole : n ≤ length s - at - 3 → valued newest h at tag n (take n (drop (at + 3) s)) ≡ judge newest h at tag (drop (at + 1) s)
    judge-whole p = sym (cut ∙ rw (le-ltb _ n p))

-- ---- the walk

module _ (newest : ℕ) where
  pub walk-skip : (h : Kept) (at k : ℕ) (s : List ℕ) → k ≤ length s → walk newest h at k s ≡ walk newest h (at + k) 0 (drop k s)
  unfolding walk
  walk-skip h at zero s z = rw (add-zero at)
  walk-skip h at (suc k) [] z = absurd (omega arith)
  walk-skip h at (suc k) (b ∷ s) z = rw (add-suc at k, ← suc-add at k) (walk-skip h (suc at) k s (omega arith))

  pub walk_end : (h : Kept) (at : ℕ) (s : List ℕ) → length s ≤ at → walk newest h at 0 (drop at s) ≡ ended h at
  unfolding walk
  walk_end h at s z = rw (drop_of_length-le s z)

  -- one field refused, and one passed
  pub walk-stop : (h : Kept) (at tag : ℕ) (s : List ℕ) (r : Refusal) → judge newest h at tag s ≡ Err r → walk newest h at 0 (tag ∷ s) ≡ Err r
  unfolding walk
  walk-stop h at tag s r e = rw e

  pub walk-pass : (h : Kept) (at tag : ℕ) (s : List ℕ) (g : Kept) (n : ℕ) → judge newest h at tag s ≡ Ok (g, n) → walk newest h at 0 (tag ∷ s) ≡ walk newest g (at + (3 + n)) 0 (drop (2 + n) s)
  unfolding walk
  walk-pass h at tag s g n e =
      let q : suc at + (2 + n) ≡ at + (3 + n) = omega arith in
      rw e (walk-skip g (suc at) (2 + n) s (judge-within newest h at tag s g n e) ∙ rw q)

  -- at an offset of some bytes
  module _ (h : Kept) (at : ℕ) (s : List ℕ) (i : at < length s) where
    pub step-stop : (r : Refusal) → judge newest h at (get_or s at 0) (drop (at + 1) s) ≡ Err r → walk newest h at 0 (drop at s) ≡ Err r
    step-stop r e = rw (drop-cons s at 0 i, ← add-one at) (walk-stop h at (get_or s at 0) (drop (at + 1) s) r e)

    pub step-within : (g : Kept) (n : ℕ) → judge newest h at (get_or s at 0) (drop (at + 1) s) ≡ Ok (g, n) → at + 3 + n ≤ length s
    step-within g n e = omega (arith, judge-within newest h at (get_or s at 0) (drop (at + 1) s) g n e, length-drop (at + 1) s)

    pub step-pass : (g : Kept) (n : ℕ) → judge newest h at (get_or s at 0) (drop (at + 1) s) ≡ Ok (g, n) → walk newest g (at + 3 + n) 0 (drop (at + 3 + n) s) ≡ walk newest h at 0 (drop at s)
    step-pass g n e =
        let q : at + 1 + (2 + n) ≡ at + 3 + n = omega arith in
        let p : at + (3 + n) ≡ at + 3 + n = omega arith in
        sym (rw (drop-cons s at 0 i, ← add-one at) (walk-pass h at (get_or s at 0) (drop (at + 1) s) g n e ∙ rw (drop-drop (2 + n) (at + 1) s, q, p)))

-- ---- editions

pub known-most : (newest e : ℕ) → known_to newest e ≡ true → e ≤ newest
unfolding known_to
known-most newest e = go (eqb e 0)
  where
    go : (t : Bool) → (not t && leb e newest) ≡ true → e ≤ newest
    go true q = absurd (true≢false (sym q))
    go false q = leb-true e newest q
