-- Bytes: the first of a kind, and bytes laid over others.
use Rattle.std.specs.Prelude.{ℕ, suc, ◌+◌, ◌-◌, ◌≤◌, ◌<◌, ◌≡◌, List, [], ◌∷◌, ◌++◌, Bool, true, false, cond, length, take, drop, get_or, set, eqb}
use Rattle.std.proofs.Common.{sym, ap, ◌∙◌, append_assoc, arith, add-zero, zero-add, add_assoc, length-append, length-drop, take-append-drop, drop_of_length-le, drop-cons, take_all, take_at, drop-drop}
use Rattle.std.proofs.Math.Numerals.{add-one}
use Rattle.std.proofs.Math.Seq.{length-take-le, drop-append-add, take-length, paste}
use Rattle.std.proofs.lemmas.List.{set_split}

-- some bytes, with s from a place on
unfoldable pub overlaid : List ℕ → ℕ → List ℕ → List ℕ
overlaid out at s = take at out ++ (s ++ drop (at + length s) out)

-- is a byte b
abbrev pub is : ℕ → ℕ → Bool
is b x = eqb x b

-- the place of the first byte that passes a test; the length where there is none
unfoldable pub first_where : (ℕ → Bool) → List ℕ → ℕ
first_where p [] = 0
first_where p (b ∷ l) = cond (p b) 0 (suc (first_where p l))

-- ---- laws

-- a search has come to i: the first from there is the first, w
module _ (p : ℕ → Bool) (s : List ℕ) (i w : ℕ) (inv : i + first_where p (drop i s) ≡ w) where
  pub first-hit : i < length s → p (get_or s i 0) ≡ true → i ≡ w
  unfolding first_where
  first-hit h e = simp (drop-cons s i 0 h, e, add-zero) at inv

  pub first-miss : i < length s → p (get_or s i 0) ≡ false → i + 1 + first_where p (drop (i + 1) s) ≡ w
  unfolding first_where
  first-miss h e = rw add-one (omega (arith, simp (drop-cons s i 0 h, e) at inv))

  pub first-end : length s ≤ i → i ≡ w
  unfolding first_where
  first-end h = simp (drop_of_length-le s h, add-zero) at inv

pub first-le : (p : ℕ → Bool) (s : List ℕ) → first_where p s ≤ length s
unfolding first_where
first-le p [] = omega arith
first-le p (b ∷ s) = go (p b) (first-le p s)
  where
    go : (t : Bool) → first_where p s ≤ length s → cond t 0 (suc (first_where p s)) ≤ suc (length s)
    go true h = omega arith
    go false h = omega arith

-- a part to the end of a slice
pub take_rest : (a : ℕ) (l : List ℕ) → take (length l - a) (drop a l) ≡ drop a l
take_rest a l = take_all (length l - a) (drop a l) (simp length-drop (omega arith))

module _ (out : List ℕ) (at : ℕ) (s : List ℕ) where
  pub overlaid-length : at + length s ≤ length out → length (overlaid out at s) ≡ length out
  unfolding overlaid
  overlaid-length h = simp (length-append, length-drop) (omega (arith, length-take-le at out (omega arith)))

-- nothing laid over changes nothing
pub overlaid-none : (out : List ℕ) (at : ℕ) → out ≡ overlaid out at []
unfolding overlaid
overlaid-none out at = rw add-zero (sym (take-append-drop at out))

-- a copy of all bytes lays them over
pub overlaid-paste : (out : List ℕ) (at : ℕ) (s : List ℕ) → paste out at s (length s) ≡ overlaid out at s
unfolding overlaid
overlaid-paste out at s = rw (take-length s) (append_assoc (take at out) s (drop (at + length s) out))

-- bytes laid over behind others
drop_past : (xs ys : List ℕ) (n m : ℕ) → length xs ≡ n → drop (n + m) (xs ++ ys) ≡ drop m ys
drop_past xs ys n m e = rw (← e) (drop-append-add xs ys m)

pub overlaid-more : (out : List ℕ) (at next : ℕ) (s t : List ℕ) → at ≤ length out → next ≡ at + length s
    → overlaid (overlaid out at s) next t ≡ overlaid out at (s ++ t)
unfolding overlaid
overlaid-more out at next s t h n =
    let x : List ℕ = take at out ++ s in
    let y : List ℕ = drop (at + length s) out in
    let e : length x ≡ at + length s = length-append (take at out) s ∙ ap (λ (k : ℕ). k + length s) (length-take-le at out h) in
    rw (n, ← append_assoc (take at out) s y, take_at x y (at + length s) e, drop_past x y (at + length s) (length t) e, drop-drop (length t) (at + length s) out)
    (simp (append_assoc, length-append, add_assoc))

-- one byte
pub overlaid-one : (out : List ℕ) (at b : ℕ) → at < length out → set out at b ≡ overlaid out at (b ∷ [])
unfolding overlaid
overlaid-one out at b h = rw add-one (set_split out at b h)

-- one byte behind others
pub overlaid-next : (out : List ℕ) (at next : ℕ) (s : List ℕ) (b : ℕ) → next ≡ at + length s → next < length out
    → set (overlaid out at s) next b ≡ overlaid out at (s ++ (b ∷ []))
overlaid-next out at next s b e h =
    overlaid-one (overlaid out at s) next b (rw (overlaid-length out at s (omega arith)) h) ∙ overlaid-more out at next s (b ∷ []) (omega arith) e

-- at the front
pub overlaid-zero : (out s : List ℕ) → overlaid out 0 s ≡ s ++ drop (length s) out
unfolding overlaid
overlaid-zero out s = rw zero-add
