-- Laws of a table as bytes. Callers go by these and unfold nothing.
use Rattle.std.specs.Prelude.{ℕ, zero, suc, ◌+◌, ◌-◌, ◌*◌, ◌/◌, ◌%◌, ◌^◌, ◌≤◌, ◌<◌, ◌≡◌, refl, List, [], ◌∷◌, ◌++◌, get_or, take, drop, set}
use Rattle.std.proofs.Common.{ap, sym, ◌∙◌, append_assoc, append-nil, add-one, pow-suc, div-lt_iff_lt-mul, length-append, take-append-drop, take_all, take-suc-set, drop-cons, drop-drop, take-add, get_or-take, get_or-drop, take_at, drop_at, lit<}
use native.Mathlib.Omega.{arith}
use Rattle.std.proofs.Math.Nat.{one-le-pow}
use Rattle.std.proofs.Math.ListN.{length, get_or-eq_default, length-drop}
use Rattle.std.proofs.Math.Seq.{length-take-le, drop-length, set_out}
use Rattle.table.specs.Numbers.{from_bytes, to_bytes, first_numbers, numbers_in, rest_of, bytes_of, with_numbers}

-- ---- one number

pub length-to_bytes : (k v : ℕ) → length (to_bytes k v) ≡ k
unfolding to_bytes
length-to_bytes zero v = refl
length-to_bytes (suc k) v = ap suc (length-to_bytes k (v / 256))

-- as many bytes as a number needs are the number
pub from-to : (k v : ℕ) → v < 256 ^ k → from_bytes (to_bytes k v) ≡ v
unfolding from_bytes to_bytes
from-to zero v h = omega arith
from-to (suc k) v h =
    let q : v / 256 < 256 ^ k = (div-lt_iff_lt-mul {k = 256} {x = v} {y = 256 ^ k} (lit< tt)).1 (rw pow-suc at h) in
    rw (from-to k (v / 256) q) (omega arith)

-- a number of bytes is those bytes
pub to-from : (bs : List ℕ) → ((i : ℕ) → i < length bs → get_or bs i 0 < 256) → to_bytes (length bs) (from_bytes bs) ≡ bs
unfolding from_bytes to_bytes
to-from [] h = refl
to-from (b ∷ bs) h =
    let e : (b + 256 * from_bytes bs) % 256 ≡ b = omega (arith, h 0 (omega arith)) in
    let d : (b + 256 * from_bytes bs) / 256 ≡ from_bytes bs = omega (arith, h 0 (omega arith)) in
    rw (e, d, to-from bs (λ i m. h (suc i) (omega arith)))

-- no bytes
pub from-none : (bs : List ℕ) → 0 ≡ from_bytes (drop (length bs) bs)
unfolding from_bytes
from-none bs = rw drop-length

-- one byte more, from the back
pub from_more : (bs : List ℕ) (i : ℕ) → i < length bs → from_bytes (drop i bs) ≡ from_bytes (drop (i + 1) bs) * 256 + get_or bs i 0
unfolding from_bytes
from_more bs i h = rw (add-one, drop-cons bs i 0 h) (omega arith)

-- at most k bytes are a number below 256 ^ k
pub from-fits : (k : ℕ) (bs : List ℕ) → length bs ≤ k → ((i : ℕ) → get_or bs i 0 < 256) → from_bytes bs < 256 ^ k
unfolding from_bytes
from-fits k [] h m = one-le-pow k 256 (omega arith)
from-fits zero (b ∷ bs) h m = absurd (omega arith)
from-fits (suc k) (b ∷ bs) h m = rw pow-suc (omega (arith, m 0, from-fits k bs (omega arith) (λ i. m (suc i))))

-- one byte written, from the front
pub to-more : (bs : List ℕ) (i n v : ℕ) → length bs ≡ n → i < n → take (i + 1) (set bs i (v % 256)) ++ to_bytes (n - (i + 1)) (v / 256) ≡ take i bs ++ to_bytes (n - i) v
unfolding to_bytes
to-more bs i n v e h =
    let m : n - i ≡ suc (n - (i + 1)) = omega arith in
    rw (add-one, take-suc-set bs i (v % 256) (omega arith), append_assoc, ← add-one i, m)

-- all bytes written
pub to-all : (bs ds : List ℕ) (i n v : ℕ) → length bs ≡ n → n ≤ i → take i bs ++ to_bytes (n - i) v ≡ ds → bs ≡ ds
unfolding to_bytes
to-all bs ds i n v e h q =
    let z : n - i ≡ 0 = omega arith in
    sym (append-nil bs) ∙ (rw (z, take_all i bs (omega arith)) at q)

-- ---- the numbers of a table

length-numbers_of : (n : ℕ) (t : List ℕ) → length (first_numbers n t) ≡ n
unfolding first_numbers
length-numbers_of zero t = refl
length-numbers_of (suc n) t = ap suc (length-numbers_of n (drop 8 t))

pub length-numbers : (t : List ℕ) → length (numbers_in t) ≡ length t / 8
unfolding numbers_in
length-numbers t = length-numbers_of (length t / 8) t

-- no more numbers than numbers, or bytes
pub length-own : (t : List ℕ) → length t ≤ length t
length-own t = omega arith

pub length-few : (t : List ℕ) → length (numbers_in t) ≤ length t
length-few t = omega (arith, length-numbers t)

-- eight bytes on
eight : (k : ℕ) → suc k * 8 ≡ 8 + k * 8
eight k = omega arith

numbers_of-at : (n : ℕ) (t : List ℕ) (k : ℕ) → k < n → get_or (first_numbers n t) k 0 ≡ from_bytes (take 8 (drop (k * 8) t))
unfolding first_numbers
numbers_of-at zero t k h = absurd (omega arith)
numbers_of-at (suc n) t zero h = refl
numbers_of-at (suc n) t (suc k) h = rw (eight k, ← drop-drop) (numbers_of-at n (drop 8 t) k (omega arith))

-- by how many numbers a table has: number k is that of its eight bytes, and 0 where there is none
module _ (t : List ℕ) (k n : ℕ) (e : n ≡ length (numbers_in t)) where
  pub number-none : n ≤ k → 0 ≡ get_or (numbers_in t) k 0
  number-none h = sym (get_or-eq_default (numbers_in t) 0 (rw e at h))

  pub number-inside : k < n → k * 8 + 8 ≤ length t
  number-inside h = omega (arith, length-numbers t)

  pub number-here : k < n → from_bytes (take (k * 8 + 8 - k * 8) (drop (k * 8) t)) ≡ get_or (numbers_in t) k 0
  unfolding numbers_in
  number-here h =
      let q : k * 8 + 8 - k * 8 ≡ 8 = omega arith in
      rw q (sym (numbers_of-at (length t / 8) t k (omega (arith, length-numbers_of (length t / 8) t))))

-- ---- one number put in the place of number k

-- a table with eight other bytes in the place of those of number k
abbrev laid : List ℕ → ℕ → List ℕ → List ℕ
laid t k bs = take (k * 8) t ++ (bs ++ drop 8 (drop (k * 8) t))

laid_on : (t : List ℕ) (k : ℕ) (bs : List ℕ) → laid t (suc k) bs ≡ take 8 t ++ laid (drop 8 t) k bs
laid_on t k bs = rw (eight k, take-add, append_assoc, ← drop-drop)

numbers_of-laid : (n : ℕ) (t : List ℕ) (k v : ℕ) → n * 8 ≤ length t → k < n → v < 256 ^ 8 → first_numbers n (laid t k (to_bytes 8 v)) ≡ set (first_numbers n t) k v
unfolding first_numbers
numbers_of-laid zero t k v h m f = absurd (omega arith)
numbers_of-laid (suc n) t zero v h m f =
    rw (take_at (to_bytes 8 v) (drop 8 t) 8 (length-to_bytes 8 v), drop_at (to_bytes 8 v) (drop 8 t) 8 (length-to_bytes 8 v), from-to 8 v f)
numbers_of-laid (suc n) t (suc k) v h m f =
    let e : length (take 8 t) ≡ 8 = length-take-le 8 t (omega arith) in
    rw (laid_on t k (to_bytes 8 v), take_at (take 8 t) (laid (drop 8 t) k (to_bytes 8 v)) 8 e, drop_at (take 8 t) (laid (drop 8 t) k (to_bytes 8 v)) 8 e)
    (ap (λ (w : List ℕ). from_bytes (take 8 t) ∷ w) (numbers_of-laid n (drop 8 t) k v (rw length-drop (omega arith)) (omega arith) f))

length-laid : (t : List ℕ) (k : ℕ) (bs : List ℕ) → k * 8 + 8 ≤ length t → length bs ≡ 8 → length (laid t k bs) ≡ length t
length-laid t k bs h e = simp (length-append, length-take-le (k * 8) t (omega arith), length-drop) (omega arith)

rest-laid : (t : List ℕ) (k : ℕ) (bs : List ℕ) (n : ℕ) → k < n → n * 8 ≤ length t → length bs ≡ 8 → drop (n * 8) (laid t k bs) ≡ drop (n * 8) t
rest-laid t k bs zero m h e = absurd (omega arith)
rest-laid t zero bs (suc n) m h e = rw (eight n, ← drop-drop (n * 8) 8 (bs ++ drop 8 t), ← drop-drop (n * 8) 8 t, drop_at bs (drop 8 t) 8 e)
rest-laid t (suc k) bs (suc n) m h e =
    rw (eight n, laid_on t k bs, ← drop-drop (n * 8) 8 (take 8 t ++ laid (drop 8 t) k bs), ← drop-drop (n * 8) 8 t, drop_at (take 8 t) (laid (drop 8 t) k bs) 8 (length-take-le 8 t (omega arith)))
    (rest-laid (drop 8 t) k bs n (omega arith) (rw length-drop (omega arith)) e)

-- a table's numbers became others, and its rest is as it was
pub record Became (before vs after : List ℕ) : Type 0 where
  pub numbers : numbers_in after ≡ vs
  pub rest : rest_of after ≡ rest_of before

module _ (t : List ℕ) (k v n : ℕ) (e : n ≡ length (numbers_in t)) where
  pub became-same : n ≤ k → Became t (set (numbers_in t) k v) t
  became-same h = record { numbers = sym (set_out (numbers_in t) k v (rw e at h)); rest = refl }

  pub became-put : k < n → v < 2 ^ 64 → (bs : List ℕ) → bs ≡ to_bytes (length (take (k * 8 + 8 - k * 8) (drop (k * 8) t))) v
      → Became t (set (numbers_in t) k v) (take (k * 8) t ++ (bs ++ drop (k * 8 + 8 - k * 8) (drop (k * 8) t)))
  unfolding numbers_in rest_of
  became-put h f bs g =
      let m : k < length t / 8 = omega (arith, length-numbers_of (length t / 8) t) in
      let q : k * 8 + 8 - k * 8 ≡ 8 = omega arith in
      let w : bs ≡ to_bytes 8 v = rw (q, length-take-le 8 (drop (k * 8) t) (rw length-drop (omega arith))) at g in
      let d : length (laid t k (to_bytes 8 v)) ≡ length t = length-laid t k (to_bytes 8 v) (omega arith) (length-to_bytes 8 v) in
      record {
        numbers = rw (q, w, d) (numbers_of-laid (length t / 8) t k v (omega arith) m f);
        rest = rw (q, w, d) (rest-laid t k (to_bytes 8 v) (length t / 8) m (omega arith) (length-to_bytes 8 v));
      }

-- ---- a table's bytes from its numbers and its rest

numbers_of-back : (n : ℕ) (t : List ℕ) → n * 8 ≤ length t → ((i : ℕ) → get_or t i 0 < 256) → bytes_of (first_numbers n t) ++ drop (n * 8) t ≡ t
unfolding first_numbers bytes_of
numbers_of-back zero t h m = refl
numbers_of-back (suc n) t h m =
    let e : length (take 8 t) ≡ 8 = length-take-le 8 t (omega arith) in
    let q : to_bytes 8 (from_bytes (take 8 t)) ≡ take 8 t = rw e at (to-from (take 8 t) (λ i z. rw (get_or-take 8 t i 0 (omega arith)) (m i))) in
    rw (q, eight n, ← drop-drop, append_assoc, numbers_of-back n (drop 8 t) (rw length-drop (omega arith)) (λ i. rw get_or-drop (m (8 + i))))
    (take-append-drop 8 t)

-- a table of bytes is its numbers as bytes, and its rest
pub bytes_back : (t : List ℕ) → ((i : ℕ) → get_or t i 0 < 256) → t ≡ with_numbers t (numbers_in t)
unfolding with_numbers numbers_in rest_of
bytes_back t m = sym (numbers_of-back (length t / 8) t (omega arith) m)

-- so two tables of bytes with the same numbers and the same rest are one
pub bytes_same : (t u : List ℕ) → ((i : ℕ) → get_or t i 0 < 256) → ((i : ℕ) → get_or u i 0 < 256) → numbers_in t ≡ numbers_in u → rest_of t ≡ rest_of u → t ≡ u
unfolding with_numbers
bytes_same t u h m e q = bytes_back t h ∙ (rw (e, q) (sym (bytes_back u m)))

-- and a table that became another is known to the byte
pub became-bytes : (t vs a : List ℕ) → Became t vs a → ((i : ℕ) → get_or a i 0 < 256) → a ≡ with_numbers t vs
unfolding with_numbers
became-bytes t vs a b m = rw (← b.numbers, ← b.rest) (bytes_back a m)
