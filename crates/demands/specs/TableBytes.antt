-- Rows put in a table of bytes are read from it again: its numbers are those that were put there.
use Rattle.std.specs.Prelude.{ℕ, zero, suc, ◌+◌, ◌*◌, ◌/◌, ◌^◌, ◌≤◌, ◌<◌, ◌≡◌, refl, List, [], ◌∷◌, ◌++◌, length, get_or, take, drop, set}
use Rattle.std.proofs.Common.{ap, ◌∙◌, append_assoc, arith, length-append, length-take, length-drop, take_at, drop_at, get_or-drop}
use Rattle.std.proofs.lemmas.List.Edits.{sets}
use Rattle.std.proofs.Math.Seq.{length-sets}
use Rattle.record.specs.declared.Record.{Record}
use Rattle.table.specs.Rows.{words_of, words, row_count, with_rows}
use Rattle.table.specs.Numbers.{to_bytes, first_numbers, numbers_in, rest_of, bytes_of, with_numbers}
use Rattle.table.specs.NumberLaws.{length-to_bytes, from-to, from-fits, length-numbers}
use Rattle.mission.specs.Leading.{row_in}
use Rattle.mission.specs.TableOf.{Fits}
use Rattle.demands.specs.Host.{AreBytes, row_bytes}

-- every number fits 64 bits
abbrev AreNumbers : List ℕ → Type 0
AreNumbers vs = (i : ℕ) → get_or vs i 0 < 2 ^ 64

-- ---- how many rows a table of bytes has

pub rows-room : (t : List ℕ) (n : ℕ) → n * row_bytes ≤ length t → n ≤ row_count (numbers_in t)
unfolding row_count
rows-room t n h = rw (length-numbers t) (omega arith)

-- ---- numbers written as bytes

length-bytes_of : (vs : List ℕ) → length (bytes_of vs) ≡ length vs * 8
unfolding bytes_of
length-bytes_of [] = refl
length-bytes_of (v ∷ vs) = simp (length-append, length-to_bytes 8 v, length-bytes_of vs) (omega arith)

bytes-numbers : (vs r : List ℕ) → AreNumbers vs → first_numbers (length vs) (bytes_of vs ++ r) ≡ vs
unfolding first_numbers bytes_of
bytes-numbers [] r m = refl
bytes-numbers (v ∷ vs) r m =
    rw (append_assoc (to_bytes 8 v) (bytes_of vs) r, take_at (to_bytes 8 v) (bytes_of vs ++ r) 8 (length-to_bytes 8 v), drop_at (to_bytes 8 v) (bytes_of vs ++ r) 8 (length-to_bytes 8 v), from-to 8 v (m 0))
    (ap (λ (w : List ℕ). v ∷ w) (bytes-numbers vs r (λ i. m (suc i))))

numbers-with : (t vs : List ℕ) → length vs ≡ length (numbers_in t) → AreNumbers vs → numbers_in (with_numbers t vs) ≡ vs
unfolding numbers_in with_numbers rest_of
numbers-with t vs e m =
    let n : length vs ≡ length t / 8 = e ∙ length-numbers t in
    let q : length (bytes_of vs ++ drop (length t / 8 * 8) t) / 8 ≡ length vs = simp (length-append, length-bytes_of vs, length-drop) (omega arith) in
    ap (λ (k : ℕ). first_numbers k (bytes_of vs ++ drop (length t / 8 * 8) t)) q ∙ bytes-numbers vs (drop (length t / 8 * 8) t) m

-- ---- the numbers of bytes fit, and so do those of rows

take-bytes : (n : ℕ) (t : List ℕ) → AreBytes t → AreBytes (take n t)
take-bytes zero t m i = omega arith
take-bytes (suc n) [] m i = omega arith
take-bytes (suc n) (b ∷ t) m zero = m 0
take-bytes (suc n) (b ∷ t) m (suc i) = take-bytes n t (λ j. m (suc j)) i

numbers_fit : (n : ℕ) (t : List ℕ) → AreBytes t → AreNumbers (first_numbers n t)
unfolding first_numbers
numbers_fit zero t m i = omega arith
numbers_fit (suc n) t m zero = from-fits 8 (take 8 t) (omega (arith, length-take 8 t)) (take-bytes 8 t m)
numbers_fit (suc n) t m (suc i) = numbers_fit n (drop 8 t) (λ j. rw get_or-drop (m (8 + j))) i

set-fits : (t : List ℕ) (i v : ℕ) → AreNumbers t → v < 2 ^ 64 → AreNumbers (set t i v)
set-fits [] i v h m j = h j
set-fits (x ∷ t) zero v h m zero = m
set-fits (x ∷ t) zero v h m (suc j) = h (suc j)
set-fits (x ∷ t) (suc i) v h m zero = h 0
set-fits (x ∷ t) (suc i) v h m (suc j) = set-fits t i v (λ k. h (suc k)) m j

sets-fit : (vs t : List ℕ) (i : ℕ) → AreNumbers t → AreNumbers vs → AreNumbers (sets t i vs)
sets-fit [] t i h m = h
sets-fit (v ∷ vs) t i h m = sets-fit vs (set t i v) (suc i) (set-fits t i v h (m 0)) (λ j. m (suc j))

words-fit : (xs : List Record) → ((r : ℕ) → r < length xs → Fits (row_in xs r)) → AreNumbers (words xs)
unfolding words words_of
words-fit [] h i = omega arith
words-fit (x ∷ xs) h zero = (h 0 (omega arith)).name-start
words-fit (x ∷ xs) h (suc zero) = (h 0 (omega arith)).name-length
words-fit (x ∷ xs) h (suc (suc zero)) = (h 0 (omega arith)).lined.fits-length
words-fit (x ∷ xs) h (suc (suc (suc zero))) = (h 0 (omega arith)).lined.fits-position
words-fit (x ∷ xs) h (suc (suc (suc (suc zero)))) = (h 0 (omega arith)).lined.fits-bases
words-fit (x ∷ xs) h (suc (suc (suc (suc (suc zero))))) = (h 0 (omega arith)).lined.fits_width
words-fit (x ∷ xs) h (suc (suc (suc (suc (suc (suc zero)))))) = (h 0 (omega arith)).description-start
words-fit (x ∷ xs) h (suc (suc (suc (suc (suc (suc (suc zero))))))) = (h 0 (omega arith)).description-length
words-fit (x ∷ xs) h (suc (suc (suc (suc (suc (suc (suc (suc i)))))))) = words-fit xs (λ r m. h (suc r) (omega arith)) i

-- so rows that are put in a table are what it then holds
pub rows_back : (t : List ℕ) (xs : List Record) → AreBytes t → ((r : ℕ) → r < length xs → Fits (row_in xs r))
    → numbers_in (with_numbers t (with_rows (numbers_in t) 0 xs)) ≡ with_rows (numbers_in t) 0 xs
rows_back t xs m h = numbers-with t (with_rows (numbers_in t) 0 xs) (length-sets (numbers_in t) 0 (words xs)) (sets-fit (words xs) (numbers_in t) 0 (fit t m) (words-fit xs h))
  where
    fit : (u : List ℕ) → AreBytes u → AreNumbers (numbers_in u)
    fit u k = unfold numbers_in in numbers_fit (length u / 8) u k
