-- Laws of a table of rows of any kind. Filled row by row: what is still to come, put behind what is there, is the whole.
use Rattle.std.specs.Prelude.{ℕ, zero, suc, ◌+◌, ◌-◌, ◌*◌, ◌/◌, ◌≤◌, ◌<◌, Bool, drop, set, get_or, Option, Some, None, Result, Ok, Err, ⊤}
use Rattle.std.proofs.Math.Path.{◌≡◌, refl, ap, sym}
use Rattle.std.proofs.Common.{◌∙◌, length-append, length-take-le, arith, add-zero, zero-add, zero-mul, suc-mul, add-mul, le-div_iff_mul-le, add-one}
use mathlib.Core.List.{List, [], ◌∷◌, ◌++◌, append-nil, append_assoc}
use Rattle.std.proofs.Math.Bool.{true, false, cond}
use Rattle.std.proofs.Math.ListN.{length, take, length-take}
use Rattle.std.proofs.Math.Seq.{sets, length-sets}
use Rattle.std.proofs.lemmas.List.Edits.{sets-eq}
use Rattle.std.proofs.Math.Dec.{ltb, leb-suc-suc}
use borrow.Author.Tests.{lt-ltb, le-ltb, ltb-true, ltb-false}
use Rattle.std.proofs.Math.Nat.{sub-zero, div-le_self}
use Rattle.refusal.specs.declared.Refusal.{Refusal}
use Rattle.refusal.specs.declared.Refusal.TheVariants.{BadRow, TableFull}
use Rattle.table.specs.declared.Filled.{Filled}
use Rattle.table.specs.Numbers.{numbers_in, rest_of}
use Rattle.table.specs.NumberLaws.{length-numbers, bytes_back, became-bytes}
use Rattle.table.specs.Kinds.{Kind, FoundOf, nothing, with_first, held_in, Turn, next, none, turn_of, used_in, with_rows, stored_of, with_row, StoredAt, FilledAs, NextOf, kept_of, with_next, KeptAs, FilledBytes, no_more}

-- ---- numbers stored one after another

pub sets-append : (vs ws t : List ℕ) (i : ℕ) → sets t i (vs ++ ws) ≡ sets (sets t i vs) (i + length vs) ws
sets-append [] ws t i = rw (add-zero i)
sets-append (v ∷ vs) ws t i = sets-append vs ws (set t i v) (suc i) ∙ ap (λ (k : ℕ). sets (sets (set t i v) (suc i) vs) k ws) q
  where
    q : suc i + length vs ≡ i + length (v ∷ vs)
    q = omega arith

module _ {Row : Type 0} (k : Kind Row) where
  -- ---- words

  -- so many numbers to a row
  pub length-words : (xs : List Row) → length (k.words xs) ≡ length xs * k.size
  length-words [] = omega (arith, ap length k.no_words)
  length-words (x ∷ xs) =
      omega (arith, ap length (k.more-words x xs), length-append (k.words_of x) (k.words xs), k.sized x, length-words xs, suc-mul (length xs) k.size)

  -- a row is inside its table
  pub row_within : (t : List ℕ) (r : ℕ) → r < k.row_count t → r * k.size + k.size ≤ length t
  row_within t r h =
      let m : suc r ≤ length t / k.size = omega (arith, k.counted t) in
      omega (arith, (le-div_iff_mul-le k.some).0 m, suc-mul r k.size)

  -- by how many rows the table has, and how many numbers a row
  pub row_room : (t : List ℕ) (r all words : ℕ) → all ≡ k.row_count t → words ≡ k.size → r < all → r * words + words ≤ length t
  row_room t r all words e s h = rw s (row_within t r (rw e at h))

  -- stores keep the number of rows
  pub row_count-sets : (t : List ℕ) (i : ℕ) (vs : List ℕ) → k.row_count (sets t i vs) ≡ k.row_count t
  row_count-sets t i vs = k.counted (sets t i vs) ∙ ap (λ (n : ℕ). n / k.size) (length-sets t i vs) ∙ sym (k.counted t)

  -- ---- some rows in rows n, n + 1, ..

  module _ (t : List ℕ) (n : ℕ) where
    pub rows_none : with_rows k t n [] ≡ t
    rows_none = ap (sets t (n * k.size)) k.no_words

    pub row_count-rows : (xs : List Row) → k.row_count (with_rows k t n xs) ≡ k.row_count t
    row_count-rows xs = row_count-sets t (n * k.size) (k.words xs)

    -- one row, then those behind it
    pub rows-onward : (x : Row) (xs : List Row) → n < k.row_count t → with_rows k (with_row k t n x) (n + 1) xs ≡ with_rows k t n (x ∷ xs)
    unfolding with_row
    rows-onward x xs h =
        rw (lt-ltb _ _ h)
        (ap (λ (i : ℕ). sets (sets t (n * k.size) (k.words_of x)) i (k.words xs)) q
        ∙ sym (sets-append (k.words_of x) (k.words xs) t (n * k.size))
        ∙ ap (sets t (n * k.size)) (sym (k.more-words x xs)))
      where
        q : (n + 1) * k.size ≡ n * k.size + length (k.words_of x)
        q = rw (add-one n, k.sized x) (suc-mul n k.size)

  -- ---- a row in one row

  module _ (t : List ℕ) (r : ℕ) where
    -- with a row r, and without
    pub with-row : (x : Row) → r < k.row_count t → with_row k t r x ≡ with_rows k t r (x ∷ [])
    unfolding with_row
    with-row x h = rw (lt-ltb _ _ h) (ap (sets t (r * k.size)) (sym (k.more-words x [] ∙ ap (λ (u : List ℕ). k.words_of x ++ u) k.no_words ∙ append-nil (k.words_of x))))

    pub without-row : (x : Row) → k.row_count t ≤ r → with_row k t r x ≡ t
    unfolding with_row
    without-row x h = rw (le-ltb _ _ h)

    pub length-with_row : (x : Row) → length (with_row k t r x) ≡ length t
    unfolding with_row
    length-with_row x = go (ltb r (k.row_count t))
      where
        go : (b : Bool) → length (cond b (sets t (r * k.size) (k.words_of x)) t) ≡ length t
        go true = length-sets t (r * k.size) (k.words_of x)
        go false = refl

    -- the answer, and the table afterwards
    pub stored-kept : (x : Row) → r < k.row_count t → StoredAt k t r x (Ok tt) (sets t (r * k.size) (k.words_of x))
    unfolding stored_of with_row
    stored-kept x h = record { answer = rw (lt-ltb _ _ h); table = rw (lt-ltb _ _ h) }

    pub stored-full : (x : Row) → k.row_count t ≤ r → StoredAt k t r x (Err (TableFull (k.row_count t))) t
    unfolding stored_of with_row
    stored-full x h = record { answer = rw (le-ltb _ _ h); table = rw (le-ltb _ _ h) }

    -- what an answer tells of the table
    pub kept-inside : stored_of k t r ≡ Ok tt → r < k.row_count t
    unfolding stored_of
    kept-inside e = go (ltb r (k.row_count t)) refl e
      where
        go : (b : Bool) → ltb r (k.row_count t) ≡ b → cond {A = Result ⊤ Refusal} b (Ok tt) (Err (TableFull (k.row_count t))) ≡ Ok tt → r < k.row_count t
        go true h q = ltb-true _ _ h
        go false h q = let z : ◌≡◌ {A = ℕ} 0 1 = cc in absurd (omega arith)

    pub full-outside : (f : Refusal) → stored_of k t r ≡ Err f → (k.row_count t ≤ r) × (f ≡ TableFull (k.row_count t))
    unfolding stored_of
    full-outside f e = go (ltb r (k.row_count t)) refl e
      where
        go : (b : Bool) → ltb r (k.row_count t) ≡ b → cond {A = Result ⊤ Refusal} b (Ok tt) (Err (TableFull (k.row_count t))) ≡ Err f
            → (k.row_count t ≤ r) × (f ≡ TableFull (k.row_count t))
        go true h q = let z : ◌≡◌ {A = ℕ} 0 1 = cc in absurd (omega arith)
        go false h q = (ltb-false _ _ h, cc)

-- ---- a row in use

module _ {Row : Type 0} (k : Kind Row) (read : List ℕ → ℕ → Row) (t : List ℕ) (n r all : ℕ) (e : all ≡ k.row_count t) where
  -- the table lacks a row in use; the row is not in use; it is
  pub used-lacking : all < n → Err (BadRow all) ≡ used_in k read t n r
  used-lacking h = rw (e, lt-ltb (k.row_count t) n (rw e at h))

  pub used-unused : n ≤ all → n ≤ r → Err (BadRow r) ≡ used_in k read t n r
  used-unused h m = rw (le-ltb (k.row_count t) n (rw e at h), le-ltb _ _ m)

  pub used-row : n ≤ all → r < n → Ok (r, read t (r * k.size)) ≡ used_in k read t n r
  used-row h m = rw (le-ltb (k.row_count t) n (rw e at h), lt-ltb _ _ m)

-- ---- reading rows back

-- by a reader of the numbers at an index and behind it, which numbers in front only move on, and what it sees of a row
module _ {Row : Type 0} (k : Kind Row) (readAt : List ℕ → ℕ → Row) (seen : Row → Row) (moved : (ws t : List ℕ) (i : ℕ) → readAt (ws ++ t) (length ws + i) ≡ readAt t i)
    (first : (x : Row) (rest : List ℕ) → readAt (k.words_of x ++ rest) 0 ≡ seen x) where
  -- the numbers of row i
  words_row : (d : Row) (xs : List Row) (i : ℕ) (rest : List ℕ) → i < length xs → readAt (k.words xs ++ rest) (i * k.size) ≡ seen (get_or xs i d)
  words_row d [] i rest h = absurd (omega arith)
  words_row d (x ∷ xs) zero rest h = rw (k.more-words x xs, append_assoc, zero-mul k.size) (first x (k.words xs ++ rest))
  words_row d (x ∷ xs) (suc i) rest h =
      rw (k.more-words x xs, append_assoc, q) (moved (k.words_of x) (k.words xs ++ rest) (i * k.size) ∙ words_row d xs i rest (omega arith))
    where
      q : suc i * k.size ≡ length (k.words_of x) + i * k.size
      q = omega (arith, suc-mul i k.size, k.sized x)

  -- row n + i is row i of those that were put in rows n, n + 1, ..
  pub rows-read : (t : List ℕ) (n : ℕ) (d : Row) (xs : List Row) (i : ℕ) → n + length xs ≤ k.row_count t → i < length xs
      → readAt (with_rows k t n xs) ((n + i) * k.size) ≡ seen (get_or xs i d)
  rows-read t n d xs i h m =
      rw (sets-eq (k.words xs) t (n * k.size) fits, append_assoc, q)
      (moved (take (n * k.size) t) (k.words xs ++ rest) (i * k.size) ∙ words_row d xs i rest m)
    where
      rest : List ℕ
      rest = drop (n * k.size + length (k.words xs)) t

      room : (n + length xs) * k.size ≤ length t
      room = (le-div_iff_mul-le k.some).0 (rw (k.counted t) at h)

      fits : n * k.size + length (k.words xs) ≤ length t
      fits = omega (arith, room, length-words k xs, add-mul n (length xs) k.size)

      q : (n + i) * k.size ≡ length (take (n * k.size) t) + i * k.size
      q = omega (arith, length-take-le (n * k.size) t (omega (arith, fits)), add-mul n i k.size)

-- ---- what a table holds

module _ {Row : Type 0} where
  pub held-nothing : (free all : ℕ) (x : Result ⊤ Refusal) → ◌≡◌ {A = FoundOf Row} (held_in free all (nothing x)) (nothing x)
  unfolding held_in
  held-nothing free all x = rw (le-ltb free 0 (omega arith))

  pub held_none : (all : ℕ) (x : Row) (f : FoundOf Row) → held_in 0 all (with_first x f) ≡ nothing (Err (TableFull all))
  unfolding held_in
  held_none all x f = rw (lt-ltb 0 (suc (length f.rows)) (omega arith))

  pub held_first : (free all : ℕ) (x : Row) (f : FoundOf Row) → held_in (suc free) all (with_first x f) ≡ with_first x (held_in free all f)
  unfolding held_in
  held_first free all x f = rw (leb-suc-suc (suc free) (length f.rows)) (go (ltb free (length f.rows)))
    where
      go : (t : Bool) → cond t (record { rows = take (suc free) (x ∷ f.rows); stop = Err (TableFull all) }) (with_first x f)
          ≡ with_first x (cond t (record { rows = take free f.rows; stop = Err (TableFull all) }) f)
      go true = refl
      go false = refl

  -- all is held where there is room
  pub held_all : (free all : ℕ) (f : FoundOf Row) → length f.rows ≤ free → held_in free all f ≡ f
  unfolding held_in
  held_all free all f h = rw (le-ltb free (length f.rows) h)

  -- no more rows are in than the table has
  held-count : (free all : ℕ) (f : FoundOf Row) → length (held_in free all f).rows ≤ free
  unfolding held_in
  held-count free all f = go (ltb free (length f.rows)) refl
    where
      go : (t : Bool) → ltb free (length f.rows) ≡ t → length (cond t (record { rows = take free f.rows; stop = Err (TableFull all) }) f).rows ≤ free
      go true e = omega (arith, length-take free f.rows)
      go false e = ltb-false _ _ e

-- ---- the loop

-- n rows are in, and f is still to come: of all rows of a table t₀, in which f₀ is put
pub record Onward {Row : Type 0} (k : Kind Row) (all : ℕ) (t₀ : List ℕ) (f₀ : FoundOf Row) (n : ℕ) (f : FoundOf Row) (t : List ℕ) : Type 0 where
  pub room : k.row_count t ≡ all
  pub rows : n + length (held_in (all - n) all f).rows ≡ length (held_in all all f₀).rows
  pub stop : (held_in (all - n) all f).stop ≡ (held_in all all f₀).stop
  pub table : with_rows k t n (held_in (all - n) all f).rows ≡ with_rows k t₀ 0 (held_in all all f₀).rows

pub onward-start : {Row : Type 0} {k : Kind Row} (all : ℕ) (t : List ℕ) (f : FoundOf Row) → k.row_count t ≡ all → Onward k all t f 0 f t
onward-start all t f h = record { room = h; rows = rw (sub-zero all) (zero-add _); stop = rw (sub-zero all); table = rw (sub-zero all) }

pub onward-count : {Row : Type 0} {k : Kind Row} (all : ℕ) (t₀ : List ℕ) (f₀ : FoundOf Row) (n : ℕ) (f : FoundOf Row) (t : List ℕ) → Onward k all t₀ f₀ n f t → n ≤ all
onward-count all t₀ f₀ n f t o = omega (arith, o.rows, held-count all all f₀)

-- nor than it has numbers for
pub onward_within : {Row : Type 0} {k : Kind Row} (t₀ : List ℕ) (f₀ : FoundOf Row) (n : ℕ) (f : FoundOf Row) (t : List ℕ) → Onward k (k.row_count t₀) t₀ f₀ n f t
    → (n ≤ length t₀) × (n * k.size ≤ length t₀)
onward_within {k = k} t₀ f₀ n f t o =
    let h : n ≤ length t₀ / k.size = omega (arith, onward-count _ _ _ _ _ _ o, k.counted t₀) in
    (omega (arith, h, div-le_self (length t₀) k.size), (le-div_iff_mul-le k.some).0 h)

-- where there are no more rows, that is no row, and tells why
no_more-none : {A : Type 0} (s : Result ⊤ Refusal) (x : A) → no_more s ≡ Ok (Some x) → ⊥
no_more-none (Ok u) x e = let z : ◌≡◌ {A = ℕ} 0 1 = cc in omega arith
no_more-none (Err f) x e = let z : ◌≡◌ {A = ℕ} 0 1 = cc in omega arith

no_more-same : {A : Type 0} (s u : Result ⊤ Refusal) → ◌≡◌ {A = Result (Option A) Refusal} (no_more s) (no_more u) → s ≡ u
no_more-same (Ok u) (Ok v) e = refl
no_more-same (Ok u) (Err f) e = let z : ◌≡◌ {A = ℕ} 0 1 = cc in absurd (omega arith)
no_more-same (Err f) (Ok u) e = let z : ◌≡◌ {A = ℕ} 0 1 = cc in absurd (omega arith)
no_more-same (Err f) (Err g) e = let m : f ≡ g = cc in ap Err m

module _ {Row : Type 0} {k : Kind Row} (all : ℕ) (t₀ : List ℕ) (f₀ : FoundOf Row) (n : ℕ) (t : List ℕ) where
  told : (f : FoundOf Row) (x : Result ⊤ Refusal) → Onward k all t₀ f₀ n f t → held_in (all - n) all f ≡ nothing x → FilledAs k (held_in all all f₀) t₀ t (record { rows = n; stop = x })
  told f x o e =
      record {
        rows = sym (add-zero n) ∙ (rw e at o.rows);
        stop = rw e at o.stop;
        table = sym (rows_none k t n) ∙ (rw e at o.table);
      }

  -- nothing more comes
  onward-last : (x : Result ⊤ Refusal) → Onward k all t₀ f₀ n (nothing x) t → FilledAs k (held_in all all f₀) t₀ t (record { rows = n; stop = x })
  onward-last x o = told (nothing x) x o (held-nothing (all - n) all x)

  module _ (x : Row) (f : FoundOf Row) (o : Onward k all t₀ f₀ n (with_first x f) t) (t' : List ℕ) (s : t' ≡ with_row k t n x) where
    -- the next row finds no room
    onward-full : k.row_count t ≤ n → FilledAs k (held_in all all f₀) t₀ t' (record { rows = n; stop = Err (TableFull (k.row_count t)) })
    onward-full h =
        let z : all - n ≡ 0 = omega (arith, o.room) in
        let w : t' ≡ t = s ∙ without-row k t n x h in
        rw (w, o.room) (told (with_first x f) (Err (TableFull all)) o (rw z (held_none all x f)))

    -- or is kept
    onward-kept : n < k.row_count t → Onward k all t₀ f₀ (n + 1) f t'
    onward-kept h =
        let z : all - n ≡ suc (all - (n + 1)) = omega (arith, o.room) in
        let m : held_in (all - n) all (with_first x f) ≡ with_first x (held_in (all - (n + 1)) all f) = rw z (held_first (all - (n + 1)) all x f) in
        record {
          room = ap k.row_count (s ∙ with-row k t n x h) ∙ row_count-rows k t n (x ∷ []) ∙ o.room;
          rows = omega (arith, ap length (ap (λ (u : FoundOf Row). u.rows) m), o.rows);
          stop = sym (ap (λ (u : FoundOf Row). u.stop) m) ∙ o.stop;
          table =
              ap (λ (u : List ℕ). with_rows k u (n + 1) (held_in (all - (n + 1)) all f).rows) s
              ∙ rows-onward k t n x (held_in (all - (n + 1)) all f).rows h
              ∙ sym (ap (λ (u : FoundOf Row). with_rows k t n u.rows) m)
              ∙ o.table;
        }

  -- a turn that puts the next of the rows that are still to come in row n
  module _ (here : FoundOf Row) (behind : ℕ → FoundOf Row) (at end : ℕ) (x : Turn Row) (c : NextOf k here behind at end x) (o : Onward k all t₀ f₀ n here t) (a : Result (Option ℕ) Refusal) (t' : List ℕ) (q : KeptAs k t n x a t') where
    answered : (z : Turn Row) → x ≡ z → a ≡ kept_of k t n z
    answered z h = q.answer ∙ ap (kept_of k t n) h

    left : (z : Turn Row) → x ≡ z → t' ≡ with_next k t n z
    left z h = q.table ∙ ap (with_next k t n) h

    -- it goes on, and the place moves on
    pub turn_on : (b : ℕ) → a ≡ Ok (Some b) → Onward k all t₀ f₀ (n + 1) (behind b) t' × (at < end) × (at < b)
    unfolding kept_of with_next
    turn_on b e = go x refl
      where
        row : (y : Row) (d : ℕ) → x ≡ next y d → (v : Bool) → ltb n (k.row_count t) ≡ v → cond v (Ok (Some d)) (no_more (Err (TableFull (k.row_count t)))) ≡ Ok (Some b)
            → Onward k all t₀ f₀ (n + 1) (behind b) t' × (at < end) × (at < b)
        row y d h true v w =
            let m : d ≡ b = cc in
            let r = c.row y d h in
            rw (← m) (onward-kept y (behind d) (rw r.0 at o) t' (left (next y d) h) (ltb-true _ _ v), r.1, r.2)
        row y d h false v w = let z : ◌≡◌ {A = ℕ} 0 1 = cc in absurd (omega arith)

        go : (z : Turn Row) → x ≡ z → Onward k all t₀ f₀ (n + 1) (behind b) t' × (at < end) × (at < b)
        go (next y d) h = row y d h (ltb n (k.row_count t)) refl (sym (answered (next y d) h) ∙ e)
        go (none s) h = absurd (no_more-none s b (sym (answered (none s) h) ∙ e))

    -- it stops, and the table is filled
    pub turn-stops : (s : Result ⊤ Refusal) → a ≡ no_more s → FilledAs k (held_in all all f₀) t₀ t' (record { rows = n; stop = s })
    unfolding kept_of with_next
    turn-stops s e = go x refl
      where
        row : (y : Row) (d : ℕ) → x ≡ next y d → (v : Bool) → ltb n (k.row_count t) ≡ v → cond v (Ok (Some d)) (no_more (Err (TableFull (k.row_count t)))) ≡ no_more s
            → FilledAs k (held_in all all f₀) t₀ t' (record { rows = n; stop = s })
        row y d h true v w = absurd (no_more-none s d (sym w))
        row y d h false v w =
            let m : Err (TableFull (k.row_count t)) ≡ s = no_more-same _ s w in
            rw (← m) (onward-full y (behind d) (rw (c.row y d h).0 at o) t' (left (next y d) h) (ltb-false _ _ v))

        go : (z : Turn Row) → x ≡ z → FilledAs k (held_in all all f₀) t₀ t' (record { rows = n; stop = s })
        go (next y d) h = row y d h (ltb n (k.row_count t)) refl (sym (answered (next y d) h) ∙ e)
        go (none u) h =
            let w : no_more u ≡ no_more s = sym (answered (none u) h) ∙ e in
            let m : u ≡ s = no_more-same u s w in
            rw (left (none u) h, ← m) (onward-last u (rw (c.stop u h) at o))

-- ---- the next row

module _ {Row : Type 0} {k : Kind Row} (here : FoundOf Row) (behind : ℕ → FoundOf Row) (at end : ℕ) where
  pub next_row : (y : Row) (b : ℕ) → (here ≡ with_first y (behind b)) × (at < end) × (at < b) → NextOf k here behind at end (next y b)
  next_row y b h =
      record {
        row = λ z d e. (let p : y ≡ z = cc in let q : b ≡ d = cc in rw (← p, ← q) h);
        stop = λ s e. (let z : ◌≡◌ {A = ℕ} 0 1 = cc in absurd (omega arith));
      }

  pub next-stop : (s : Result ⊤ Refusal) → here ≡ nothing s → NextOf k here behind at end (none s)
  next-stop s h = record { row = λ z d e. (let z : ◌≡◌ {A = ℕ} 0 1 = cc in absurd (omega arith)); stop = λ u e. (let p : s ≡ u = cc in rw (← p) h) }

-- ---- one turn, by what storing tells

module _ {Row : Type 0} {k : Kind Row} (t : List ℕ) (n : ℕ) (x : Turn Row) where
  pub kept-stop : (s : Result ⊤ Refusal) → x ≡ none s → KeptAs k t n x (no_more s) t
  unfolding kept_of with_next
  kept-stop s h = record { answer = rw h; table = rw h }

  module _ (y : Row) (b : ℕ) (h : x ≡ next y b) (a : Result ⊤ Refusal) (t' : List ℕ) (s : StoredAt k t n y a t') where
    pub kept_on : a ≡ Ok tt → KeptAs k t n x (Ok (Some b)) t'
    unfolding kept_of with_next
    kept_on e = record { answer = rw (h, lt-ltb _ _ (kept-inside k t n (sym s.answer ∙ e))); table = rw h s.table }

    pub kept_full : (f : Refusal) → a ≡ Err f → KeptAs k t n x (no_more (Err f)) t'
    unfolding kept_of with_next
    kept_full f e = let m = full-outside k t n f (sym s.answer ∙ e) in record { answer = rw (h, le-ltb _ _ m.0, m.1); table = rw h s.table }

-- where a turn goes on, it does behind the next row
pub kept-next : {Row : Type 0} {k : Kind Row} (t : List ℕ) (n : ℕ) (x : Result (Option (Row × ℕ)) Refusal) (a : Result (Option ℕ) Refusal) (t' : List ℕ)
    → KeptAs k t n (turn_of x) a t' → (b : ℕ) → a ≡ Ok (Some b) → (y : Row) × (x ≡ Ok (Some (y, b)))
unfolding kept_of
kept-next {Row = Row} {k = k} t n (Ok (Some (y, d))) a t' q b e = go (ltb n (k.row_count t)) (sym q.answer ∙ e)
  where
    go : (v : Bool) → cond v (Ok (Some d)) (no_more (Err (TableFull (k.row_count t)))) ≡ Ok (Some b) → (z : Row) × ◌≡◌ {A = Result (Option (Row × ℕ)) Refusal} (Ok (Some (y, d))) (Ok (Some (z, b)))
    go true w = let m : d ≡ b = cc in (y, rw m)
    go false w = let z : ◌≡◌ {A = ℕ} 0 1 = cc in absurd (omega arith)
kept-next t n (Ok None) a t' q b e = absurd (no_more-none (Ok tt) b (sym q.answer ∙ e))
kept-next t n (Err f) a t' q b e = absurd (no_more-none (Err f) b (sym q.answer ∙ e))

-- no row at all
pub filled_none : {Row : Type 0} {k : Kind Row} (t : List ℕ) (x : Result ⊤ Refusal) → FilledAs k (nothing x) t t (record { rows = 0; stop = x })
filled_none {k = k} t x = record { rows = refl; stop = refl; table = sym (rows_none k t 0) }

-- ---- a table that is lent as bytes

-- a row that a table has is inside its numbers
pub record Inside {Row : Type 0} (k : Kind Row) (t : List ℕ) (r : ℕ) : Type 0 where
  pub row : r * k.size + k.size ≤ length (numbers_in t)
  pub numbers : length (numbers_in t) ≡ length t / 8

pub row_inside : {Row : Type 0} (k : Kind Row) (t : List ℕ) (r m : ℕ) → m ≡ k.row_count (numbers_in t) → r < m → Inside k t r
row_inside k t r m e h = record { row = row_within k (numbers_in t) r (rw e at h); numbers = length-numbers t }

-- a table is filled, by its numbers and its rest
pub record FilledRows {Row : Type 0} (k : Kind Row) (f : FoundOf Row) (before after : List ℕ) (r : Filled) : Type 0 where
  pub filled : FilledAs k f (numbers_in before) (numbers_in after) r
  pub rest : rest_of after ≡ rest_of before

-- what a table with all its rows free holds of some rows
abbrev pub held_by : {Row : Type 0} (k : Kind Row) → List ℕ → FoundOf Row → FoundOf Row
held_by k t f = held_in (k.row_count (numbers_in t)) (k.row_count (numbers_in t)) f

-- what is known by numbers and rest is known to the byte
pub filled-bytes : {Row : Type 0} {k : Kind Row} (f : FoundOf Row) (t a : List ℕ) (r : Filled) → FilledRows k f t a r → ((i : ℕ) → get_or a i 0 < 256) → FilledBytes k f t a r
filled-bytes f t a r h m = record { filled = h.filled; bytes = became-bytes t (numbers_in a) a (record { numbers = refl; rest = h.rest }) m }

-- no row at all
pub filled-nothing : {Row : Type 0} {k : Kind Row} (t : List ℕ) (x : Result ⊤ Refusal) → ((i : ℕ) → get_or t i 0 < 256) → FilledBytes k (nothing x) t t (record { rows = 0; stop = x })
filled-nothing t x m = record { filled = filled_none (numbers_in t) x; bytes = bytes_back t m }
