-- Laws of the rows of a table. Callers go by these and unfold nothing.
use Rattle.std.specs.Prelude.{ℕ, suc, ◌+◌, ◌-◌, ◌*◌, ◌≤◌, ◌<◌, ◌≢◌, ◌⊎◌, List, [], ◌∷◌, ◌++◌, Bool, length, get_or, set, eqb, Result, Ok, Err}
use Rattle.std.proofs.Math.Path.{◌≡◌, refl, ap}
use Rattle.std.proofs.Common.{sym, ◌∙◌, inl, inr, append_assoc, get_or-append-add, get_or-set_other, lit<, arith, zero-add, add_assoc, add-zero}
use Rattle.std.proofs.Math.Bool.{true, false, cond}
use Rattle.std.proofs.lemmas.List.Edits.{sets}
use Rattle.std.proofs.Math.Dec.{ltb}
use borrow.Author.Tests.{lt-ltb, le-ltb, ltb-true, ltb-false, eq-eqb, ne_eqb, eqb-false}
use Rattle.refusal.specs.declared.Refusal.{Refusal}
use Rattle.refusal.specs.declared.Refusal.TheVariants.{TableFull}
use Rattle.record.specs.declared.Record.{Record}
use Rattle.table.specs.KindLaws
use Rattle.table.specs.KindLaws.{sets-append}
use Rattle.table.specs.Rows.{row_words, words_of, words, numbers_at, row_count, row_at, records, with_rows, no_row, used_at, bad_row, sound_row, held_of, named_in, named_of, held_at, named_at, stored_of, with_row, StoredAt}

-- ---- words

-- so many numbers to a record
pub length-words : (xs : List Record) → length (words xs) ≡ length xs * row_words
length-words = KindLaws.length-words records

-- numbers in front move the others on
numbers-shift : (ws t : List ℕ) (i : ℕ) → numbers_at (ws ++ t) (length ws + i) ≡ numbers_at t i
numbers-shift ws t i = simp (add_assoc, get_or-append-add)

-- ---- tables

-- rows stored one after another
words_append : (xs ys : List Record) → words (xs ++ ys) ≡ words xs ++ words ys
unfolding words
words_append [] ys = refl
words_append (x ∷ xs) ys = rw (words_append xs ys) (sym (append_assoc (words_of x) (words xs) (words ys)))

pub rows_append : (t : List ℕ) (n : ℕ) (xs ys : List Record) → with_rows t n (xs ++ ys) ≡ with_rows (with_rows t n xs) (n + length xs) ys
rows_append t n xs ys = rw (words_append xs ys) (sets-append (words xs) (words ys) t (n * row_words) ∙ ap (λ (k : ℕ). sets (with_rows t n xs) k (words ys)) q)
  where
    q : n * row_words + length (words xs) ≡ (n + length xs) * row_words
    q = omega (arith, length-words xs)

-- a number outside of those stored is as it was
pub sets-before : (vs t : List ℕ) (i j : ℕ) → j < i → get_or (sets t i vs) j 0 ≡ get_or t j 0
sets-before [] t i j h = refl
sets-before (v ∷ vs) t i j h = sets-before vs (set t i v) (suc i) j (omega arith) ∙ get_or-set_other t i j v 0 (λ e. omega arith)

pub sets_behind : (vs t : List ℕ) (i j : ℕ) → i + length vs ≤ j → get_or (sets t i vs) j 0 ≡ get_or t j 0
sets_behind [] t i j h = refl
sets_behind (v ∷ vs) t i j h = sets_behind vs (set t i v) (suc i) j (omega arith) ∙ get_or-set_other t i j v 0 (λ e. omega arith)

-- a row is its numbers
pub row-like : (t u : List ℕ) (r s : ℕ) → ((j : ℕ) → j < row_words → get_or t (r * row_words + j) 0 ≡ get_or u (s * row_words + j) 0) → row_at t r ≡ row_at u s
unfolding row_at
row-like t u r s h =
    let z : get_or t (r * row_words) 0 ≡ get_or u (s * row_words) 0 = simp add-zero at (h 0 (lit< tt)) in
    rw (z, h 1 (lit< tt), h 2 (lit< tt), h 3 (lit< tt), h 4 (lit< tt), h 5 (lit< tt), h 6 (lit< tt), h 7 (lit< tt))

-- a row is inside its table
pub row_within : (t : List ℕ) (r : ℕ) → r < row_count t → r * row_words + row_words ≤ length t
row_within = KindLaws.row_within records

-- ---- some records in rows n, n + 1, ..

module _ (t : List ℕ) (n : ℕ) where
  pub rows_none : with_rows t n [] ≡ t
  rows_none = KindLaws.rows_none records t n

  pub row_count-rows : (xs : List Record) → row_count (with_rows t n xs) ≡ row_count t
  row_count-rows = KindLaws.row_count-rows records t n

  -- one row, then those behind it
  pub rows-onward : (x : Record) (xs : List Record) → n < row_count t → with_rows (with_row t n x) (n + 1) xs ≡ with_rows t n (x ∷ xs)
  rows-onward = KindLaws.rows-onward records t n

  -- row n + k is record k
  pub rows-read : (d : Record) (xs : List Record) (k : ℕ) → n + length xs ≤ row_count t → k < length xs → row_at (with_rows t n xs) (n + k) ≡ get_or xs k d
  unfolding row_at words_of
  rows-read = KindLaws.rows-read records numbers_at (λ x. x) numbers-shift (λ x rest. refl) t n

  -- every other row is as it was
  pub rows_other : (xs : List Record) (r : ℕ) → (r < n) ⊎ (n + length xs ≤ r) → row_at (with_rows t n xs) r ≡ row_at t r
  rows_other xs r (inl h) = row-like (with_rows t n xs) t r r (λ j m. sets-before (words xs) t (n * row_words) (r * row_words + j) (omega arith))
  rows_other xs r (inr h) = row-like (with_rows t n xs) t r r (λ j m. sets_behind (words xs) t (n * row_words) (r * row_words + j) (omega (arith, length-words xs)))

-- ---- a record in one row

module _ (t : List ℕ) (r : ℕ) where
  -- with a row r, and without
  pub with-row : (x : Record) → r < row_count t → with_row t r x ≡ with_rows t r (x ∷ [])
  with-row = KindLaws.with-row records t r

  pub without-row : (x : Record) → row_count t ≤ r → with_row t r x ≡ t
  without-row = KindLaws.without-row records t r

  pub length-with_row : (x : Record) → length (with_row t r x) ≡ length t
  length-with_row = KindLaws.length-with_row records t r

  -- the stored row is the record, and every other is as it was
  pub row-stored : (x : Record) → r < row_count t → row_at (with_row t r x) r ≡ x
  row-stored x h = rw (with-row x h) (ap (row_at (with_rows t r (x ∷ []))) (sym (add-zero r)) ∙ rows-read t r x (x ∷ []) 0 (omega arith) (lit< tt))

  pub row_other : (x : Record) (s : ℕ) → s ≢ r → row_at (with_row t r x) s ≡ row_at t s
  row_other x s n = go (ltb r (row_count t)) refl (ltb s r) refl
    where
      go : (b : Bool) → ltb r (row_count t) ≡ b → (l : Bool) → ltb s r ≡ l → row_at (with_row t r x) s ≡ row_at t s
      go true h true m = rw (with-row x (ltb-true _ _ h)) (rows_other t r (x ∷ []) s (inl (ltb-true _ _ m)))
      go true h false m = rw (with-row x (ltb-true _ _ h)) (rows_other t r (x ∷ []) s (inr (omega (arith, ltb-false s r m, n))))
      go false h l m = rw (without-row x (ltb-false _ _ h))

  -- the answer, and the table afterwards
  pub stored-kept : (x : Record) → r < row_count t → StoredAt t r x (Ok tt) (sets t (r * row_words) (words_of x))
  stored-kept = KindLaws.stored-kept records t r

  pub stored-full : (x : Record) → row_count t ≤ r → StoredAt t r x (Err (TableFull (row_count t))) t
  stored-full = KindLaws.stored-full records t r

  -- what an answer tells of the table
  pub kept-inside : stored_of t r ≡ Ok tt → r < row_count t
  kept-inside = KindLaws.kept-inside records t r

  pub full-outside : (f : Refusal) → stored_of t r ≡ Err f → (row_count t ≤ r) × (f ≡ TableFull (row_count t))
  full-outside = KindLaws.full-outside records t r

-- ---- spans

-- a span ends past some bytes: by its start, and by what is left behind its start
module _ (bytes start n : ℕ) where
  pub past-start : bytes < start → true ≡ ltb bytes (start + n)
  past-start h = sym (lt-ltb bytes (start + n) (omega arith))

  pub past_end : start ≤ bytes → ltb (bytes - start) n ≡ ltb bytes (start + n)
  past_end h = go (ltb (bytes - start) n) refl
    where
      go : (t : Bool) → ltb (bytes - start) n ≡ t → t ≡ ltb bytes (start + n)
      go true e = sym (lt-ltb bytes (start + n) (omega (arith, ltb-true (bytes - start) n e)))
      go false e = sym (le-ltb bytes (start + n) (omega (arith, ltb-false (bytes - start) n e)))

-- ---- reading a row

module _ (r : ℕ) (x : Record) where
  -- by its numbers
  pub sound-no-bases : x.line_bases ≡ 0 → bad_row r ≡ sound_row r x
  unfolding sound_row
  sound-no-bases b = rw (eq-eqb _ _ b)

  pub sound-no-width : (x.line_bases ≡ 0 → ⊥) → x.line_width ≡ 0 → bad_row r ≡ sound_row r x
  unfolding sound_row
  sound-no-width b w = rw (ne_eqb _ _ b, eq-eqb _ _ w)

  pub sound-row : (x.line_bases ≡ 0 → ⊥) → (x.line_width ≡ 0 → ⊥) → Ok x ≡ sound_row r x
  unfolding sound_row
  sound-row b w = rw (ne_eqb _ _ b, ne_eqb _ _ w)

  -- by its name and its description
  module _ (bytes : ℕ) where
    pub name-outside : ltb bytes (x.name_start + x.name_length) ≡ true → bad_row r ≡ named_in bytes r (Ok x)
    unfolding named_in
    name-outside h = rw h

    pub description-outside : ltb bytes (x.name_start + x.name_length) ≡ false → ltb bytes (x.description_start + x.description_length) ≡ true
        → bad_row r ≡ named_in bytes r (Ok x)
    unfolding named_in
    description-outside h k = rw (h, k)

    pub spans-inside : ltb bytes (x.name_start + x.name_length) ≡ false → ltb bytes (x.description_start + x.description_length) ≡ false
        → Ok x ≡ named_in bytes r (Ok x)
    unfolding named_in
    spans-inside h k = rw (h, k)

    pub name-inside : x.name_start + x.name_length ≤ bytes → x.description_start + x.description_length ≤ bytes → Ok x ≡ named_in bytes r (Ok x)
    name-inside h k = spans-inside (le-ltb _ _ h) (le-ltb _ _ k)

-- what is known of a row that holds a record
pub record HeldRow (t : List ℕ) (n r : ℕ) (x : Record) : Type 0 where
  pub in_table : n ≤ row_count t
  pub in_use : r < n
  pub numbers : x ≡ row_at t r
  pub some-bases : 0 < x.line_bases
  pub some-width : 0 < x.line_width

-- what is known of a row in use that holds a record
pub record HeldIn (u : Result (ℕ × Record) Refusal) (x : Record) : Type 0 where
  pub row : ℕ
  pub is : u ≡ Ok (row, x)
  pub some-bases : 0 < x.line_bases
  pub some-width : 0 < x.line_width

pub held-of : (u : Result (ℕ × Record) Refusal) (x : Record) → held_of u ≡ Ok x → HeldIn u x
unfolding held_of sound_row
held-of (Err f) x e = let z : ◌≡◌ {A = ℕ} 0 1 = cc in absurd (omega arith)
held-of (Ok (r, y)) x e = go (eqb y.line_bases 0) refl (eqb y.line_width 0) refl e
  where
    go : (b : Bool) → eqb y.line_bases 0 ≡ b → (w : Bool) → eqb y.line_width 0 ≡ w → cond b (bad_row r) (cond w (bad_row r) (Ok y)) ≡ Ok x → HeldIn (Ok (r, y)) x
    go true b w h q = let z : ◌≡◌ {A = ℕ} 0 1 = cc in absurd (omega arith)
    go false b true w q = let z : ◌≡◌ {A = ℕ} 0 1 = cc in absurd (omega arith)
    go false b false w q =
        let m : y ≡ x = cc in
        let nb : y.line_bases ≢ 0 = eqb-false _ _ b in
        let nw : y.line_width ≢ 0 = eqb-false _ _ w in
        rw (← m) (record { row = r; is = refl; some-bases = omega arith; some-width = omega arith })

-- for a call that uses its name, step by step
module _ (bytes : ℕ) (u : Result (ℕ × Record) Refusal) where
  pub named_none : (f : Refusal) → u ≡ Err f → Err f ≡ named_of bytes u
  unfolding named_of
  named_none f e = rw e

  module _ (r : ℕ) (x : Record) (e : u ≡ Ok (r, x)) (d : Result Record Refusal) (s : d ≡ sound_row r x) where
    pub named-bad : (f : Refusal) → d ≡ Err f → Err f ≡ named_of bytes u
    unfolding named_of named_in
    named-bad f q = rw (e, ← s, q)

    pub named-good : (y : Record) → d ≡ Ok y → named_in bytes r (Ok y) ≡ named_of bytes u
    unfolding named_of
    named-good y q = rw (e, ← s, q)

-- by its name: one that has it inside so many bytes is held
module _ (bytes : ℕ) where
  pub named-of : (u : Result (ℕ × Record) Refusal) (x : Record) → named_of bytes u ≡ Ok x → (held_of u ≡ Ok x) × (x.name_start + x.name_length ≤ bytes)
  unfolding named_of named_in held_of
  named-of (Err f) x e = let z : ◌≡◌ {A = ℕ} 0 1 = cc in absurd (omega arith)
  named-of (Ok (r, y)) x e = go (sound_row r y) e
    where
      row : (z : Record) (b : Bool) → ltb bytes (z.name_start + z.name_length) ≡ b → (d : Bool) → cond b (bad_row r) (cond d (bad_row r) (Ok z)) ≡ Ok x
          → ◌≡◌ {A = Result Record Refusal} (Ok z) (Ok x) × (x.name_start + x.name_length ≤ bytes)
      row z true h d q = let z : ◌≡◌ {A = ℕ} 0 1 = cc in absurd (omega arith)
      row z false h true q = let z : ◌≡◌ {A = ℕ} 0 1 = cc in absurd (omega arith)
      row z false h false q =
          let m : z.name_start + z.name_length ≤ bytes = ltb-false _ _ h in
          let e : z ≡ x = cc in
          (q, rw e at m)

      go : (o : Result Record Refusal) → named_in bytes r o ≡ Ok x → (o ≡ Ok x) × (x.name_start + x.name_length ≤ bytes)
      go (Ok z) q = row z (ltb bytes (z.name_start + z.name_length)) refl (ltb bytes (z.description_start + z.description_length)) q
      go (Err f) q = let z : ◌≡◌ {A = ℕ} 0 1 = cc in absurd (omega arith)

module _ (t : List ℕ) (n r : ℕ) where
  -- the table lacks a row in use; the row is not in use; it is
  pub used-lacking : row_count t < n → no_row (row_count t) ≡ used_at t n r
  unfolding used_at
  used-lacking h = rw (lt-ltb _ _ h)

  pub used-unused : n ≤ row_count t → n ≤ r → no_row r ≡ used_at t n r
  unfolding used_at
  used-unused h k = rw (le-ltb _ _ h, le-ltb _ _ k)

  pub used-row : n ≤ row_count t → r < n → Ok (r, row_at t r) ≡ used_at t n r
  unfolding used_at
  used-row h k = rw (le-ltb _ _ h, lt-ltb _ _ k)

  pub held-unused : n ≤ row_count t → n ≤ r → bad_row r ≡ held_at t n r
  unfolding held_at held_of
  held-unused h k = rw (← used-unused h k)

  module _ (h : n ≤ row_count t) (k : r < n) where
    -- a row in use is judged by its numbers
    pub held-numbers : held_at t n r ≡ sound_row r (row_at t r)
    unfolding held_at held_of
    held-numbers = rw (← used-row h k)

    pub held-row : 0 < (row_at t r).line_bases → 0 < (row_at t r).line_width → held_at t n r ≡ Ok (row_at t r)
    held-row b w = held-numbers ∙ sym (sound-row r (row_at t r) (omega arith) (omega arith))

  -- a row in use is row r
  used-known : (s : ℕ) (x : Record) → used_at t n r ≡ Ok (s, x) → (n ≤ row_count t) × (r < n) × (x ≡ row_at t r)
  unfolding used_at
  used-known s x e = go (ltb (row_count t) n) refl (ltb r n) refl e
    where
      go : (l : Bool) → ltb (row_count t) n ≡ l → (u : Bool) → ltb r n ≡ u → cond l (no_row (row_count t)) (cond u (Ok (r, row_at t r)) (no_row r)) ≡ Ok (s, x)
          → (n ≤ row_count t) × (r < n) × (x ≡ row_at t r)
      go true l u h q = let z : ◌≡◌ {A = ℕ} 0 1 = cc in absurd (omega arith)
      go false l false h q = let z : ◌≡◌ {A = ℕ} 0 1 = cc in absurd (omega arith)
      go false l true h q = let p : ◌≡◌ {A = ℕ × Record} (r, row_at t r) (s, x) = cc in (ltb-false _ _ l, ltb-true _ _ h, ap (λ (y : ℕ × Record). y.1) (sym p))

  pub held-known : (x : Record) → held_at t n r ≡ Ok x → HeldRow t n r x
  unfolding held_at
  held-known x e =
      let h = held-of (used_at t n r) x e in
      let k = used-known h.row x h.is in
      record { in_table = k.0; in_use = k.1; numbers = k.2; some-bases = h.some-bases; some-width = h.some-width }

  -- for a call that uses the name
  module _ (bytes : ℕ) where
    pub named-row : (x : Record) → held_at t n r ≡ Ok x → named_at t n r bytes ≡ named_in bytes r (Ok x)
    unfolding held_at named_at used_at held_of named_of
    named-row x e = go (ltb (row_count t) n) (ltb r n) e
      where
        go : (l u : Bool) → held_of (cond l (no_row (row_count t)) (cond u (Ok (r, row_at t r)) (no_row r))) ≡ Ok x
            → named_of bytes (cond l (no_row (row_count t)) (cond u (Ok (r, row_at t r)) (no_row r))) ≡ named_in bytes r (Ok x)
        go true u q = let z : ◌≡◌ {A = ℕ} 0 1 = cc in absurd (omega arith)
        go false false q = let z : ◌≡◌ {A = ℕ} 0 1 = cc in absurd (omega arith)
        go false true q = ap (named_in bytes r) q

    pub named-known : (x : Record) → named_at t n r bytes ≡ Ok x → (held_at t n r ≡ Ok x) × (x.name_start + x.name_length ≤ bytes)
    unfolding held_at named_at
    named-known x e = named-of bytes (used_at t n r) x e

-- rows that were stored from row 0 on are read as they were
pub held-stored : (t : List ℕ) (d : Record) (xs : List Record) (k : ℕ) → length xs ≤ row_count t → k < length xs
    → held_at (with_rows t 0 xs) (length xs) k ≡ sound_row k (get_or xs k d)
held-stored t d xs k h m = held-numbers (with_rows t 0 xs) (length xs) k (rw (row_count-rows t 0 xs) h) m ∙ ap (sound_row k) q
  where
    q : row_at (with_rows t 0 xs) k ≡ get_or xs k d
    q = ap (row_at (with_rows t 0 xs)) (sym (zero-add k)) ∙ rows-read t 0 d xs k (omega arith) m
