-- What the exact read depends on, for those who build on it. It gives bytes exactly if the region is readable; they are those at the
-- offsets of its bases, and no other byte matters. Of a record's numbers only its length and the places of its bases matter.
use Rattle.std.specs.Prelude.{ℕ, suc, ◌+◌, ◌-◌, ◌≤◌, ◌<◌, ◌≡◌, ◌⊎◌, List, [], ◌∷◌, ◌++◌, map, Bool, length, drop, get_or, ltb, Option, Some, Result, Ok, Err}
use Rattle.std.proofs.Math.Path.{refl, ap, sym}
use Rattle.std.proofs.Common.{◌∙◌, ⊎_elim, ext_get_or, arith}
use Rattle.std.proofs.Math.Logic.{inl, inr}
use Rattle.std.proofs.Math.Bool.{true, false, cond}
use Rattle.record.specs.declared.Position.{Position}
use borrow.Author.Tests.{ltb-false, le-ltb, ne_eqb}
use Rattle.refusal.specs.declared.Refusal.{Refusal}
use Rattle.refusal.specs.declared.Refusal.TheVariants.{NoRoom, BadBounds, PastLength, NotInFile}
use Rattle.record.specs.declared.Record.{Record}
use Rattle.record.specs.Place.{place_in}
use Rattle.record.specs.Laws.{get_or-places}
use Rattle.output.specs.Outcome.{Outcome, leaves, refuses}
use Rattle.region.specs.Region.{is_zero, crossed, bad_bounds, bounded_row, start_of, end_of, bases_to}
use Rattle.region.specs.Exact.{offsets_of, in_file, past_length, bytes_at, bases_from, region_of, exact_in, exact_of}
use Rattle.region.specs.Inside.{length-offsets, inside-each, inside-every}
use Rattle.region.specs.Laws.{good-bounds, within-length, past-none, bases-read, region-within}

-- ---- some offsets, by each of them

pub map_same : (f g : ℕ → ℕ) (os : List ℕ) → ((k : ℕ) → k < length os → f (get_or os k 0) ≡ g (get_or os k 0)) → map f os ≡ map g os
map_same f g [] h = refl
map_same f g (o ∷ os) h = let r : map f os ≡ map g os = map_same f g os (λ k m. h (suc k) (omega arith)) in rw (h 0 (omega arith), r)

-- the offsets of a region are those of its bases
module _ (x : Record) (a e : ℕ) (z : 0 < a) (l : a ≤ e) where
  pub offset_at : (k : ℕ) → k < bases_to a e → get_or (offsets_of x a (bases_to a e)) k 0 ≡ place_in x (a + k - 1)
  offset_at k h = get_or-places x.position.0 x.line_bases x.line_width (a - 1) (bases_to a e) k h ∙ ap (place_in x) q
    where
      q : a - 1 + k ≡ a + k - 1
      q = omega arith

  -- what holds of each of its bases holds of each offset
  each-offset : (P : ℕ → Type 0) → ((p : ℕ) → a ≤ p → p ≤ e → P (place_in x (p - 1))) → (k : ℕ) → k < length (offsets_of x a (bases_to a e)) → P (get_or (offsets_of x a (bases_to a e)) k 0)
  each-offset P h k m =
      let n : k < bases_to a e = rw (length-offsets x a (bases_to a e)) at m in
      rw (offset_at k n) (h (a + k) (omega arith) (omega arith))

  -- and the other way
  offset-each : (P : ℕ → Type 0) → ((k : ℕ) → k < length (offsets_of x a (bases_to a e)) → P (get_or (offsets_of x a (bases_to a e)) k 0)) → (p : ℕ) → a ≤ p → p ≤ e → P (place_in x (p - 1))
  offset-each P h p m n =
      let k : p - a < bases_to a e = omega arith in
      let q : get_or (offsets_of x a (bases_to a e)) (p - a) 0 ≡ place_in x (p - 1) = offset_at (p - a) k ∙ ap (λ (i : ℕ). place_in x (i - 1)) (back p m) in
      rw q at (h (p - a) (rw (length-offsets x a (bases_to a e)) k))
    where
      back : (p : ℕ) → a ≤ p → a + (p - a) ≡ p
      back p m = omega arith

-- ---- readable regions

-- the offsets of a region of a record, and how many
abbrev pub region_offsets : Record → Option Position → Option Position → List ℕ
region_offsets x a e = offsets_of x (start_of a) (bases_to (start_of a) (end_of x.length e))

abbrev pub region_count : Record → Option Position → Option Position → ℕ
region_count x a e = bases_to (start_of a) (end_of x.length e)

-- base number p of a record is one of a region
pub record InRegion (x : Record) (a e : Option Position) (p : ℕ) : Type 0 where
  pub from_one : 0 < p
  pub from : start_of a ≤ p
  pub to : p ≤ end_of x.length e
  pub within : p ≤ x.length

-- a region of a record can be read from a file of so many bytes into an output of so many
pub record Readable (bytes : ℕ) (x : Record) (a e : Option Position) (free : ℕ) : Type 0 where
  pub bounds : bad_bounds a e ≡ false
  pub start : start_of a ≤ x.length
  pub end : end_of x.length e ≤ x.length
  pub room : region_count x a e ≤ free
  pub inside : (p : ℕ) → start_of a ≤ p → p ≤ end_of x.length e → place_in x (p - 1) < bytes

-- by two numbers
pub readable-given : (bytes : ℕ) (x : Record) (a e free : ℕ) → 0 < a → a ≤ e → e ≤ x.length → bases_to a e ≤ free
    → ((p : ℕ) → a ≤ p → p ≤ e → place_in x (p - 1) < bytes) → Readable bytes x (Some (record { 0 = a })) (Some (record { 0 = e })) free
unfolding bad_bounds is_zero crossed start_of end_of
readable-given bytes x a e free z l m r h =
    record { bounds = rw (ne_eqb a 0 (λ q. omega arith), ne_eqb e 0 (λ q. omega arith), le-ltb _ _ l); start = omega arith; end = m; room = r; inside = h }

module _ (bytes : ℕ) (byte : ℕ → ℕ) (x : Record) (a e : Option Position) (out : List ℕ) where
  pub exact-region : bad_bounds a e ≡ false → exact_of bytes byte (Ok x) a e out ≡ region_of bytes byte x (start_of a) (end_of x.length e) out
  unfolding exact_of exact_in bounded_row
  exact-region b = rw b

  -- a readable region is read: the bytes at the offsets of its bases stand at the front of the output, and the bytes behind them stay
  pub exact-reads : Readable bytes x a e (length out) → exact_of bytes byte (Ok x) a e out ≡ leaves (Ok (region_count x a e)) (map byte (region_offsets x a e) ++ drop (region_count x a e) out)
  exact-reads r =
      exact-region r.bounds
      ∙ sym (region-within bytes byte x (start_of a) (end_of x.length e) out (past-none _ _ _ r.start r.end))
      ∙ sym (bases-read bytes byte x (start_of a) (region_count x a e) out r.room _ refl all)
    where
      order : (0 < start_of a) × (start_of a ≤ end_of x.length e)
      order = let b = good-bounds a e x.length r.bounds in (b.from_one, b.in_order r.start)

      all : region_count x a e ≤ in_file bytes (region_offsets x a e)
      all = rw (length-offsets x (start_of a) (region_count x a e)) at (inside-every bytes (region_offsets x a e) (each-offset x (start_of a) (end_of x.length e) order.0 order.1 (λ o. o < bytes) r.inside))

-- ---- a read is refused, whatever the bytes are, or the row is held and its region readable

pub record Refusing (bytes : ℕ) (h : Result Record Refusal) (a e : Option Position) (out : List ℕ) : Type 0 where
  pub refusal : Refusal
  pub always : (byte : ℕ → ℕ) → exact_of bytes byte h a e out ≡ leaves (Err refusal) out

pub record Reading (bytes : ℕ) (h : Result Record Refusal) (a e : Option Position) (out : List ℕ) : Type 0 where
  pub row : Record
  pub holds : h ≡ Ok row
  pub readable : Readable bytes row a e (length out)

module _ (bytes : ℕ) (x : Record) (a e : Option Position) (out : List ℕ) (b : bad_bounds a e ≡ false) where
  row-either : Refusing bytes (Ok x) a e out ⊎ Reading bytes (Ok x) a e out
  row-either = go (past_length x.length (start_of a) (end_of x.length e)) refl (ltb (length out) (region_count x a e)) refl (ltb (in_file bytes (region_offsets x a e)) (length (region_offsets x a e))) refl
    where
      go : (p : Bool) → past_length x.length (start_of a) (end_of x.length e) ≡ p → (r : Bool) → ltb (length out) (region_count x a e) ≡ r
          → (i : Bool) → ltb (in_file bytes (region_offsets x a e)) (length (region_offsets x a e)) ≡ i → Refusing bytes (Ok x) a e out ⊎ Reading bytes (Ok x) a e out
      go true hp r hr i hi = inl (record { refusal = PastLength x.length; always = λ byte. exact-region bytes byte x a e out b ∙ (unfold region_of in rw hp) })
      go false hp true hr i hi = inl (record { refusal = NoRoom (region_count x a e); always = λ byte. exact-region bytes byte x a e out b ∙ (unfold region_of bases_from in rw (hp, hr)) })
      go false hp false hr true hi =
          inl (record { refusal = NotInFile (start_of a + in_file bytes (region_offsets x a e)); always = λ byte. exact-region bytes byte x a e out b ∙ (unfold region_of bases_from bytes_at in rw (hp, hr, hi)) })
      go false hp false hr false hi =
          let w = within-length _ _ _ hp in
          let g = good-bounds a e x.length b in
          inr (record {
            row = x;
            holds = refl;
            readable = record {
              bounds = b;
              start = w.0;
              end = w.1;
              room = ltb-false _ _ hr;
              inside = offset-each x (start_of a) (end_of x.length e) g.from_one (g.in_order w.0) (λ o. o < bytes) (inside-each bytes (region_offsets x a e) (ltb-false _ _ hi));
            };
          })

pub exact-either : (bytes : ℕ) (h : Result Record Refusal) (a e : Option Position) (out : List ℕ) → Refusing bytes h a e out ⊎ Reading bytes h a e out
exact-either bytes h a e out = go (bad_bounds a e) refl h
  where
    go : (t : Bool) → bad_bounds a e ≡ t → (h : Result Record Refusal) → Refusing bytes h a e out ⊎ Reading bytes h a e out
    go true b h = inl (record { refusal = BadBounds; always = λ byte. unfold exact_of exact_in bounded_row in rw b })
    go false b (Err f) = inl (record { refusal = f; always = λ byte. unfold exact_of exact_in bounded_row in rw b })
    go false b (Ok x) = row-either bytes x a e out b

-- what is known of a read that gave k bytes
pub record ReadAs (bytes : ℕ) (byte : ℕ → ℕ) (h : Result Record Refusal) (a e : Option Position) (out : List ℕ) (k : ℕ) : Type 0 where
  pub row : Record
  pub holds : h ≡ Ok row
  pub readable : Readable bytes row a e (length out)
  pub count : k ≡ region_count row a e
  pub output : (exact_of bytes byte h a e out).output ≡ map byte (region_offsets row a e) ++ drop k out

bytes_same : {k n : ℕ} → ◌≡◌ {A = Result ℕ Refusal} (Ok k) (Ok n) → k ≡ n
bytes_same h = cc

module _ (bytes : ℕ) (h : Result Record Refusal) (a e : Option Position) (out : List ℕ) where
  pub exact-known : (byte : ℕ → ℕ) (k : ℕ) → (exact_of bytes byte h a e out).answer ≡ Ok k → ReadAs bytes byte h a e out k
  exact-known byte k q = ⊎_elim none some (exact-either bytes h a e out)
    where
      none : Refusing bytes h a e out → ReadAs bytes byte h a e out k
      none r =
          let n : Err r.refusal ≡ Ok k = sym (ap (λ (o : Outcome (Result ℕ Refusal)). o.answer) (r.always byte)) ∙ q in
          let z : ◌≡◌ {A = ℕ} 0 1 = cc in
          absurd (omega arith)

      some : Reading bytes h a e out → ReadAs bytes byte h a e out k
      some r =
          let w = ap (λ (y : Result Record Refusal). exact_of bytes byte y a e out) r.holds ∙ exact-reads bytes byte r.row a e out r.readable in
          let n : k ≡ region_count r.row a e = bytes_same (sym q ∙ ap (λ (o : Outcome (Result ℕ Refusal)). o.answer) w) in
          record { row = r.row; holds = r.holds; readable = r.readable; count = n; output = rw n (ap (λ (o : Outcome (Result ℕ Refusal)). o.output) w) }

  module _ (f g : ℕ → ℕ) where
    -- the answer does not depend on the bytes
    pub exact-answer : (exact_of bytes f h a e out).answer ≡ (exact_of bytes g h a e out).answer
    exact-answer = ⊎_elim (λ r. ap (λ (o : Outcome (Result ℕ Refusal)). o.answer) (r.always f ∙ sym (r.always g))) some (exact-either bytes h a e out)
      where
        some : Reading bytes h a e out → (exact_of bytes f h a e out).answer ≡ (exact_of bytes g h a e out).answer
        some r = rw (r.holds, exact-reads bytes f r.row a e out r.readable, exact-reads bytes g r.row a e out r.readable)

    -- and the output depends only on those at the offsets of the region's bases, which are in the file
    pub exact_same : ((x : Record) → h ≡ Ok x → (p : ℕ) → InRegion x a e p → place_in x (p - 1) < bytes → f (place_in x (p - 1)) ≡ g (place_in x (p - 1)))
        → exact_of bytes f h a e out ≡ exact_of bytes g h a e out
    exact_same s = ⊎_elim (λ r. r.always f ∙ sym (r.always g)) some (exact-either bytes h a e out)
      where
        some : Reading bytes h a e out → exact_of bytes f h a e out ≡ exact_of bytes g h a e out
        some r =
            let x = r.row in
            let k = r.readable in
            let b = good-bounds a e x.length k.bounds in
            let m : map f (region_offsets x a e) ≡ map g (region_offsets x a e) =
            map_same f g (region_offsets x a e)
            (each-offset x (start_of a) (end_of x.length e) b.from_one (b.in_order k.start) (λ o. f o ≡ g o) (λ p l n. s x r.holds p (record { from_one = omega (arith, b.from_one); from = l; to = n; within = omega (arith, k.end) }) (k.inside p l n))) in
            rw (r.holds, exact-reads bytes f x a e out k, exact-reads bytes g x a e out k, m)

-- two records of one length, whose bases lie at the same offsets, are read alike
module _ (bytes : ℕ) (byte : ℕ → ℕ) (x y : Record) (l : x.length ≡ y.length) (s : (i : ℕ) → i < x.length → place_in x i ≡ place_in y i) where
  offsets-alike : (a e : ℕ) → 0 < a → a ≤ e → e ≤ x.length → offsets_of x a (bases_to a e) ≡ offsets_of y a (bases_to a e)
  offsets-alike a e z o h =
      ext_get_or 0 (offsets_of x a (bases_to a e)) (offsets_of y a (bases_to a e)) (length-offsets x a (bases_to a e) ∙ sym (length-offsets y a (bases_to a e))) same
    where
      same : (k : ℕ) → k < length (offsets_of x a (bases_to a e)) → get_or (offsets_of x a (bases_to a e)) k 0 ≡ get_or (offsets_of y a (bases_to a e)) k 0
      same k m =
          let n : k < bases_to a e = rw (length-offsets x a (bases_to a e)) at m in
          offset_at x a e z o k n ∙ s (a + k - 1) (omega arith) ∙ sym (offset_at y a e z o k n)

  region-alike : (a e : ℕ) (out : List ℕ) → 0 < a → (a ≤ x.length → a ≤ e) → region_of bytes byte x a e out ≡ region_of bytes byte y a e out
  unfolding region_of bases_from
  region-alike a e out z o = rw (← l) (go (past_length x.length a e) refl)
    where
      go : (t : Bool) → past_length x.length a e ≡ t
          → cond t (refuses (PastLength x.length) out) (cond (ltb (length out) (bases_to a e)) (refuses (NoRoom (bases_to a e)) out) (bytes_at bytes byte a (offsets_of x a (bases_to a e)) out))
          ≡ cond t (refuses (PastLength x.length) out) (cond (ltb (length out) (bases_to a e)) (refuses (NoRoom (bases_to a e)) out) (bytes_at bytes byte a (offsets_of y a (bases_to a e)) out))
      go true h = refl
      go false h = let w = within-length _ _ _ h in rw (offsets-alike a e z (o w.0) w.1)

  pub exact-alike : (a e : Option Position) (out : List ℕ) → exact_of bytes byte (Ok x) a e out ≡ exact_of bytes byte (Ok y) a e out
  exact-alike a e out = go (bad_bounds a e) refl
    where
      go : (t : Bool) → bad_bounds a e ≡ t → exact_of bytes byte (Ok x) a e out ≡ exact_of bytes byte (Ok y) a e out
      go true b = unfold exact_of exact_in bounded_row in rw b
      go false b =
          let g = good-bounds a e x.length b in
          exact-region bytes byte x a e out b
          ∙ region-alike (start_of a) (end_of x.length e) out g.from_one g.in_order
          ∙ ap (λ (n : ℕ). region_of bytes byte y (start_of a) (end_of n e) out) l
          ∙ sym (exact-region bytes byte y a e out b)
