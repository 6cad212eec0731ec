-- Which refusals a look-up gives, and which a read of the row that was found, apart from 1. A look-up judges every row up to the one that it
-- gives, so the read never meets a bad row.
use Prim.Native.Nat.{ℕ, zero, suc, ◌+◌}
use Rattle.std.proofs.Math.Path.{◌≡◌, refl}
use Rattle.std.specs.Prelude.{List, map, Bool, length, eqb, ltb, Option, Some, None, Result, Ok, Err}
use Rattle.std.proofs.Math.Bool.{true, false, cond}
use Rattle.std.proofs.Common.{arith}
use Rattle.record.specs.declared.Offset.{Offset}
use Rattle.record.specs.declared.Position.{Position}
use Rattle.refusal.specs.Numbers.{over_limit}
use Rattle.refusal.specs.declared.Refusal.{Refusal}
use Rattle.refusal.specs.declared.Refusal.TheVariants.{NoRoom, NameUnknown, BadBounds, PastLength, NotInFile, BadRow}
use Rattle.record.specs.declared.Record.{Record}
use Rattle.record.specs.Place.{address_of}
use Rattle.record.specs.Bases.{byte_at}
use Rattle.table.specs.Rows.{row_count, row_at, no_row, bad_row, used_at, sound_row, held_at, named_in, named_of, named_at}
use Rattle.index.specs.Find.{named, judged, row_from, row_named, row_read}
use Rattle.output.specs.Outcome.{Outcome, refuses, gives, pours}
use Rattle.region.specs.Region.{bad_bounds, bounded_row, start_of, end_of, bases_to}
use Rattle.region.specs.Exact.{offsets_of, in_file, past_length, bytes_at, bases_from, region_of, exact_in, exact_of, exact_held, exact_read}
use Rattle.region.specs.Raw.{scan_to, raw_at, raw_in, raw_of, raw_held, raw_read}

-- the refusals of looking up: 25, 15
pub data OfLookUp : Refusal → Type 0 where
  bad-row : (r : ℕ) → OfLookUp (BadRow r)
  unknown : OfLookUp NameUnknown

-- those of reading a sound row: 16, 17, 14, 18
pub data OfRead : Refusal → Type 0 where
  bad-bounds : OfRead BadBounds
  past-length : (bases : ℕ) → OfRead (PastLength bases)
  no_room : (needed : ℕ) → OfRead (NoRoom needed)
  not-in-file : (base : ℕ) → OfRead (NotInFile base)

-- whatever an outcome refuses is one of these
abbrev pub ReadRefuses : Outcome (Result ℕ Refusal) → Type 0
ReadRefuses o = (f : Refusal) → o.answer ≡ Err f → OfRead f

-- ---- looking up

module _ (bytes : ℕ) (f : Refusal) where
  bad : (k : ℕ) → bad_row k ≡ Err f → OfLookUp f
  bad k q = let e : BadRow k ≡ f = cc in rw (← e) (bad-row k)

  row-refused : (r : ℕ) (x : Record) → named_in bytes r (sound_row r x) ≡ Err f → OfLookUp f
  unfolding named_in sound_row
  row-refused r x h = go (eqb x.line_bases 0) (eqb x.line_width 0) (ltb bytes (x.name_start + x.name_length)) refl (ltb bytes (x.description_start + x.description_length)) refl h
    where
      spans : (l d : Bool) → cond l (bad_row r) (cond d (bad_row r) (Ok x)) ≡ Err f → OfLookUp f
      spans true d q = bad r q
      spans false true q = bad r q
      spans false false q = let z : ◌≡◌ {A = ℕ} 0 1 = cc in absurd (omega arith)

      go : (b w l : Bool) → ltb bytes (x.name_start + x.name_length) ≡ l → (d : Bool) → ltb bytes (x.description_start + x.description_length) ≡ d
          → named_in bytes r (cond b (bad_row r) (cond w (bad_row r) (Ok x))) ≡ Err f → OfLookUp f
      go true w l m d n q = bad r q
      go false true l m d n q = bad r q
      go false false l m d n q = spans l d (rw (m, n) at q)

  named-refused : (t : List ℕ) (n r : ℕ) → named_at t n r bytes ≡ Err f → OfLookUp f
  unfolding named_at named_of used_at
  named-refused t n r h = go (ltb (row_count t) n) (ltb r n) h
    where
      go : (l u : Bool) → named_of bytes (cond l (no_row (row_count t)) (cond u (Ok (r, (row_at t r))) (no_row r))) ≡ Err f → OfLookUp f
      go true u q = bad (row_count t) q
      go false false q = bad r q
      go false true q = row-refused r (row_at t r) q

module _ (names t : List ℕ) (n : ℕ) (name : List ℕ) (f : Refusal) where
  from-refused : (k r : ℕ) → row_from names t n name k r ≡ Err f → OfLookUp f
  unfolding row_from
  from-refused zero r h = let e : NameUnknown ≡ f = cc in rw (← e) unknown
  from-refused (suc k) r h = go (named_at t n r (length names)) refl h (from-refused k (suc r))
    where
      pick : (b : Bool) → cond b (Ok r) (row_from names t n name k (suc r)) ≡ Err f → (row_from names t n name k (suc r) ≡ Err f → OfLookUp f) → OfLookUp f
      pick true q ih = let z : ◌≡◌ {A = ℕ} 0 1 = cc in absurd (omega arith)
      pick false q ih = ih q

      go : (d : Result Record Refusal) → named_at t n r (length names) ≡ d → judged names name r d (row_from names t n name k (suc r)) ≡ Err f
          → (row_from names t n name k (suc r) ≡ Err f → OfLookUp f) → OfLookUp f
      go (Ok x) s q ih = pick (named names x name) q ih
      go (Err g) s q ih = let e : g ≡ f = cc in named-refused (length names) f t n r (rw e at s)

  pub look-up-refuses : over_limit (length names) ≡ false → over_limit (length name) ≡ false → row_read names t n name ≡ Err f → OfLookUp f
  unfolding row_read row_named
  look-up-refuses h k q = from-refused n 0 (rw (h, k) at q)

-- ---- reading a sound row

by-refusal : (g : Refusal) (out : List ℕ) → OfRead g → ReadRefuses (refuses g out)
by-refusal g out p f q = let e : g ≡ f = cc in rw (← e) p

by_bytes : (bs out : List ℕ) → ReadRefuses (gives bs out)
by_bytes bs out f q = let z : ◌≡◌ {A = ℕ} 0 1 = cc in absurd (omega arith)

by-test : (b : Bool) (o p : Outcome (Result ℕ Refusal)) → ReadRefuses o → ReadRefuses p → ReadRefuses (cond b o p)
by-test true o p h k = h
by-test false o p h k = k

pub region-refuses : (bytes : ℕ) (byte : ℕ → ℕ) (x : Record) (a e : ℕ) (out : List ℕ) → ReadRefuses (region_of bytes byte x a e out)
unfolding region_of bases_from bytes_at
region-refuses bytes byte x a e out =
    let n = bases_to a e in
    let os = offsets_of x a n in
    by-test (past_length x.length a e) _ _ (by-refusal (PastLength x.length) out (past-length x.length))
    (by-test (ltb (length out) n) _ _ (by-refusal (NoRoom n) out (no_room n))
    (by-test (ltb (in_file bytes os) (length os)) _ _ (by-refusal (NotInFile (a + in_file bytes os)) out (not-in-file (a + in_file bytes os))) (by_bytes (map byte os) out)))

scan-refuses : (s : List ℕ) (o : Option Offset) (a : ℕ) (e : Option Position) (out : List ℕ) → ReadRefuses (raw_at s o a e out)
unfolding raw_at pours
scan-refuses s None a e out = by-refusal (NotInFile a) out (not-in-file a)
scan-refuses s (Some o) a e out =
    let bs = (scan_to s o.0 a e).bases in
    by-test (ltb (length out) (length bs)) _ _ (by-refusal (NoRoom (length bs)) out (no_room (length bs))) (by_bytes bs out)

module _ (s t : List ℕ) (u r : ℕ) (a e : Option Position) (out : List ℕ) (small : over_limit (length s) ≡ false) (x : Record) (sound : held_at t u r ≡ Ok x) where
  pub exact-refuses : ReadRefuses (exact_read s t u r a e out)
  unfolding exact_read exact_held exact_of exact_in bounded_row
  exact-refuses = rw (small, sound) (go (bad_bounds a e))
    where
      go : (b : Bool) → ReadRefuses (exact_in (length s) (byte_at s) (cond b (Err BadBounds) (Ok x)) a e out)
      go true = by-refusal BadBounds out bad-bounds
      go false = region-refuses (length s) (byte_at s) x (start_of a) (end_of x.length e) out

  pub raw-refuses : ReadRefuses (raw_read s t u r a e out)
  unfolding raw_read raw_held raw_of raw_in bounded_row
  raw-refuses = rw (small, sound) (go (bad_bounds a e))
    where
      go : (b : Bool) → ReadRefuses (raw_in s (cond b (Err BadBounds) (Ok x)) a e out)
      go true = by-refusal BadBounds out bad-bounds
      go false = scan-refuses s (address_of x (record { 0 = start_of a })) (start_of a) e out
