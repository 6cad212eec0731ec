-- Laws of the reads: what the bounds say, and what each test says of the outcome. The code's proofs cite these.
use Rattle.std.specs.Prelude.{ℕ, ◌+◌, ◌≤◌, ◌<◌, ◌≡◌, refl, List, ◌++◌, map, Bool, true, cond, ◌||◌, length, drop, eqb, ltb, leb, Option, Some, None, Result, Ok, Err}
use Rattle.std.proofs.Math.Path.{ap}
use Rattle.std.proofs.Common.{◌∙◌, arith}
use Rattle.std.proofs.Math.Bool.{false}
use Rattle.std.proofs.Math.ListN.{length-map}
use Rattle.record.specs.declared.Position.{Position}
use Rattle.lines.specs.declared.Cursor.{Cursor}
use borrow.Author.Tests.{eqb-false, ltb-false, leb-true, leb-false, lt-ltb, le-ltb}
use Rattle.refusal.specs.Numbers.{over_limit}
use Rattle.refusal.specs.declared.Refusal.{Refusal}
use Rattle.refusal.specs.declared.Refusal.TheVariants.{TooLong, NoRoom, BadBounds, PastLength, NotInFile}
use Rattle.record.specs.declared.Record.{Record}
use Rattle.record.specs.declared.Offset.{Offset}
use Rattle.record.specs.Place.{address_of}
use Rattle.record.specs.Bases.{byte_at}
use Rattle.sequence.specs.Scan.{Scan, scan_at, scan_all}
use Rattle.output.specs.Outcome.{Outcome, leaves, refuses, gives, pours}
use Rattle.sequence.specs.Read.{written, poured, scan_into}
use Rattle.region.specs.Region.{is_zero, crossed, bad_bounds, bounded_row, start_of, end_of, bases_to}
use Rattle.region.specs.Exact.{offsets_of, in_file, past_length, bytes_at, bases_from, region_of, exact_in, exact_of, exact_held}
use Rattle.region.specs.Raw.{scan_to, raw_at, raw_of, raw_in, raw_held}
use Rattle.region.specs.Inside.{length-offsets}

-- ---- bounds

-- what is known of bounds that 16 does not refuse, of a record of so many bases
pub record Bounded (a e : Option Position) (bases : ℕ) : Type 0 where
  pub from_one : 0 < start_of a
  pub in_order : start_of a ≤ bases → start_of a ≤ end_of bases e

or-false-left : (a b : Bool) → (a || b) ≡ false → a ≡ false
or-false-left false b h = refl
or-false-left true b h = h

or-false-right : (a b : Bool) → (a || b) ≡ false → b ≡ false
or-false-right false b h = h
or-false-right true b h = let z : ◌≡◌ {A = ℕ} 0 1 = cc in absurd (omega arith)

pub good-bounds : (a e : Option Position) (bases : ℕ) → bad_bounds a e ≡ false → Bounded a e bases
unfolding bad_bounds is_zero crossed start_of end_of
good-bounds None None bases h = record { from_one = omega arith; in_order = λ k. k }
good-bounds None (Some e) bases h =
    let n : e.0 ≡ 0 → ⊥ = eqb-false _ _ (or-false-left (eqb e.0 0) false h) in
    record { from_one = omega arith; in_order = λ k. omega arith }
good-bounds (Some a) None bases h =
    let n : a.0 ≡ 0 → ⊥ = eqb-false _ _ (or-false-left (eqb a.0 0) false h) in
    record { from_one = omega arith; in_order = λ k. k }
good-bounds (Some a) (Some e) bases h =
    let n : a.0 ≡ 0 → ⊥ = eqb-false _ _ (or-false-left (eqb a.0 0) (eqb e.0 0 || ltb e.0 a.0) h) in
    let r : (eqb e.0 0 || ltb e.0 a.0) ≡ false = or-false-right (eqb a.0 0) (eqb e.0 0 || ltb e.0 a.0) h in
    let l : a.0 ≤ e.0 = ltb-false _ _ (or-false-right (eqb e.0 0) (ltb e.0 a.0) r) in
    record { from_one = omega arith; in_order = λ k. l }

-- the row of a region is one that is held, and the bounds are good
pub bounded-known : (a e : Option Position) (h : Result Record Refusal) (x : Record) → bounded_row a e h ≡ Ok x → (bad_bounds a e ≡ false) × (h ≡ Ok x)
unfolding bounded_row
bounded-known a e h x q = go (bad_bounds a e) q
  where
    go : (b : Bool) → cond b (Err BadBounds) h ≡ Ok x → (b ≡ false) × (h ≡ Ok x)
    go true k = let z : ◌≡◌ {A = ℕ} 0 1 = cc in absurd (omega arith)
    go false k = (refl, k)

pub within-length : (bases a e : ℕ) → past_length bases a e ≡ false → (a ≤ bases) × (e ≤ bases)
unfolding past_length
within-length bases a e h =
    (ltb-false _ _ (or-false-left (ltb bases a) (ltb bases e) h), ltb-false _ _ (or-false-right (ltb bases a) (ltb bases e) h))

pub past-none : (bases a e : ℕ) → a ≤ bases → e ≤ bases → past_length bases a e ≡ false
unfolding past_length
past-none bases a e h k = rw (le-ltb _ _ h, le-ltb _ _ k)

-- ---- what each test says of the exact read

module _ (bytes : ℕ) (byte : ℕ → ℕ) where
  module _ (x : Record) (a n : ℕ) (out : List ℕ) where
    pub bases-no-room : length out < n → leaves (Err (NoRoom n)) out ≡ bases_from bytes byte x a n out
    unfolding bases_from
    bases-no-room h = rw (lt-ltb _ _ h)

    module _ (room : n ≤ length out) (k : ℕ) (e : k ≡ in_file bytes (offsets_of x a n)) where
      pub bases-outside : k < n → leaves (Err (NotInFile (a + k))) out ≡ bases_from bytes byte x a n out
      unfolding bases_from bytes_at
      bases-outside h = rw (le-ltb _ _ room, length-offsets x a n, ← e, lt-ltb _ _ h)

      pub bases-read : n ≤ k → leaves (Ok n) (map byte (offsets_of x a n) ++ drop n out) ≡ bases_from bytes byte x a n out
      unfolding bases_from bytes_at
      bases-read h = rw (le-ltb _ _ room, length-offsets x a n, ← e, le-ltb _ _ h, length-map (offsets_of x a n) byte, length-offsets x a n)

  module _ (x : Record) (a e : ℕ) (out : List ℕ) where
    pub region-past : past_length x.length a e ≡ true → leaves (Err (PastLength x.length)) out ≡ region_of bytes byte x a e out
    unfolding region_of
    region-past h = rw h

    pub region-within : past_length x.length a e ≡ false → bases_from bytes byte x a (bases_to a e) out ≡ region_of bytes byte x a e out
    unfolding region_of
    region-within h = rw h

module _ (s : List ℕ) (h : Result Record Refusal) (a e : Option Position) (out : List ℕ) where
  pub exact-long : over_limit (length s) ≡ true → leaves (Err TooLong) out ≡ exact_held s h a e out
  unfolding exact_held
  exact-long l = rw l

  module _ (l : over_limit (length s) ≡ false) where
    pub exact-refused : (f : Refusal) → bounded_row a e h ≡ Err f → leaves (Err f) out ≡ exact_held s h a e out
    unfolding exact_held exact_of exact_in
    exact-refused f q = rw (l, q)

    pub exact-row : (x : Record) → bounded_row a e h ≡ Ok x → region_of (length s) (byte_at s) x (start_of a) (end_of x.length e) out ≡ exact_held s h a e out
    unfolding exact_held exact_of exact_in
    exact-row x q = rw (l, q)

-- ---- and of the raw read

-- how many bases a scan of so many bytes is for, from base a on
unfoldable pub limit_of : ℕ → ℕ → Option Position → ℕ
limit_of bytes a (Some e) = bases_to a e.0
limit_of bytes a None = bytes + 1

scan-limit : (s : List ℕ) (at a : ℕ) (e : Option Position) → scan_at s (limit_of (length s) a e) at ≡ scan_to s at a e
unfolding limit_of scan_to scan_all
scan-limit s at a (Some e) = refl
scan-limit s at a None = refl

-- what a scan leaves, as a region's read
abbrev pub region_read : Result (ℕ × Cursor) Refusal → Result ℕ Refusal
region_read (Ok (n, next)) = Ok n
region_read (Err f) = Err f

abbrev pub region_left : Outcome (Result (ℕ × Cursor) Refusal) → Outcome (Result ℕ Refusal)
region_left l = leaves (region_read l.answer) l.output

left-poured : (c : Scan) (out : List ℕ) → region_left (poured c out) ≡ pours c.bases out
unfolding poured pours
left-poured c out = go (leb (length c.bases) (length out)) refl
  where
    go : (t : Bool) → leb (length c.bases) (length out) ≡ t
        → region_left (cond t (written c out) (leaves (Err (NoRoom (length c.bases))) out))
        ≡ cond (ltb (length out) (length c.bases)) (refuses (NoRoom (length c.bases)) out) (gives c.bases out)
    go true h = unfold written in rw (le-ltb _ _ (leb-true _ _ h))
    go false h = rw (lt-ltb _ _ (leb-false _ _ h))

module _ (s : List ℕ) (at a : ℕ) (e : Option Position) (before out : List ℕ) where
  pub scan-read : (r : Result (ℕ × Cursor) Refusal) → leaves r out ≡ scan_into s (limit_of (length s) a e) at before → leaves (region_read r) out ≡ pours (scan_to s at a e).bases before
  unfolding scan_into
  scan-read r h = ap region_left h ∙ left-poured (scan_at s (limit_of (length s) a e) at) before ∙ ap (λ (c : Scan). pours c.bases before) (scan-limit s at a e)

module _ (s : List ℕ) (x : Record) (a : ℕ) (e : Option Position) (out : List ℕ) where
  pub raw-nowhere : address_of x (record { 0 = a }) ≡ None → leaves (Err (NotInFile a)) out ≡ raw_at s (address_of x (record { 0 = a })) a e out
  unfolding raw_at
  raw-nowhere h = rw h

  pub raw-at : (o : Offset) → address_of x (record { 0 = a }) ≡ Some o → pours (scan_to s o.0 a e).bases out ≡ raw_at s (address_of x (record { 0 = a })) a e out
  unfolding raw_at
  raw-at o h = rw h

module _ (s : List ℕ) (h : Result Record Refusal) (a e : Option Position) (out : List ℕ) where
  pub raw-long : over_limit (length s) ≡ true → leaves (Err TooLong) out ≡ raw_held s h a e out
  unfolding raw_held
  raw-long l = rw l

  module _ (l : over_limit (length s) ≡ false) where
    pub raw-refused : (f : Refusal) → bounded_row a e h ≡ Err f → leaves (Err f) out ≡ raw_held s h a e out
    unfolding raw_held raw_of raw_in
    raw-refused f q = rw (l, q)

    pub raw_row : (x : Record) → bounded_row a e h ≡ Ok x → raw_at s (address_of x (record { 0 = start_of a })) (start_of a) e out ≡ raw_held s h a e out
    unfolding raw_held raw_of raw_in
    raw_row x q = rw (l, q)
