-- Laws of the window read. The code's proofs cite these.
use Rattle.std.specs.Prelude.{ℕ, ◌+◌, ◌-◌, ◌%◌, ◌^◌, ◌≤◌, ◌<◌, min, ◌≡◌, refl, List, ◌++◌, map, Bool, true, false, length, drop, ltb, Option, Result, Ok, Err}
use Rattle.std.proofs.Common.{sym, arith}
use Rattle.std.proofs.Math.ListN.{length-map}
use Rattle.record.specs.declared.Position.{Position}
use borrow.Author.Tests.{ltb-true, ltb-false, lt-ltb, le-ltb}
use Rattle.refusal.specs.Numbers.{over_limit}
use Rattle.refusal.specs.declared.Refusal.{Refusal}
use Rattle.refusal.specs.declared.Refusal.TheVariants.{TooLong, NotInWindow, WindowPastEnd}
use Rattle.record.specs.declared.Record.{Record}
use Rattle.record.specs.Place.{place_in}
use Rattle.output.specs.Outcome.{leaves}
use Rattle.region.specs.Region.{bounded_row, start_of, end_of}
use Rattle.region.specs.Exact.{offsets_of}
use Rattle.region.specs.Inside.{length-offsets, Addressable}
use Rattle.region.specs.Part.{in_part, LieIn}
use Rattle.region.specs.PartLaws.{all_lie, part-file}
use Rattle.region.specs.Copy.{byte_from, Starts}
use Rattle.region.specs.Laws.{within-length}
use Rattle.region.specs.Judge.{in_line, region_judged, Fine, refused-read, fine-read}
use Rattle.region.specs.Window.{unless_refused, seen_at, window_region, window_in, window_of, window_held, needed_by, needed_in, needed_of, needed_held}

-- what a judgement says of n bases from base a on: where the first lies, and how many of them are in its line
pub record Judged-in (x : Record) (a at run n : ℕ) : Type 0 where
  pub bases : Addressable x a n
  pub place : at ≡ place_in x (a - 1)
  pub column : run ≡ min n (x.line_bases - (a - 1) % x.line_bases)

pub within-limit : (n : ℕ) → over_limit n ≡ false → n ≤ 1099511627776
unfolding over_limit
within-limit n h = ltb-false _ _ h

pub past-limit : (n : ℕ) → over_limit n ≡ true → 1099511627776 < n
unfolding over_limit
past-limit n h = ltb-true _ _ h

-- a window passes the end of a file if it begins behind what it leaves of the file
pub window-rest : (bytes m f : ℕ) → m ≤ bytes → ltb (bytes - m) f ≡ ltb bytes (f + m)
window-rest bytes m f h = go (ltb (bytes - m) f) refl
  where
    go : (t : Bool) → ltb (bytes - m) f ≡ t → t ≡ ltb bytes (f + m)
    go true e = sym (lt-ltb bytes (f + m) (omega (arith, ltb-true (bytes - m) f e)))
    go false e = sym (le-ltb bytes (f + m) (omega (arith, ltb-false (bytes - m) f e)))

-- one that does not is within the limit, and begins there
pub window-fits : (bytes m f : ℕ) → over_limit bytes ≡ false → ltb bytes (f + m) ≡ false → (f ≤ 1099511627776) × (m ≤ 1099511627776)
window-fits bytes m f h k = omega (arith, within-limit bytes h, ltb-false bytes (f + m) k)

-- ---- 34, or the bytes

module _ (f : ℕ) (w : List ℕ) (x : Record) (a n : ℕ) (out : List ℕ) (k : ℕ) (e : k ≡ in_part f (f + length w) (offsets_of x a n)) where
  pub seen-outside : k < n → leaves (Err (NotInWindow (a + k))) out ≡ seen_at f w a (offsets_of x a n) out
  unfolding seen_at
  seen-outside h = rw (length-offsets x a n, ← e, lt-ltb _ _ h)

  pub seen_read : n ≤ k → leaves (Ok n) (map (byte_from f w) (offsets_of x a n) ++ drop n out) ≡ seen_at f w a (offsets_of x a n) out
  unfolding seen_at
  seen_read h = rw (length-offsets x a n, ← e, le-ltb _ _ h, length-map (offsets_of x a n) (byte_from f w), length-offsets x a n)

module _ (f : ℕ) (w : List ℕ) (x : Record) (a n k : ℕ) (e : k ≡ in_part f (f + length w) (offsets_of x a n)) where
  -- and a copy can begin
  pub seen-starts : (at run : ℕ) → Judged-in x a at run n → n ≤ k → Starts f w x a n (at - f) run
  seen-starts at run j h =
      let i = all_lie x a n j.bases.from_one f (f + length w) (omega (arith, e)) in
      let q = i.each a (omega arith) (omega (arith, j.bases.some)) in
      record { bases = j.bases; inside = i; place = omega (arith, j.place); column = j.column }

  -- the first base is in the window
  pub seen_first : Addressable x a n → n ≤ k → f ≤ place_in x (a - 1)
  seen_first r h = ((all_lie x a n r.from_one f (f + length w) (omega (arith, e))).each a (omega arith) (omega (arith, r.some))).0

-- ---- a region

-- a region that is refused for the whole file is refused; else the window is judged
module _ (bytes f : ℕ) (w : List ℕ) (x : Record) (a e : ℕ) (out : List ℕ) where
  pub window-refused : (g : Refusal) → region_judged bytes x a e (length out) ≡ Err g → leaves (Err g) out ≡ window_region bytes f w x a e out
  unfolding window_region unless_refused
  window-refused g h = rw (← refused-read bytes (byte_from f w) x a e out g h)

  pub window-fine : (at run n : ℕ) → Fine bytes x a e (length out) at run n → seen_at f w a (offsets_of x a n) out ≡ window_region bytes f w x a e out
  unfolding window_region unless_refused
  window-fine at run n k = rw (← fine-read bytes (byte_from f w) x a e out at run n k, k.count)

-- a region that is fine has bases by the rule
module _ (bytes : ℕ) (x : Record) (a e room at run n : ℕ) (b : 0 < x.line_bases) (w : 0 < x.line_width) (z : 0 < a) (o : a ≤ x.length → a ≤ e) (l : x.length < 2 ^ 64) (k : Fine bytes x a e room at run n) where
  pub fine-bases : Addressable x a n
  fine-bases =
      let p = within-length x.length a e k.past in
      let q : a ≤ e = o p.0 in
      record { some = omega (arith, k.count); some-bases = b; some-width = w; from_one = z; fits = omega (arith, k.count, p.1) }

  pub fine-judged : Judged-in x a at run n
  unfolding in_line
  fine-judged = record { bases = fine-bases; place = k.place; column = k.column }

  -- and they all lie in the file
  pub fine-lie : LieIn 0 bytes x a n
  fine-lie = all_lie x a n z 0 bytes (omega (arith, k.inside, part-file bytes (offsets_of x a n)))

-- and in more
pub lie-more : (f t f' t' : ℕ) (x : Record) (a n : ℕ) → f' ≤ f → t ≤ t' → LieIn f t x a n → LieIn f' t' x a n
lie-more f t f' t' x a n h k l = record { each = λ p u v. let e = l.each p u v in (omega arith, omega arith) }

-- ---- the calls

module _ (bytes : ℕ) (w : List ℕ) (f : ℕ) (h : Result Record Refusal) (a e : Option Position) (out : List ℕ) where
  pub window-long : over_limit (length w) ≡ true → leaves (Err TooLong) out ≡ window_held bytes w f h a e out
  unfolding window_held
  window-long l = rw l

  module _ (l : over_limit (length w) ≡ false) where
    pub length-long : over_limit bytes ≡ true → leaves (Err TooLong) out ≡ window_held bytes w f h a e out
    unfolding window_held
    length-long m = rw (l, m)

    module _ (m : over_limit bytes ≡ false) where
      pub window-past : ltb bytes (f + length w) ≡ true → leaves (Err WindowPastEnd) out ≡ window_held bytes w f h a e out
      unfolding window_held
      window-past p = rw (l, m, p)

      module _ (p : ltb bytes (f + length w) ≡ false) where
        pub window-none : (g : Refusal) → bounded_row a e h ≡ Err g → leaves (Err g) out ≡ window_held bytes w f h a e out
        unfolding window_held window_of window_in
        window-none g q = rw (l, m, p, q)

        pub window-row : (x : Record) → bounded_row a e h ≡ Ok x → window_region bytes f w x (start_of a) (end_of x.length e) out ≡ window_held bytes w f h a e out
        unfolding window_held window_of window_in
        window-row x q = rw (l, m, p, q)

module _ (bytes room : ℕ) (h : Result Record Refusal) (a e : Option Position) where
  pub needed-long : over_limit bytes ≡ true → Err TooLong ≡ needed_held bytes room h a e
  unfolding needed_held
  needed-long l = rw l

  module _ (l : over_limit bytes ≡ false) where
    pub needed-none : (g : Refusal) → bounded_row a e h ≡ Err g → Err g ≡ needed_held bytes room h a e
    unfolding needed_held needed_of needed_in
    needed-none g q = rw (l, q)

    pub needed-row : (x : Record) → bounded_row a e h ≡ Ok x → needed_by x (start_of a) (region_judged bytes x (start_of a) (end_of x.length e) room) ≡ needed_held bytes room h a e
    unfolding needed_held needed_of needed_in
    needed-row x q = rw (l, q)
