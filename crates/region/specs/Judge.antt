-- Judging a region apart from copying it, by the file's length and the room alone: where its bases lie, or why it can't be read.
use Rattle.std.specs.Prelude.{ℕ, ◌+◌, ◌-◌, ◌%◌, ◌^◌, ◌≤◌, ◌<◌, min, List, ◌++◌, map, Bool, length, drop, Result, Ok, Err}
use Rattle.std.proofs.Math.Path.{◌≡◌, refl, sym}
use Rattle.std.proofs.Common.{ap, ◌∙◌, arith, zero-add}
use Rattle.std.proofs.Math.Bool.{true, false, cond}
use Rattle.std.proofs.Math.Dec.{ltb}
use Rattle.region.specs.declared.exact.Bases.{Bases}
use borrow.Author.Tests.{ltb-true, ltb-false, lt-ltb, le-ltb}
use Rattle.refusal.specs.declared.Refusal.{Refusal}
use Rattle.refusal.specs.declared.Refusal.TheVariants.{NoRoom, PastLength, NotInFile}
use Rattle.record.specs.declared.Record.{Record}
use Rattle.record.specs.Place.{place_in}
use Rattle.output.specs.Outcome.{leaves}
use Rattle.region.specs.Region.{bases_to}
use Rattle.region.specs.Exact.{offsets_of, in_file, past_length, bases_from, region_of}
use Rattle.region.specs.Inside.{length-offsets, inside-le}
use Rattle.region.specs.PartLaws.{all_lie, part-file}
use Rattle.region.specs.Copy.{Starts}
use Rattle.region.specs.Laws.{within-length, bases-no-room, bases-outside, bases-read, region-past, region-within}

-- how many of n bases from base a on are in the first one's line
unfoldable pub in_line : Record → ℕ → ℕ → ℕ
in_line x a n = min n (x.line_bases - (a - 1) % x.line_bases)

-- n bases from base a on: 18 with the first that is not in the file
unfoldable pub places_judged : ℕ → Record → ℕ → ℕ → Result Bases Refusal
places_judged bytes x a n =
    cond (ltb (in_file bytes (offsets_of x a n)) n) (Err (NotInFile (a + in_file bytes (offsets_of x a n)))) (Ok (record { at = (place_in x (a - 1)); run = (in_line x a n); count = n }))

-- 14 before that
unfoldable pub bases_judged : ℕ → Record → ℕ → ℕ → ℕ → Result Bases Refusal
bases_judged bytes x a n room = cond (ltb room n) (Err (NoRoom n)) (places_judged bytes x a n)

-- the bases from a to e: 17 first
unfoldable pub region_judged : ℕ → Record → ℕ → ℕ → ℕ → Result Bases Refusal
region_judged bytes x a e room = cond (past_length x.length a e) (Err (PastLength x.length)) (bases_judged bytes x a (bases_to a e) room)

-- ---- what each test says

module _ (bytes : ℕ) (x : Record) (a : ℕ) where
  module _ (n k : ℕ) (e : k ≡ in_file bytes (offsets_of x a n)) where
    pub places-outside : k < n → Err (NotInFile (a + k)) ≡ places_judged bytes x a n
    unfolding places_judged
    places-outside h = rw (← e, lt-ltb _ _ h)

    pub places-inside : n ≤ k → (at run : ℕ) → at ≡ place_in x (a - 1) → run ≡ in_line x a n → Ok (record { at = at; run = run; count = n }) ≡ places_judged bytes x a n
    unfolding places_judged
    places-inside h at run p q = rw (← e, le-ltb _ _ h, p, q)

  module _ (n room : ℕ) where
    pub room-short : room < n → Err (NoRoom n) ≡ bases_judged bytes x a n room
    unfolding bases_judged
    room-short h = rw (lt-ltb _ _ h)

    pub room-enough : n ≤ room → places_judged bytes x a n ≡ bases_judged bytes x a n room
    unfolding bases_judged
    room-enough h = rw (le-ltb _ _ h)

  module _ (e room : ℕ) where
    pub judged-past : past_length x.length a e ≡ true → Err (PastLength x.length) ≡ region_judged bytes x a e room
    unfolding region_judged
    judged-past h = rw h

    pub judged-within : past_length x.length a e ≡ false → bases_judged bytes x a (bases_to a e) room ≡ region_judged bytes x a e room
    unfolding region_judged
    judged-within h = rw h

-- ---- what a judgement says of the read

-- a region that can be read: all its bases are in the file, and there is room for them
pub record Fine (bytes : ℕ) (x : Record) (a e room at run n : ℕ) : Type 0 where
  pub count : n ≡ bases_to a e
  pub past : past_length x.length a e ≡ false
  pub enough : n ≤ room
  pub inside : in_file bytes (offsets_of x a n) ≡ n
  pub place : at ≡ place_in x (a - 1)
  pub column : run ≡ in_line x a n

refused-same : {f g : Refusal} → ◌≡◌ {A = Result Bases Refusal} (Err f) (Err g) → f ≡ g
refused-same h = cc

module _ (bytes : ℕ) (x : Record) (a e room : ℕ) where
  pub judged-fine : (at run n : ℕ) → region_judged bytes x a e room ≡ Ok (record { at = at; run = run; count = n }) → Fine bytes x a e room at run n
  unfolding region_judged bases_judged places_judged
  judged-fine at run n h =
      go (past_length x.length a e) refl (ltb room (bases_to a e)) refl (ltb (in_file bytes (offsets_of x a (bases_to a e))) (bases_to a e)) refl h
    where
      go : (p : Bool) → past_length x.length a e ≡ p → (r : Bool) → ltb room (bases_to a e) ≡ r
          → (i : Bool) → ltb (in_file bytes (offsets_of x a (bases_to a e))) (bases_to a e) ≡ i
          → cond p (Err (PastLength x.length))
          (cond r (Err (NoRoom (bases_to a e)))
          (cond {A = Result Bases Refusal} i (Err (NotInFile (a + in_file bytes (offsets_of x a (bases_to a e)))))
          (Ok (record { at = (place_in x (a - 1)); run = (in_line x a (bases_to a e)); count = (bases_to a e) }))))
          ≡ Ok (record { at = at; run = run; count = n })
          → Fine bytes x a e room at run n
      go true hp r hr i hi q = let z : ◌≡◌ {A = ℕ} 0 1 = cc in absurd (omega arith)
      go false hp true hr i hi q = let z : ◌≡◌ {A = ℕ} 0 1 = cc in absurd (omega arith)
      go false hp false hr true hi q = let z : ◌≡◌ {A = ℕ} 0 1 = cc in absurd (omega arith)
      go false hp false hr false hi q =
          let b : ◌≡◌ {A = Bases} (record { at = (place_in x (a - 1)); run = (in_line x a (bases_to a e)); count = (bases_to a e) }) (record { at = at; run = run; count = n }) = cc in
          let c : bases_to a e ≡ n = ap (λ (y : Bases). y.count) b in
          let s : place_in x (a - 1) ≡ at = ap (λ (y : Bases). y.at) b in
          let l : in_line x a (bases_to a e) ≡ run = ap (λ (y : Bases). y.run) b in
          let k : in_file bytes (offsets_of x a (bases_to a e)) ≡ bases_to a e = omega (arith, ltb-false (in_file bytes (offsets_of x a (bases_to a e))) (bases_to a e) hi, inside-le bytes (offsets_of x a (bases_to a e)), length-offsets x a (bases_to a e)) in
          record {
            count = sym c;
            past = hp;
            enough = rw c at (ltb-false room (bases_to a e) hr);
            inside = rw c at k;
            place = sym s;
            column = sym (rw c at l);
          }

module _ (bytes : ℕ) (byte : ℕ → ℕ) (x : Record) (a e : ℕ) (out : List ℕ) where
  -- refused by the judgement, refused by the read
  pub refused-read : (f : Refusal) → region_judged bytes x a e (length out) ≡ Err f → leaves (Err f) out ≡ region_of bytes byte x a e out
  unfolding region_judged bases_judged places_judged
  refused-read f h =
      go (past_length x.length a e) refl (ltb (length out) (bases_to a e)) refl (ltb (in_file bytes (offsets_of x a (bases_to a e))) (bases_to a e)) refl h
    where
      go : (p : Bool) → past_length x.length a e ≡ p → (r : Bool) → ltb (length out) (bases_to a e) ≡ r
          → (i : Bool) → ltb (in_file bytes (offsets_of x a (bases_to a e))) (bases_to a e) ≡ i
          → cond p (Err (PastLength x.length))
          (cond r (Err (NoRoom (bases_to a e)))
          (cond {A = Result Bases Refusal} i (Err (NotInFile (a + in_file bytes (offsets_of x a (bases_to a e)))))
          (Ok (record { at = (place_in x (a - 1)); run = (in_line x a (bases_to a e)); count = (bases_to a e) }))))
          ≡ Err f
          → leaves (Err f) out ≡ region_of bytes byte x a e out
      go true hp r hr i hi q = rw (← refused-same q) (region-past bytes byte x a e out hp)
      go false hp true hr i hi q = rw (← refused-same q) (bases-no-room bytes byte x a (bases_to a e) out (ltb-true _ _ hr) ∙ region-within bytes byte x a e out hp)
      go false hp false hr true hi q =
          rw (← refused-same q)
          (bases-outside bytes byte x a (bases_to a e) out (ltb-false _ _ hr) _ refl (ltb-true _ _ hi) ∙ region-within bytes byte x a e out hp)
      go false hp false hr false hi q = let z : ◌≡◌ {A = ℕ} 0 1 = cc in absurd (omega arith)

  -- fine, and read
  pub fine-read : (at run n : ℕ) → Fine bytes x a e (length out) at run n → leaves (Ok n) (map byte (offsets_of x a n) ++ drop n out) ≡ region_of bytes byte x a e out
  fine-read at run n f =
      bases-read bytes byte x a n out f.enough _ refl (omega (arith, f.inside))
      ∙ ap (λ (m : ℕ). bases_from bytes byte x a m out) f.count
      ∙ region-within bytes byte x a e out f.past

-- and a copy can begin
pub fine-starts : (s : List ℕ) (x : Record) (a e room at run n : ℕ) → 0 < x.line_bases → 0 < x.line_width → 0 < a → (a ≤ x.length → a ≤ e) → x.length < 2 ^ 64
    → Fine (length s) x a e room at run n → Starts 0 s x a n at run
unfolding in_line
fine-starts s x a e room at run n b w z o l f =
    let p = within-length x.length a e f.past in
    let q : a ≤ e = o p.0 in
    record {
      bases = record { some = omega (arith, f.count); some-bases = b; some-width = w; from_one = z; fits = omega (arith, f.count, p.1) };
      inside = rw (zero-add (length s)) (all_lie x a n z 0 (length s) (omega (arith, f.inside, part-file (length s) (offsets_of x a n))));
      place = rw (zero-add at) f.place;
      column = f.column;
    }
