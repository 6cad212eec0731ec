-- Laws of one record against its line: each way of the code through them ends with what they say.
use Rattle.std.specs.Prelude.{ℕ, ◌+◌, ◌-◌, ◌≤◌, ◌<◌, Bool, drop, Option, Some, None, Result, Ok, Err, ⊤}
use Rattle.std.proofs.Math.Path.{◌≡◌, refl}
use Rattle.std.proofs.Common.{◌∙◌, drop_of_length-le, arith}
use mathlib.Core.List.{List, [], ◌∷◌}
use Rattle.std.proofs.Math.Bool.{true, false}
use Rattle.std.proofs.Math.ListN.{length}
use Rattle.std.proofs.Math.Dec.{ltb}
use Rattle.std.proofs.Math.Seq.{take-nil}
use Rattle.record.specs.declared.Offset.{Offset}
use borrow.Author.Tests.{eq-eqb, ne_eqb, ltb-true, ltb-false}
use Rattle.refusal.specs.declared.Refusal.{Refusal}
use Rattle.refusal.specs.declared.Refusal.TheVariants.{LineAbsent, LengthDiffers, NameDiffers, BaseElsewhere}
use Rattle.lines.specs.Lines.{part, line_len, line_end, lines}
use Rattle.lines.specs.Laws.{lines_at-cut, part_length, line_end-le, line_end-gt}
use Rattle.lines.specs.Same.{same_bytes}
use Rattle.record.specs.Place.{place_in}
use Rattle.record.specs.declared.Position.{Position}
use Rattle.index_line.specs.IndexLine.{name_in}
use Rattle.walking.specs.Places.{first_elsewhere}
use Rattle.fastq.specs.Parts.{part_of}
use Rattle.fastq.specs.declared.Part.{Part}
use Rattle.fastq.specs.declared.Part.TheVariants.{Bases, Qualities}
use Rattle.fastq.specs.declared.QualityRow.{QualityRow}
use Rattle.fastq_line.specs.SixColumns.{six_line_says}
use Rattle.fastq_line.specs.declared.Entry.{Entry}
use Rattle.checker.specs.Check.{and_then}
use Rattle.checker.specs.Steps.{only_line}
use Rattle.fastq_checker.specs.Check.{places_say, entry_says, line_judged, record_says}
use Rattle.fastq_checker.specs.Elsewhere.{places_of, base_of, apart_of}
use Rattle.fastq_checker.specs.Taken.{Taken}
use Rattle.fastq_checker.specs.Named.{line-named}
use Rattle.fastq_checker.specs.Steps.{part_says_of, parts_say, judged_as}
use Rattle.fastq_checker.specs.declared.Place.{Place}
use Rattle.fastq_checker.specs.declared.Step.TheVariants as step

-- ---- the parts of a record

module _ (n : ℕ) (x y : QualityRow) (p : Part) where
  pub part-never : apart_of (part_of p x) (part_of p y) ≡ None → Ok tt ≡ part_says_of n x y p
  unfolding apart_of part_says_of
  part-never e = go (first_elsewhere (place_in (part_of p y)) 0 (places_of (part_of p x))) e
    where
      go : (v : Option (Position × Offset)) → base_of v ≡ None → Ok tt ≡ places_say n v (Ok tt)
      go None q = refl
      go (Some (a, o)) q = let z : ◌≡◌ {A = ℕ} 0 1 = cc in absurd (omega arith)

  pub part-first : (a : Position) → apart_of (part_of p x) (part_of p y) ≡ Some a → Err (BaseElsewhere n a.0) ≡ part_says_of n x y p
  unfolding apart_of part_says_of
  part-first a e = go (first_elsewhere (place_in (part_of p y)) 0 (places_of (part_of p x))) e
    where
      go : (v : Option (Position × Offset)) → base_of v ≡ Some a → Err (BaseElsewhere n a.0) ≡ places_say n v (Ok tt)
      go None q = let z : ◌≡◌ {A = ℕ} 0 1 = cc in absurd (omega arith)
      go (Some (b, o)) q = let s : a ≡ b = cc in rw s

module _ (n : ℕ) (x y : QualityRow) where
  pub parts-refused : (r : Refusal) → part_says_of n x y Bases ≡ Err r → Err r ≡ parts_say n x y
  unfolding parts_say
  parts-refused r e = rw e

  pub parts-on : part_says_of n x y Bases ≡ Ok tt → part_says_of n x y Qualities ≡ parts_say n x y
  unfolding parts_say
  parts-on e = rw e

-- ---- a record against what its line says

module _ (n : ℕ) (f : List ℕ) (x : QualityRow) (named : List ℕ) (y : QualityRow) (s : Bool) (h : s ≡ same_bytes (name_in f x.«record») named) where
  pub entry-name : s ≡ false → Err (NameDiffers n) ≡ entry_says n f x named y
  unfolding entry_says
  entry-name e = rw (← h, e)

  module _ (t : s ≡ true) where
    pub entry_length : (x.«record».length ≡ y.«record».length → ⊥) → Err (LengthDiffers n) ≡ entry_says n f x named y
    unfolding entry_says
    entry_length e = rw (← h, t, ne_eqb x.«record».length y.«record».length e)

    pub entry-parts : x.«record».length ≡ y.«record».length → Taken f x → parts_say n x y ≡ entry_says n f x named y
    unfolding entry_says parts_say part_says_of
    entry-parts e k =
        rw (← h, t, eq-eqb x.«record».length y.«record».length e, k.leads Bases, k.leads Qualities)
        (go (first_elsewhere (place_in (part_of Bases y)) 0 (places_of (part_of Bases x))))
      where
        go : (v : Option (Position × Offset)) → let u : Result ⊤ Refusal = places_say n (first_elsewhere (place_in (part_of Qualities y)) 0 (places_of (part_of Qualities x))) (Ok tt) in
            and_then (places_say n v (Ok tt)) u ≡ places_say n v u
        go None = refl
        go (Some (a, o)) = refl

-- ---- a record against its line

module _ (n : ℕ) (f : List ℕ) (x : QualityRow) where
  pub record-absent : (l : List ℕ) → length l ≡ 0 → Err (LineAbsent n) ≡ record_says n f x (only_line l)
  unfolding record_says only_line
  record-absent [] e = refl
  record-absent (b ∷ l) e = absurd (omega arith)

  with-line : (l : List ℕ) → (length l ≡ 0 → ⊥) → record_says n f x (only_line l) ≡ line_judged n f x l (six_line_says n l)
  unfolding record_says only_line
  with-line [] z = absurd (z refl)
  with-line (b ∷ l) z = refl

  module _ (l : List ℕ) (z : length l ≡ 0 → ⊥) where
    pub record-line : (r : Refusal) → six_line_says n l ≡ Err r → Err r ≡ record_says n f x (only_line l)
    record-line r e = rw (with-line l z, e)

    pub record-entry : (e : Entry) → six_line_says n l ≡ Ok e → entry_says n f x (name_in l e.row.«record») e.row ≡ record_says n f x (only_line l)
    record-entry e h = rw (with-line l z, h, (line-named n l e h).name)

  -- only the first of the lines that are left matters
  first-line : (l : List ℕ) (ls : List (List ℕ)) → record_says n f x (l ∷ []) ≡ record_says n f x (l ∷ ls)
  unfolding record_says
  first-line l ls = refl

  some-line : (l : List ℕ) → 0 < length l → only_line l ≡ l ∷ []
  unfolding only_line
  some-line [] m = absurd (omega arith)
  some-line (b ∷ l) m = refl

  next-line : (i : List ℕ) (a : ℕ) → a ≤ length i → record_says n f x (only_line (part i a (line_end i a))) ≡ record_says n f x (lines (drop a i))
  unfolding lines line_len only_line
  next-line i a h = go (ltb a (length i)) refl
    where
      go : (t : Bool) → ltb a (length i) ≡ t → record_says n f x (only_line (part i a (line_end i a))) ≡ record_says n f x (lines (drop a i))
      go true e =
          let m : a < length i = ltb-true _ _ e in
          rw (lines_at-cut i a m, some-line (part i a (line_end i a)) (omega (arith, part_length i a (line_end i a) (line_end-le i a h), line_end-gt i a m)))
          (first-line _ _)
      go false e = rw (drop_of_length-le i (ltb-false _ _ e), take-nil {A = ℕ} (a + 0 - a))

  -- by what the code finds of the line at a place
  module _ (i : List ℕ) (a e : ℕ) (h : a ≤ length i) (q : e ≡ line_end i a) (v : Result ⊤ Refusal) (k : v ≡ record_says n f x (only_line (part i a e))) where
    is-here : v ≡ record_says n f x (lines (drop a i))
    is-here = k ∙ rw q (next-line i a h)

    pub row-refused : (next : Place) (r : Refusal) → v ≡ Err r → step.Refused r ≡ judged_as (record_says n f x (lines (drop a i))) next
    unfolding judged_as
    row-refused next r g = rw (← is-here, g)

    pub row_next : (b : ℕ) → v ≡ Ok tt
        → step.Next (record { fastq = b; index = e; records = n }) ≡ judged_as (record_says n f x (lines (drop a i))) (record { fastq = b; index = line_end i a; records = n })
    unfolding judged_as
    row_next b g = rw (← is-here, g, q)
