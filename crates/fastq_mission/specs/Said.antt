-- Every verdict of the checker of FASTQ is what Accepts.antt of its crate and FirstFault.antt say, and nothing else is: one record and its line.
use Rattle.std.specs.Prelude.{ℕ, suc, ◌≡◌, Bool, cond, Option, Result, Ok, Err, ⊤}
use Rattle.std.proofs.Math.Path.{refl}
use Rattle.std.proofs.Common.{sym, ◌∙◌, true≢false, zero-add}
use mathlib.Core.List.{List, [], ◌∷◌}
use Rattle.std.proofs.Math.Bool.{true, false}
use Rattle.std.proofs.Math.Dec.{eqb}
use Rattle.record.specs.declared.Offset.{Offset}
use Rattle.record.specs.declared.Position.{Position}
use borrow.Author.Tests.{eq-eqb, ne_eqb, eqb-true, eqb-false}
use Rattle.refusal.specs.declared.Refusal.{Refusal}
use Rattle.refusal.specs.declared.Refusal.TheVariants.{NameDiffers, LengthDiffers, BaseElsewhere}
use Rattle.lines.specs.Same.{same_bytes, same_refl, same_true, same-is}
use Rattle.record.specs.Place.{place_in}
use Rattle.index_line.specs.IndexLine.{name_in}
use Rattle.walking.specs.PlaceLaws.{PlacesSaid, places-said, all_there, first-elsewhere}
use Rattle.walking.specs.PlaceLaws.PlacesSaid.{all, one}
use Rattle.fastq.specs.Parts.{part_of}
use Rattle.fastq.specs.declared.Part.{Part}
use Rattle.fastq.specs.declared.Part.TheVariants.{Bases, Qualities}
use Rattle.fastq.specs.declared.QualityRow.{QualityRow}
use Rattle.fastq_line.specs.SixColumns.{six_line_says, name_of}
use Rattle.fastq_line.specs.declared.Entry.{Entry}
use Rattle.fastq_checker.specs.Check.{offsets_of, places_say, part_says, entry_says, line_judged, record_says}
use Rattle.fastq_checker.specs.Accepts.{Matches}
use Rattle.fastq_mission.specs.FirstFault.{AllInPlace, FirstElsewhere, SameName, SameCount, LineFault, RecordFault}
use Rattle.fastq_mission.specs.FirstFault.LineFault.{bad-line, other_name, other_length, other-base, other-quality}
use Rattle.fastq_mission.specs.FirstFault.RecordFault.{no-line, wrong-line}

same-equal : (s t : List ℕ) → s ≡ t → same_bytes s t ≡ true
same-equal s t e = rw e (same_refl t)

same_false : (s t : List ℕ) → same_bytes s t ≡ false → s ≡ t → ⊥
same_false s t h e = true≢false (sym (same-equal s t e) ∙ h)

differ-false : (s t : List ℕ) → (s ≡ t → ⊥) → same_bytes s t ≡ false
differ-false s t n = sym (same-is s t false (λ h. absurd (true≢false (sym h))) (λ e. absurd (n e)))

-- ---- a part of a record

module _ (n : ℕ) (f : List ℕ) (x y : QualityRow) (p : Part) (v : Result ⊤ Refusal) where
  -- all of it is in its place, or one is the first that is not
  pub part-said : (P : Result ⊤ Refusal → Type 0) → (AllInPlace f x y p → P v) → ((j : ℕ) → FirstElsewhere f x y p j → P (Err (BaseElsewhere n (suc j)))) → P (part_says n f x y p v)
  part-said P good bad = go _ (places-said (place_in (part_of p y)) 0 (offsets_of f x p))
    where
      go : (q : Option (Position × Offset)) → PlacesSaid (place_in (part_of p y)) 0 (offsets_of f x p) q → P (places_say n q v)
      go q (all h) = good (λ j m. rw zero-add at (h j m))
      go q (one s o j e z m h k) = rw (e, zero-add) (bad j (record { within = m; before = λ r u. rw zero-add at (h r u); here = λ g. k (rw zero-add g) }))

  pub part-all : AllInPlace f x y p → part_says n f x y p v ≡ v
  part-all a = rw (← all_there (place_in (part_of p y)) 0 (offsets_of f x p) (λ j m. rw zero-add (a j m)))

  pub part-first : (j : ℕ) → FirstElsewhere f x y p j → part_says n f x y p v ≡ Err (BaseElsewhere n (suc j))
  part-first j a =
      rw (← first-elsewhere (place_in (part_of p y)) 0 j (offsets_of f x p) a.within (λ m u. rw zero-add (a.before m u)) (λ g. a.here (rw zero-add at g)), zero-add j)

-- ---- one line

-- a line matches its record, or is wrong
pub data LineSaid (n : ℕ) (f : List ℕ) (x : QualityRow) (l : List ℕ) : Result ⊤ Refusal → Type 0 where
  matches : Matches n f x l → LineSaid n f x l (Ok tt)
  faulty : {y : Refusal} → LineFault n f x l y → LineSaid n f x l (Err y)

-- what holds of bases and of qualities holds of every part
both-parts : (f : List ℕ) (x y : QualityRow) → AllInPlace f x y Bases → AllInPlace f x y Qualities → (p : Part) → AllInPlace f x y p
both-parts f x y a b Bases = a
both-parts f x y a b Qualities = b

module _ (n : ℕ) (f : List ℕ) (x : QualityRow) (l : List ℕ) where
  module _ (e : Entry) where
    said-places : SameCount n f x l e → LineSaid n f x l (part_says n f x e.row Bases (part_says n f x e.row Qualities (Ok tt)))
    said-places c =
        part-said n f x e.row Bases (part_says n f x e.row Qualities (Ok tt)) (LineSaid n f x l)
        (λ a. part-said n f x e.row Qualities (Ok tt) (LineSaid n f x l)
        (λ b. matches (record { entry = e; reads = c.named.reads; name = c.named.name; count = c.count; places = both-parts f x e.row a b }))
        (λ j b. faulty (other-quality e c a j b)))
        (λ j a. faulty (other-base e c j a))

    said-entry : six_line_says n l ≡ Ok e → LineSaid n f x l (entry_says n f x (name_of l) e.row)
    unfolding entry_says
    said-entry h = name (same_bytes (name_in f x.«record») (name_of l)) refl
      where
        count : SameName n f x l e → (t : Bool) → eqb x.«record».length e.row.«record».length ≡ t
            → LineSaid n f x l (cond t (part_says n f x e.row Bases (part_says n f x e.row Qualities (Ok tt))) (Err (LengthDiffers n)))
        count s true q = said-places (record { named = s; count = eqb-true _ _ q })
        count s false q = faulty (other_length e s (eqb-false _ _ q))

        name : (t : Bool) → same_bytes (name_in f x.«record») (name_of l) ≡ t
            → LineSaid n f x l (cond t (cond (eqb x.«record».length e.row.«record».length) (part_says n f x e.row Bases (part_says n f x e.row Qualities (Ok tt))) (Err (LengthDiffers n))) (Err (NameDiffers n)))
        name true q = count (record { reads = h; name = same_true _ _ q }) (eqb x.«record».length e.row.«record».length) refl
        name false q = faulty (other_name e h (same_false _ _ q))

    only-count : SameCount n f x l e → entry_says n f x (name_of l) e.row ≡ part_says n f x e.row Bases (part_says n f x e.row Qualities (Ok tt))
    unfolding entry_says
    only-count c = rw (same-equal _ _ c.named.name, eq-eqb _ _ c.count)

  line-said : LineSaid n f x l (line_judged n f x l (six_line_says n l))
  line-said = go (six_line_says n l) refl
    where
      go : (r : Result Entry Refusal) → six_line_says n l ≡ r → LineSaid n f x l (line_judged n f x l r)
      go (Err y) h = faulty (bad-line y h)
      go (Ok e) h = said-entry e h

  -- and nothing else is said
  line-only : (v : Result ⊤ Refusal) → LineSaid n f x l v → line_judged n f x l (six_line_says n l) ≡ v
  unfolding entry_says
  line-only v (matches m) =
      let c : SameCount n f x l m.entry = record { named = record { reads = m.reads; name = m.name }; count = m.count } in
      rw m.reads (only-count m.entry c ∙ part-all n f x m.entry.row Bases _ (m.places Bases) ∙ part-all n f x m.entry.row Qualities (Ok tt) (m.places Qualities))
  line-only v (faulty (bad-line y h)) = rw h
  line-only v (faulty (other_name e h d)) = rw (h, differ-false _ _ d)
  line-only v (faulty (other_length e s d)) = rw (s.reads, same-equal _ _ s.name, ne_eqb _ _ d)
  line-only v (faulty (other-base e c j a)) = rw c.named.reads (only-count e c ∙ part-first n f x e.row Bases _ j a)
  line-only v (faulty (other-quality e c a j b)) =
      rw c.named.reads (only-count e c ∙ part-all n f x e.row Bases _ a ∙ part-first n f x e.row Qualities (Ok tt) j b)

-- ---- a record, and the lines that are left

pub data RecordSaid (n : ℕ) (f : List ℕ) (x : QualityRow) : List (List ℕ) → Result ⊤ Refusal → Type 0 where
  matching : {l : List ℕ} {left : List (List ℕ)} → Matches n f x l → RecordSaid n f x (l ∷ left) (Ok tt)
  wrong : {left : List (List ℕ)} {y : Refusal} → RecordFault n f x left y → RecordSaid n f x left (Err y)

module _ (n : ℕ) (f : List ℕ) (x : QualityRow) where
  pub record-said : (left : List (List ℕ)) → RecordSaid n f x left (record_says n f x left)
  unfolding record_says
  record-said [] = wrong no-line
  record-said (l ∷ left) = go _ (line-said n f x l)
    where
      go : (v : Result ⊤ Refusal) → LineSaid n f x l v → RecordSaid n f x (l ∷ left) v
      go v (matches m) = matching m
      go v (faulty e) = wrong (wrong-line e)

  pub record-only : (left : List (List ℕ)) (v : Result ⊤ Refusal) → RecordSaid n f x left v → record_says n f x left ≡ v
  unfolding record_says
  record-only _ v (matching {l} {left} m) = line-only n f x l v (matches m)
  record-only _ v (wrong no-line) = refl
  record-only _ v (wrong (wrong-line {l} {left} e)) = line-only n f x l v (faulty e)
