-- Where the records of a FASTQ file lie: each behind the one before it; in a record the name, then its bases, then its qualities. So a base of one
-- record is no byte of another's name, bases or qualities.
use Prim.Native.Nat.{ℕ, zero, suc, ◌+◌, ◌-◌, ◌≤◌, ◌<◌}
use Rattle.std.specs.Prelude.{◌≡◌, refl, ◌⊎◌, length, get_or, Option, Some, None, Result, Ok, Err}
use Rattle.std.proofs.Math.Path.{ap}
use Rattle.std.proofs.Common.{◌∙◌, inl, inr, arith}
use Rattle.refusal.specs.declared.Refusal.{Refusal}
use mathlib.Core.List.{List, [], ◌∷◌}
use Rattle.lines.specs.Lines.{chop, bases_of, sum_bases, sum_widths, bases_at}
use Rattle.lines.specs.Laws.{chop-le}
use Rattle.record.specs.BasePlaces.{place-from, base-of}
use Rattle.record.specs.EvenLines.{length-bases_at}
use Rattle.lines.specs.Mending.{BaseOf, first, later}
use Rattle.mission.specs.ReadsLaws.{bases-below}
use Rattle.fastq.specs.Fastq as fastq
use Rattle.fastq.specs.Parts.{part_of}
use Rattle.fastq.specs.declared.Part.{Part}
use Rattle.fastq.specs.declared.Part.TheVariants.{Bases, Qualities}
use Rattle.fastq.specs.declared.QualityRow.{QualityRow}
use Rattle.fastq_index.specs.File.{onwards, rows_of, rows_at}
use Rattle.fastq_checker.specs.Check.{part_lines, offsets_of}
use Rattle.fastq_checker.specs.Accepts.{records_of, record_at}
use Rattle.fastq_index.specs.Taken.{Taken, record-taken}
use Rattle.fastq_mission.specs.Leads.{start, position-is, qualities-at, bases-are, qualities-are, name-within}

-- where base, or quality, j + 1 of record x of a file lies, and how many there are
abbrev pub place_at : List ℕ → QualityRow → Part → ℕ → ℕ
place_at f x p j = get_or (offsets_of f x p) j 0

abbrev pub count_of : List ℕ → QualityRow → Part → ℕ
count_of f x p = sum_bases (part_lines f x p)

-- a record's bytes, from an offset up to another
pub record Extent (f : List ℕ) (at : ℕ) (x : QualityRow) (next : ℕ) : Type 0 where
  pub name-from : at ≤ x.«record».name_start
  pub name-to : x.«record».name_start + x.«record».name_length ≤ x.«record».position.0
  pub bases : (j : ℕ) → j < count_of f x Bases → (x.«record».position.0 ≤ place_at f x Bases j) × (place_at f x Bases j < x.qualities.0)
  pub qualities : (j : ℕ) → j < count_of f x Qualities → (x.qualities.0 ≤ place_at f x Qualities j) × (place_at f x Qualities j < next)
  pub ordered : (x.«record».position.0 ≤ x.qualities.0) × (x.qualities.0 ≤ next)

module _ {f : List ℕ} {at : ℕ} {x : QualityRow} {next : ℕ} (t : Taken f at x next) where
  next-is : next ≡ x.qualities.0 + sum_widths (part_lines f x Qualities)
  next-is = t.good.on ∙ omega (arith, qualities-at t, start t, ap sum_widths (qualities-are t))

  bases-in : (j : ℕ) → j < count_of f x Bases → (x.«record».position.0 ≤ place_at f x Bases j) × (place_at f x Bases j < x.qualities.0)
  unfolding offsets_of part_of
  bases-in j h =
      let ls : List (List ℕ) = part_lines f x Bases in
      let o : ℕ = x.«record».position.0 in
      (place-from ls o j h, omega (arith, bases-below ls o j (rw length-bases_at h), ap sum_widths (bases-are t), position-is t, qualities-at t))

  qualities-in : (j : ℕ) → j < count_of f x Qualities → (x.qualities.0 ≤ place_at f x Qualities j) × (place_at f x Qualities j < next)
  unfolding offsets_of part_of
  qualities-in j h =
      let ls : List (List ℕ) = part_lines f x Qualities in
      let o : ℕ = x.qualities.0 in
      (place-from ls o j h, omega (arith, bases-below ls o j (rw length-bases_at h), next-is))

  pub extent : Extent f at x next
  extent =
      let a : x.«record».name_start ≡ at + t.said.name.start = ap (λ (y : QualityRow). y.«record».name_start) t.good.row in
      let b : x.«record».name_length ≡ t.said.name.length = ap (λ (y : QualityRow). y.«record».name_length) t.good.row in
      record {
        name-from = omega arith;
        name-to = omega (arith, name-within t, start t, position-is t);
        bases = bases-in;
        qualities = qualities-in;
        ordered = (omega (arith, position-is t, qualities-at t), omega (arith, next-is));
      }

-- all bases and qualities of a record lie behind its name, and before its end
pub place_in : (f : List ℕ) (at : ℕ) (x : QualityRow) (next : ℕ) → Extent f at x next → (p : Part) (j : ℕ) → j < count_of f x p → (at ≤ place_at f x p j) × (place_at f x p j < next)
place_in f at x next e Bases j h = (omega (arith, e.name-from, e.name-to, e.bases j h), omega (arith, e.bases j h, e.ordered))
place_in f at x next e Qualities j h = (omega (arith, e.name-from, e.name-to, e.ordered, e.qualities j h), omega (arith, e.qualities j h))

-- ---- two bases of one part

few : (l : List ℕ) → length (bases_of l) ≤ length l
few l = omega (arith, chop-le 13 (chop 10 l), chop-le 10 l)

base-once : {ls : List (List ℕ)} {c i j : ℕ} → BaseOf ls c i → BaseOf ls c j → i ≡ j
base-once (first h q) (first k r) = omega arith
base-once (first {l} h q) (later k p r) = absurd (omega (arith, few l))
base-once (later {l} h p q) (first k r) = absurd (omega (arith, few l))
base-once (later {d = d} h p q) (later {d = e} k s r) = let w : d ≡ e = omega arith in omega (arith, base-once (rw w at h) k)

-- lie apart
pub part_apart : (f : List ℕ) (x : QualityRow) (p : Part) (i j : ℕ) → i < count_of f x p → j < count_of f x p → (i ≡ j → ⊥) → place_at f x p i ≡ place_at f x p j → ⊥
unfolding offsets_of
part_apart f x p i j h k n e =
    let at : ℕ = (part_of p x).position.0 in
    let ls : List (List ℕ) = part_lines f x p in
    let c : ℕ = get_or (bases_at at ls) j 0 - at in
    let w : get_or (bases_at at ls) j 0 ≡ at + c = omega (arith, place-from ls at j k) in
    n (base-once (base-of ls at i c h (e ∙ w)) (base-of ls at j c k w))

-- ---- the records of a file

-- some records lie one behind another, from an offset on
pub data Along (f : List ℕ) : ℕ → List QualityRow → Type 0 where
  end : {at : ℕ} → Along f at []
  more : {at next : ℕ} {x : QualityRow} {xs : List QualityRow} → Taken f at x next → Along f next xs → Along f at (x ∷ xs)

pub rows-along : (k : ℕ) (f : List ℕ) (at : ℕ) → Along f at (rows_of k f at).rows
unfolding rows_of
rows-along zero f at = end
rows-along (suc k) f at = go (fastq.record_at f at).answer refl (rows-along k f (fastq.record_at f at).next)
  where
    go : (a : Result (Option QualityRow) Refusal) → (fastq.record_at f at).answer ≡ a → Along f (fastq.record_at f at).next (rows_of k f (fastq.record_at f at).next).rows
        → Along f at (onwards a (rows_of k f (fastq.record_at f at).next)).rows
    go (Ok (Some x)) e h = more (record-taken f at x e) h
    go (Ok None) e h = end
    go (Err y) e h = end

pub file-along : (f : List ℕ) → Along f 0 (records_of f)
unfolding rows_at
file-along f = rows-along _ f 0

-- a record of them: its name, bases and qualities lie from the offset on
pub record Behind (f : List ℕ) (at : ℕ) (x : QualityRow) : Type 0 where
  pub name : at ≤ x.«record».name_start
  pub places : (p : Part) (j : ℕ) → j < count_of f x p → at ≤ place_at f x p j

pub behind : {f : List ℕ} {at : ℕ} {xs : List QualityRow} → Along f at xs → (r : ℕ) → r < length xs → Behind f at (record_at xs r)
behind end r h = absurd (omega arith)
behind {f} (more {at} {next} {x} t a) zero h = let e = extent t in record { name = e.name-from; places = λ p j k. (place_in f at x next e p j k).0 }
behind {f} (more {at} {next} {x} t a) (suc r) h =
    let e = extent t in
    let b = behind a r (omega arith) in
    record {
      name = omega (arith, b.name, e.name-from, e.name-to, e.ordered);
      places = λ p j k. omega (arith, b.places p j k, e.name-from, e.name-to, e.ordered);
    }

-- two bases or qualities of different records lie apart
pub records-apart : {f : List ℕ} {at : ℕ} {xs : List QualityRow} → Along f at xs → (r k : ℕ) → r < length xs → k < length xs → (r ≡ k → ⊥)
    → (p q : Part) (i j : ℕ) → i < count_of f (record_at xs r) p → j < count_of f (record_at xs k) q → place_at f (record_at xs r) p i ≡ place_at f (record_at xs k) q j → ⊥
records-apart end r k h m n p q i j u v e = omega arith
records-apart (more t a) zero zero h m n p q i j u v e = n refl
records-apart {f} (more {at} {next} {x} t a) zero (suc k) h m n p q i j u v e = omega (arith, place_in f at x next (extent t) p i u, (behind a k (omega arith)).places q j v)
records-apart {f} (more {at} {next} {x} t a) (suc r) zero h m n p q i j u v e = omega (arith, place_in f at x next (extent t) q j v, (behind a r (omega arith)).places p i u)
records-apart (more t a) (suc r) (suc k) h m n p q i j u v e = records-apart a r k (omega arith) (omega arith) (λ w. n (ap suc w)) p q i j u v e

-- and a base lies before or behind the name of any record
pub names_apart : {f : List ℕ} {at : ℕ} {xs : List QualityRow} → Along f at xs → (r k : ℕ) → r < length xs → k < length xs → (j : ℕ) → j < count_of f (record_at xs k) Bases
    → (place_at f (record_at xs k) Bases j < (record_at xs r).«record».name_start) ⊎ ((record_at xs r).«record».name_start + (record_at xs r).«record».name_length ≤ place_at f (record_at xs k) Bases j)
names_apart end r k h m j u = absurd (omega arith)
names_apart (more t a) zero zero h m j u = let e = extent t in inr (omega (arith, e.name-to, e.bases j u))
names_apart (more t a) zero (suc k) h m j u = let e = extent t in inr (omega (arith, e.name-to, e.ordered, (behind a k (omega arith)).places Bases j u))
names_apart (more t a) (suc r) zero h m j u = let e = extent t in inl (omega (arith, e.bases j u, e.ordered, (behind a r (omega arith)).name))
names_apart (more t a) (suc r) (suc k) h m j u = names_apart a r k (omega arith) (omega arith) j u

-- the bases and the qualities of one record lie apart
pub parts-apart : {f : List ℕ} {at : ℕ} {xs : List QualityRow} → Along f at xs → (k : ℕ) → k < length xs
    → (i j : ℕ) → i < count_of f (record_at xs k) Qualities → j < count_of f (record_at xs k) Bases → place_at f (record_at xs k) Qualities i ≡ place_at f (record_at xs k) Bases j → ⊥
parts-apart end k h i j u v e = omega arith
parts-apart (more t a) zero h i j u v e = let x = extent t in omega (arith, x.qualities i u, x.bases j v)
parts-apart (more t a) (suc k) h i j u v e = parts-apart a k (omega arith) i j u v e
