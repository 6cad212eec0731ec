-- Laws for Mended.antt and Mending.antt: the records of a FASTQ file with one base replaced. Names, places and every other byte stay.
use Rattle.std.specs.Prelude.{ℕ, ◌<◌, ◌≡◌, refl, List, Bool, true, false, length, get_or, set, eqb}
use Rattle.std.proofs.Common.{ap, sym, ◌∙◌, ext_get_or, get_or-set_same, get_or-set_other, eqb-true, arith}
use Rattle.std.proofs.lemmas.Bool.{eqb-false}
use Rattle.record.specs.Bases.{byte_at}
use Rattle.index_line.specs.IndexLine.{name_in}
use Rattle.mission.specs.MendedNames.{name-apart}
use Rattle.fastq.specs.Parts.{part_of}
use Rattle.fastq.specs.declared.Part.{Part}
use Rattle.fastq.specs.declared.Part.TheVariants.{Bases, Qualities}
use Rattle.fastq.specs.declared.QualityRow.{QualityRow}
use Rattle.fastq_table.specs.Fill.{Found}
use Rattle.fastq_index.specs.File.{rows_at}
use Rattle.fastq_checker.specs.Check.{part_lines, offsets_of}
use Rattle.fastq_checker.specs.Accepts.{records_of, record_at, Matches}
use Rattle.fastq_mission.specs.Front.{base-inside}
use Rattle.fastq_mission.specs.Leads.{Leads}
use Rattle.fastq_mission.specs.Indexed.{file-leads}
use Rattle.fastq_mission.specs.TableOf.{record_count, base_count, base_place}
use Rattle.fastq_mission.specs.TableLaws.{length-offsets}
use Rattle.fastq_mission.specs.Extents.{file-along, part_apart, records-apart, names_apart, parts-apart}
use Rattle.fastq_mission.specs.MendedRows.{rows_same}
use Rattle.fastq_mission.specs.Mend.{BaseAt, Plain}

module _ (f : List ℕ) (k j o b : ℕ) (x : BaseAt f k j o) (p : Plain b) where
  abbrev here : QualityRow
  here = record_at (records_of f) k

  pub found-same : rows_at (set f o b) 0 ≡ rows_at f 0
  found-same = rows_same f b p.no-lf p.no-cr p.no_plus k j o (file-leads f k x.record') x.record' x.base x.place

  pub records-same : records_of (set f o b) ≡ records_of f
  records-same = ap (λ (r : Found). r.rows) found-same

  -- ---- a record of it

  module _ (r : ℕ) (h : r < record_count f) where
    abbrev row : QualityRow
    row = record_at (records_of f) r

    pub leads-still : Leads (set f o b) (record_at (records_of f) r)
    leads-still =
        let d : r < record_count (set f o b) → Leads (set f o b) (record_at (records_of (set f o b)) r) = file-leads (set f o b) r in
        (rw records-same at d) h

    -- as many bases and qualities, at the same places
    pub count_same : (q : Part) → base_count (set f o b) r q ≡ base_count f r q
    count_same q = rw records-same (leads-still.counted q ∙ sym ((file-leads f r h).counted q))

    pub offsets-same : (q : Part) → offsets_of (set f o b) (record_at (records_of f) r) q ≡ offsets_of f (record_at (records_of f) r) q
    offsets-same q =
        let c = leads-still.counted q in
        let d = (file-leads f r h).counted q in
        let m = length-offsets (set f o b) (record_at (records_of f) r) q in
        let n = length-offsets f (record_at (records_of f) r) q in
        ext_get_or 0 (offsets_of (set f o b) (record_at (records_of f) r) q) (offsets_of f (record_at (records_of f) r) q) (m ∙ c ∙ sym d ∙ sym n)
        (λ i u. leads-still.places q i u ∙ sym ((file-leads f r h).places q i (omega (arith, m, c, d, n))))

    -- the same name
    pub name-same : name_in (set f o b) (record_at (records_of f) r).«record» ≡ name_in f (record_at (records_of f) r).«record»
    name-same = name-apart f (record_at (records_of f) r).«record» o b (rw x.place at (names_apart (file-along f) r k h x.record' j x.base))

    -- so what matched it matches
    pub matches-same : (n : ℕ) (l : List ℕ) → Matches n f (record_at (records_of f) r) l → Matches n (set f o b) (record_at (records_of f) r) l
    matches-same n l m =
        record {
          entry = m.entry;
          reads = m.reads;
          name = name-same ∙ m.name;
          count = m.count;
          places = λ q i u. ap (λ (os : List ℕ). get_or os i 0) (offsets-same q) ∙ m.places q i (rw (offsets-same q) at u);
        }

  -- ---- its bytes

  pub inside : o < length f
  unfolding offsets_of part_of
  inside = rw (← x.place) (base-inside f here.«record».position.0 (part_lines f here Bases) ((file-leads f k x.record').front Bases) j x.base)

  pub byte-here : byte_at (set f o b) o ≡ b
  byte-here = get_or-set_same f o b 0 inside

  -- every other base, and every quality, lies elsewhere
  apart : (r i : ℕ) (q : Part) → r < record_count f → i < base_count f r q → (r ≡ k → q ≡ Bases → i ≡ j → ⊥) → base_place f r q i ≡ o → ⊥
  apart r i q h u n e = go (eqb r k) refl
    where
      same : (q : Part) → r ≡ k → i < base_count f r q → (r ≡ k → q ≡ Bases → i ≡ j → ⊥) → base_place f r q i ≡ o → ⊥
      same Qualities w u n e = parts-apart (file-along f) k x.record' i j (rw w at u) x.base ((rw w at e) ∙ sym x.place)
      same Bases w u n e = part_apart f (record_at (records_of f) k) Bases i j (rw w at u) x.base (n w refl) ((rw w at e) ∙ sym x.place)

      go : (t : Bool) → eqb r k ≡ t → ⊥
      go true w = same q (eqb-true r k w) u n e
      go false w = records-apart (file-along f) r k h x.record' (eqb-false r k w) q Bases i j u x.base (e ∙ sym x.place)

  pub byte-other : (r i : ℕ) (q : Part) → r < record_count f → i < base_count f r q → (r ≡ k → q ≡ Bases → i ≡ j → ⊥) → byte_at (set f o b) (base_place f r q i) ≡ byte_at f (base_place f r q i)
  byte-other r i q h u n = get_or-set_other f o (base_place f r q i) b 0 (apart r i q h u n)
