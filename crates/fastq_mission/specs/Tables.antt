-- The table that a call leaves is one of the FASTQ file's records (`TableOf`): the whole-index call's of an accepted index, with room for a row for each
-- record; and the table that the indexer leaves of a file that it takes to its end. The name of an accepted index's row is its record's:
-- `accepted-names`.
--
-- Two tables of one file are read alike, bases and qualities, whatever indexes they came from: `tables_agree`, `indexes-agree`.
use Rattle.std.specs.Prelude.{ℕ, ◌≤◌, ◌<◌, ◌≡◌, refl, List, Bool, true, false, cond, length, ltb, Option, Result, Ok}
use Rattle.std.proofs.Common.{ap, sym, ◌∙◌, ltb-true, ltb-false, arith}
use Rattle.refusal.specs.declared.Refusal.{Refusal}
use Rattle.record.specs.declared.Position.{Position}
use Rattle.refusal.specs.Numbers.{over_limit}
use Rattle.refusal.specs.declared.Refusal.TheVariants.{TooLong}
use Rattle.record.specs.Bases.{byte_at}
use Rattle.index_line.specs.IndexLine.{name_in}
use Rattle.table.specs.declared.Filled.{Filled}
use Rattle.output.specs.Outcome.{Outcome, refuses}
use Rattle.region.specs.Exact.{exact_of, exact_held}
use Rattle.region.specs.Dependence.{exact-alike}
use Rattle.fastq.specs.declared.Part.{Part}
use Rattle.fastq_table.specs.Rows.{row_count}
use Rattle.fastq_table.specs.Fill.{FilledAs}
use Rattle.fastq_index.specs.File.{rows_at, file_in}
use Rattle.fastq_index.specs.Text.{index_at, index_in}
use Rattle.fastq_checker.specs.Check.{check_of}
use Rattle.fastq_checker.specs.Accepts.{records_of, record_at, Accepts}
use Rattle.fastq_mission.specs.Exactly.{accepted-only-if}
use Rattle.fastq_mission.specs.Indexed.{file-leads, whole}
use Rattle.fastq_mission.specs.TableOf.{record_count, held_at, exact_part, TableOf}
use Rattle.fastq_mission.specs.TableLaws.{RowsAbout, filled-table, index-rows, index-found, row-named}

-- ---- the tables that the calls leave

-- the indexer's rows are about the file's records
pub file-rows : (f : List ℕ) → length f ≤ 1099511627776 → RowsAbout f (records_of f)
file-rows f small =
    record {
      count = refl;
      each = λ r h. let d = file-leads f r h in let l = d.lined (omega arith) in record { count = refl; places = d.places; some-bases = l.some-bases; some-width = l.some-width };
    }

module _ (f t t' : List ℕ) (told : Filled) where
  pub accepted-table : (i : List ℕ) → Accepts f i → FilledAs (index_in i (row_count t)) t t' told → record_count f ≤ row_count t → TableOf f t' told.rows
  accepted-table i a filled enough =
      let r : RowsAbout f (index_at i 1 0).rows = index-rows f i a in
      filled-table f t t' (index_at i 1 0) told r (omega (arith, r.count)) (rw (index-found f i a (row_count t) enough) at filled)

  pub indexed-table : FilledAs (file_in f (row_count t)) t t' told → told.stop ≡ Ok tt → TableOf f t' told.rows
  indexed-table filled e =
      let w = whole f (row_count t) (sym filled.stop ∙ e) in
      filled-table f t t' (rows_at f 0) told (file-rows f w.fits) w.room (rw w.whole at filled)

-- the name of row r of an accepted index, a span of the index, has the bytes of the name of record r of the file
pub accepted-names : (f i : List ℕ) (a : Accepts f i) (r : ℕ) (h : r < record_count f) → name_in i (record_at (index_at i 1 0).rows r).«record» ≡ name_in f (record_at (records_of f) r).«record»
accepted-names f i a r h = row-named f i a r h

-- ---- two tables of one file are read alike

held-alike : (f t u : List ℕ) (n : ℕ) → TableOf f t n → TableOf f u n → (r : ℕ) (p : Part) (a e : Option Position) (out : List ℕ)
    → exact_of (length f) (byte_at f) (held_at t n r p) a e out ≡ exact_of (length f) (byte_at f) (held_at u n r p) a e out
held-alike f t u n x y r p a e out = go (ltb r n) refl
  where
    go : (q : Bool) → ltb r n ≡ q → exact_of (length f) (byte_at f) (held_at t n r p) a e out ≡ exact_of (length f) (byte_at f) (held_at u n r p) a e out
    go true h =
        let v = x.each r (ltb-true _ _ h) p in
        let w = y.each r (ltb-true _ _ h) p in
        let l : v.row.length ≡ w.row.length = v.about.count ∙ sym w.about.count in
        rw (v.held, w.held)
        (exact-alike (length f) (byte_at f) v.row w.row l
        (λ j k. v.about.places j (omega (arith, v.about.count)) ∙ sym (w.about.places j (omega (arith, v.about.count)))) a e out)
    go false h = rw (x.beyond r (ltb-false _ _ h) p, y.beyond r (ltb-false _ _ h) p)

pub tables_agree : (f t u : List ℕ) (n m : ℕ) → TableOf f t n → TableOf f u m → (r : ℕ) (p : Part) (a e : Option Position) (out : List ℕ) → exact_part f t n r p a e out ≡ exact_part f u m r p a e out
unfolding exact_part exact_held
tables_agree f t u n m x y r p a e out =
    let q : m ≡ n = y.rows ∙ sym x.rows in
    rw q (ap (λ (o : Outcome (Result ℕ Refusal)). cond (over_limit (length f)) (refuses TooLong out) o) (held-alike f t u n x (rw q at y) r p a e out))

-- K14 for FASTQ: two indexes accepted for one file give equal exact reads, for every row, part, bounds and output
pub indexes-agree : (f i j t t' u u' : List ℕ) (told said : Filled) → Accepts f i → Accepts f j
    → FilledAs (index_in i (row_count t)) t t' told → record_count f ≤ row_count t → FilledAs (index_in j (row_count u)) u u' said → record_count f ≤ row_count u
    → (r : ℕ) (p : Part) (a e : Option Position) (out : List ℕ) → exact_part f t' told.rows r p a e out ≡ exact_part f u' said.rows r p a e out
indexes-agree f i j t t' u u' told said g h x m y n =
    tables_agree f t' u' told.rows said.rows (accepted-table f t t' told i g x m) (accepted-table f u u' said j h y n)

-- the same of two that the checker accepts
pub checked-agree : (f i j t t' u u' : List ℕ) (told said : Filled) → check_of f i ≡ Ok tt → check_of f j ≡ Ok tt
    → FilledAs (index_in i (row_count t)) t t' told → record_count f ≤ row_count t → FilledAs (index_in j (row_count u)) u u' said → record_count f ≤ row_count u
    → (r : ℕ) (p : Part) (a e : Option Position) (out : List ℕ) → exact_part f t' told.rows r p a e out ≡ exact_part f u' said.rows r p a e out
checked-agree f i j t t' u u' told said g h = indexes-agree f i j t t' u u' told said (accepted-only-if f i g) (accepted-only-if f j h)
