-- Demand 3 for FASTQ: on an accepted pair, an exact read by row of bases inside a record, or of qualities, with room for them, gives just those bases, or
-- just those qualities: as many bytes as there are, they at the front of the output, and nothing else of the output changes.
--
-- `Asked` says that the bounds, which may be absent, are inside record r of the file, and that there is room. `givesAsked` says the answer and the
-- output. The table is what a call left: the whole-index call's of an accepted index (`accepted-reads`, `checked-reads`), or the indexer's own, with no
-- index text between (`indexed-reads`).
use Rattle.std.specs.Prelude.{ℕ, ◌+◌, ◌-◌, ◌≤◌, ◌<◌, ◌≡◌, List, ◌++◌, map, length, drop, Option, Ok}
use Rattle.std.proofs.Common.{ap, sym, ◌∙◌, le-ltb}
use native.Mathlib.Omega.{arith}
use Rattle.record.specs.declared.Position.{Position}
use Rattle.refusal.specs.Numbers.{over_limit}
use Rattle.record.specs.Bases.{byte_at}
use Rattle.record.specs.Laws.{length-places, get_or-places}
use Rattle.record.specs.Place.{place_in}
use Rattle.record.specs.declared.Record.{Record}
use Rattle.table.specs.declared.Filled.{Filled}
use Rattle.output.specs.Outcome.{leaves}
use Rattle.region.specs.Region.{start_of, end_of, bases_to}
use Rattle.region.specs.Exact as exact
use Rattle.region.specs.Exact.{exact_of, exact_held}
use Rattle.region.specs.Laws.{good-bounds}
use Rattle.region.specs.Dependence.{exact-reads}
use Rattle.fastq.specs.Parts.{part_of}
use Rattle.fastq.specs.declared.Part.{Part}
use Rattle.fastq_table.specs.Rows.{row_count}
use Rattle.fastq_table.specs.Fill.{FilledAs}
use Rattle.fastq_index.specs.File.{file_in}
use Rattle.fastq_index.specs.Text.{index_in}
use Rattle.checker.specs.Accepts.{limit}
use Rattle.fastq_checker.specs.Check.{offsets_of, check_of}
use Rattle.fastq_checker.specs.Accepts.{records_of, record_at, Accepts}
use Rattle.fastq_mission.specs.Exactly.{accepted-only-if}
use Rattle.fastq_mission.specs.Front.{Front, base-inside, bases-part}
use Rattle.fastq_mission.specs.Indexed.{file-leads, whole}
use Rattle.fastq_mission.specs.TableOf.{record_count, lines_in, base_count, RowOf, exact_part, TableOf}
use Rattle.fastq_mission.specs.Tables.{accepted-table, indexed-table}
use Rattle.fastq_mission.specs.Asked.{last_of, asked_count, bytes_between, Asked, gives_asked}

-- ---- a row that is about the bases, or the qualities, of record r of a file

module _ (f : List ℕ) (r : ℕ) (h : r < record_count f) (p : Part) (x : Record) (about : RowOf f r p x) where
  abbrev at : ℕ
  at = (part_of p (record_at (records_of f) r)).position.0

  here : Front f at (lines_in f r p)
  here = (file-leads f r h).front p

  -- those from a to e lie in the file, and the bytes there are they
  module _ (a e : ℕ) (from_one : 1 ≤ a) (in_order : a ≤ e) (inside : e ≤ base_count f r p) where
    in-file : (q : ℕ) → a ≤ q → q ≤ e → place_in x (q - 1) < length f
    unfolding offsets_of
    in-file q u v =
        let j : q - 1 < base_count f r p = omega arith in
        rw (about.places (q - 1) j) (base-inside f at (lines_in f r p) here (q - 1) j)

    bytes : map (byte_at f) (exact.offsets_of x a (bases_to a e)) ≡ bytes_between f r p a e
    unfolding bytes_between offsets_of
    bytes =
        bases-part f at (lines_in f r p) here (exact.offsets_of x a (bases_to a e)) (a - 1) (bases_to a e) (omega arith) (length-places _ _ _ (a - 1) (bases_to a e))
        (λ k m. get_or-places x.position.0 x.line_bases x.line_width (a - 1) (bases_to a e) k m ∙ about.places (a - 1 + k) (omega arith))

  -- so the exact read of it gives just those that are asked for
  row_reads : (a e : Option Position) (out : List ℕ) → Asked f r p a e out → exact_of (length f) (byte_at f) (Ok x) a e out ≡ gives_asked f r p a e out
  row_reads a e out q =
      let c : x.length ≡ base_count f r p = about.count in
      let g = good-bounds a e (base_count f r p) q.bounds in
      let o = g.in_order q.start in
      exact-reads (length f) (byte_at f) x a e out
      (record { bounds = q.bounds; start = rw c q.start; end = rw c q.end; room = rw c q.room; inside = rw c (in-file (start_of a) (last_of f r p e) g.from_one o q.end) })
      ∙ ap (λ (n : ℕ). leaves (Ok (bases_to (start_of a) (end_of n e))) (map (byte_at f) (exact.offsets_of x (start_of a) (bases_to (start_of a) (end_of n e))) ++ drop (bases_to (start_of a) (end_of n e)) out)) c
      ∙ ap (λ (bs : List ℕ). leaves (Ok (asked_count f r p a e)) (bs ++ drop (asked_count f r p a e) out)) (bytes (start_of a) (last_of f r p e) g.from_one o q.end)

-- ---- of any table of the file's records

pub table-reads : (f t : List ℕ) (n r : ℕ) (p : Part) (a e : Option Position) (out : List ℕ) → TableOf f t n → length f ≤ limit → Asked f r p a e out
    → exact_part f t n r p a e out ≡ gives_asked f r p a e out
unfolding exact_part exact_held over_limit
table-reads f t n r p a e out table small q =
    let h = table.each r (omega (arith, table.rows, q.record')) p in
    rw (le-ltb 1099511627776 (length f) small, h.held) (row_reads f r q.record' p h.row h.about a e out q)

module _ (f t t' : List ℕ) (told : Filled) (r : ℕ) (p : Part) (a e : Option Position) (out : List ℕ) where
  -- of the table of an accepted index
  pub accepted-reads : (i : List ℕ) → Accepts f i → FilledAs (index_in i (row_count t)) t t' told → record_count f ≤ row_count t
      → Asked f r p a e out → exact_part f t' told.rows r p a e out ≡ gives_asked f r p a e out
  accepted-reads i accepted filled enough = table-reads f t' told.rows r p a e out (accepted-table f t t' told i accepted filled enough) accepted.limits.fasta

  -- of an index that the checker accepts
  pub checked-reads : (i : List ℕ) → check_of f i ≡ Ok tt → FilledAs (index_in i (row_count t)) t t' told → record_count f ≤ row_count t
      → Asked f r p a e out → exact_part f t' told.rows r p a e out ≡ gives_asked f r p a e out
  checked-reads i h = accepted-reads i (accepted-only-if f i h)

  -- of the table that the indexer fills, with a file that it takes to its end
  pub indexed-reads : FilledAs (file_in f (row_count t)) t t' told → told.stop ≡ Ok tt → Asked f r p a e out → exact_part f t' told.rows r p a e out ≡ gives_asked f r p a e out
  indexed-reads filled ended =
      table-reads f t' told.rows r p a e out (indexed-table f t t' told filled ended) (whole f (row_count t) (sym filled.stop ∙ ended)).fits
