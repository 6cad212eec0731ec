-- Demand 3: on an accepted pair, an exact read by row of bases inside a record, with room for them, gives just those bases: as many bytes as
-- there are bases, at the front of the output; nothing else of the output changes.
--
-- `Asked` says that the bounds, which may be absent, are inside record r of the file, and that there is room. `givesAsked` says the answer
-- and the output. The table is what a call left: the whole-index call's of an accepted index (`accepted-reads`, `checked-reads`), or an
-- indexer's own, by either rule, with no index text between (`indexed-reads`).
use Rattle.std.specs.Prelude.{ℕ, ◌≤◌, ◌≡◌, List, length, Option, Ok}
use Rattle.std.proofs.Common.{sym, ◌∙◌, le-ltb, arith}
use Rattle.record.specs.declared.Position.{Position}
use Rattle.refusal.specs.Numbers.{over_limit}
use Rattle.table.specs.Rows.{row_count}
use Rattle.table.specs.declared.Filled.{Filled}
use Rattle.table.specs.Fill.{FilledAs}
use Rattle.index.specs.Index.{index_in}
use Rattle.fitting.specs.declared.Rule.{Rule}
use Rattle.fitting.specs.Rules.{rows_in}
use Rattle.region.specs.Exact.{exact_held, exact_read}
use Rattle.checker.specs.Accepts.{limit, Accepts}
use Rattle.checker.specs.Check.{check_of}
use Rattle.checker.specs.Exactly.{accepted-only-if}
use Rattle.mission.specs.TableOf.{record_count, TableOf}
use Rattle.mission.specs.Asked.{Asked, gives_asked}
use Rattle.mission.specs.Tables.{indexed-gives, accepted-table, indexed-table}
use Rattle.mission.specs.ReadsLaws.{row_reads}

-- of any table of the file's records
pub table-reads : (f t : List ℕ) (n r : ℕ) (a e : Option Position) (out : List ℕ) → TableOf f t n → length f ≤ limit → Asked f r a e out → exact_read f t n r a e out ≡ gives_asked f r a e out
unfolding exact_read exact_held over_limit
table-reads f t n r a e out table small q =
    let h = table.each r (omega (arith, table.rows, q.record')) in
    rw (le-ltb 1099511627776 (length f) small, h.held) (row_reads f r q.record' h.row h.about a e out q)

module _ (f t t' : List ℕ) (told : Filled) (r : ℕ) (a e : Option Position) (out : List ℕ) where
  -- of the table of an accepted index
  pub accepted-reads : (i : List ℕ) → Accepts f i → FilledAs (index_in i (row_count t)) t t' told → record_count f ≤ row_count t
      → Asked f r a e out → exact_read f t' told.rows r a e out ≡ gives_asked f r a e out
  accepted-reads i accepted filled enough = table-reads f t' told.rows r a e out (accepted-table f t t' told i accepted filled enough) accepted.limits.fasta

  -- of an index that the checker accepts
  pub checked-reads : (i : List ℕ) → check_of f i ≡ Ok tt → FilledAs (index_in i (row_count t)) t t' told → record_count f ≤ row_count t
      → Asked f r a e out → exact_read f t' told.rows r a e out ≡ gives_asked f r a e out
  checked-reads i h = accepted-reads i (accepted-only-if f i h)

  -- of the table that an indexer fills, by either rule, with a file that it takes to its end
  pub indexed-reads : (rule : Rule) → FilledAs (rows_in rule f (row_count t)) t t' told → told.stop ≡ Ok tt
      → Asked f r a e out → exact_read f t' told.rows r a e out ≡ gives_asked f r a e out
  indexed-reads rule filled ended =
      table-reads f t' told.rows r a e out (indexed-table f t t' told rule filled ended) (indexed-gives rule f (row_count t) (sym filled.stop ∙ ended)).small
