-- The table that a call leaves is one of the file's records (`TableOf`): the whole-index call's of an accepted index, with room for a row for
-- each record; and the table that either indexer leaves of a file that it takes to its end. The name of an accepted index's row is its
-- record's: `accepted-names`.
--
-- Two tables of one file are read alike, whatever indexes they came from: `tables_agree`, `indexes-agree`.
use Rattle.std.specs.Prelude.{ℕ, ◌≤◌, ◌<◌, ◌≡◌, refl, List, Bool, true, false, cond, length, ltb, Option, Result, Ok}
use Rattle.std.proofs.Common.{ap, sym, ◌∙◌, ltb-true, ltb-false, arith}
use Rattle.refusal.specs.declared.Refusal.{Refusal}
use Rattle.record.specs.declared.Position.{Position}
use Rattle.refusal.specs.Numbers.{over_limit}
use Rattle.refusal.specs.declared.Refusal.TheVariants.{TooLong}
use Rattle.lines.specs.Lines.{lines}
use Rattle.lines.specs.Groups.{groups}
use Rattle.record.specs.Bases.{byte_at}
use Rattle.table.specs.Rows.{row_count, held_at}
use Rattle.table.specs.declared.Filled.{Filled}
use Rattle.table.specs.Fill.{FilledAs}
use Rattle.index_line.specs.IndexLine.{name_in}
use Rattle.index.specs.Index.{index_at, index_in}
use Rattle.fitting.specs.declared.Rule.{Rule}
use Rattle.fitting.specs.declared.Rule.TheVariants.{Strict, Complete}
use Rattle.fitting.specs.Rules.{rule_of, rows_by, rows_in}
use Rattle.output.specs.Outcome.{Outcome, refuses}
use Rattle.region.specs.Exact.{exact_of, exact_held, exact_read}
use Rattle.region.specs.Dependence.{exact-alike}
use Rattle.checker.specs.Accepts.{record_at, Accepts}
use Rattle.checker.specs.Check.{span_of, check_of}
use Rattle.checker.specs.Exactly.{accepted-only-if}
use Rattle.mission.specs.IndexedLaws.{Along, taken}
use Rattle.mission.specs.Leading.{row_in, LeadsTo}
use Rattle.mission.specs.DescribesLaws.{file-leads}
use Rattle.mission.specs.FittedLaws.{rows-lead}
use Rattle.mission.specs.TableOf.{record_count, Gives, TableOf}
use Rattle.mission.specs.TableLaws.{accepted-gives, row-named, leading-rows, filled-table}

-- ---- an indexer's rows, by either rule

pub indexed-leads : (rule : Rule) (f : List ℕ) → Along (LeadsTo f) 0 (groups (lines f)) (rows_by rule f 0).rows (rows_by rule f 0).stop
indexed-leads Strict f = file-leads f
indexed-leads Complete f = rows-lead f

-- what its call finds, if it takes the file to its end
pub indexed-gives : (rule : Rule) (f : List ℕ) (n : ℕ) → (rows_in rule f n).stop ≡ Ok tt → Gives f (rows_in rule f n) n
indexed-gives rule f n h =
    let t = taken (rule_of rule) f n h in
    rw t.whole (record { small = t.fits; stop = t.ended; rows = leading-rows f (rows_by rule f 0).rows (rows_by rule f 0).stop (indexed-leads rule f) t.ended t.fits; room = t.room })

-- ---- the tables that the calls leave

module _ (f t t' : List ℕ) (told : Filled) where
  pub accepted-table : (i : List ℕ) → Accepts f i → FilledAs (index_in i (row_count t)) t t' told → record_count f ≤ row_count t → TableOf f t' told.rows
  accepted-table i a filled enough = filled-table f t t' _ told (accepted-gives f i a (row_count t) enough) filled

  pub indexed-table : (rule : Rule) → FilledAs (rows_in rule f (row_count t)) t t' told → told.stop ≡ Ok tt → TableOf f t' told.rows
  indexed-table rule filled e = filled-table f t t' _ told (indexed-gives rule f (row_count t) (sym filled.stop ∙ e)) filled

-- the name of row r of an accepted index, a span of the index, has the bytes of the name in record r's definition line
pub accepted-names : (f i : List ℕ) (a : Accepts f i) (r : ℕ) (h : r < record_count f)
    → name_in i (row_in (index_at i 1 0).rows r) ≡ span_of (record_at (groups (lines f)) r).def (a.each r h).both.said.name
accepted-names f i a r h = row-named f i a r h

-- ---- two tables of one file are read alike

held-alike : (f t u : List ℕ) (n : ℕ) → TableOf f t n → TableOf f u n → (r : ℕ) (a e : Option Position) (out : List ℕ)
    → exact_of (length f) (byte_at f) (held_at t n r) a e out ≡ exact_of (length f) (byte_at f) (held_at u n r) a e out
held-alike f t u n x y r a e out = go (ltb r n) refl
  where
    go : (q : Bool) → ltb r n ≡ q → exact_of (length f) (byte_at f) (held_at t n r) a e out ≡ exact_of (length f) (byte_at f) (held_at u n r) a e out
    go true h =
        let v = x.each r (ltb-true _ _ h) in
        let w = y.each r (ltb-true _ _ h) in
        let l : v.row.length ≡ w.row.length = v.about.count ∙ sym w.about.count in
        rw (v.held, w.held)
        (exact-alike (length f) (byte_at f) v.row w.row l
        (λ j k. v.about.places j (omega (arith, v.about.count)) ∙ sym (w.about.places j (omega (arith, v.about.count)))) a e out)
    go false h = rw (x.beyond r (ltb-false _ _ h), y.beyond r (ltb-false _ _ h))

pub tables_agree : (f t u : List ℕ) (n m : ℕ) → TableOf f t n → TableOf f u m → (r : ℕ) (a e : Option Position) (out : List ℕ) → exact_read f t n r a e out ≡ exact_read f u m r a e out
unfolding exact_read exact_held
tables_agree f t u n m x y r a e out =
    let q : m ≡ n = y.rows ∙ sym x.rows in
    rw q (ap (λ (o : Outcome (Result ℕ Refusal)). cond (over_limit (length f)) (refuses TooLong out) o) (held-alike f t u n x (rw q at y) r a e out))

-- R56 of docs/RULES.md: two indexes accepted for one file give equal exact reads, for every row, bounds and output
pub indexes-agree : (f i j t t' u u' : List ℕ) (told said : Filled) → Accepts f i → Accepts f j
    → FilledAs (index_in i (row_count t)) t t' told → record_count f ≤ row_count t → FilledAs (index_in j (row_count u)) u u' said → record_count f ≤ row_count u
    → (r : ℕ) (a e : Option Position) (out : List ℕ) → exact_read f t' told.rows r a e out ≡ exact_read f u' said.rows r a e out
indexes-agree f i j t t' u u' told said p q x m y n r a e out =
    tables_agree f t' u' told.rows said.rows (accepted-table f t t' told i p x m) (accepted-table f u u' said j q y n) r a e out

-- the same of two that the checker accepts
pub checked-agree : (f i j t t' u u' : List ℕ) (told said : Filled) → check_of f i ≡ Ok tt → check_of f j ≡ Ok tt
    → FilledAs (index_in i (row_count t)) t t' told → record_count f ≤ row_count t → FilledAs (index_in j (row_count u)) u u' said → record_count f ≤ row_count u
    → (r : ℕ) (a e : Option Position) (out : List ℕ) → exact_read f t' told.rows r a e out ≡ exact_read f u' said.rows r a e out
checked-agree f i j t t' u u' told said p q = indexes-agree f i j t t' u u' told said (accepted-only-if f i p) (accepted-only-if f j q)
