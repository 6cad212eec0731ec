-- Mending a base in place (docs/RULES.md, R55). Base j + 1 of record k of a file f lies at offset o (`BaseAt`); the byte there is replaced by
-- b, which is not LF, CR or '>' (`Plain`). An index that the checker accepts for f is accepted for the mended file (`mended-accepted` and `mended-checked`
-- of checker/specs/Mended.antt). With a table of f's records (`TableOf`, which the whole-index call leaves of an accepted index), an exact
-- read that does not cover that base answers as before, output and all: `mended-elsewhere`. One that covers it differs only there:
-- `mended-here`; `changed-answer` and `changed-other` of region/specs/Changed.antt say what that leaves. For an accepted index they are
-- `pair-elsewhere` and `pair-here`. That two indexes of one file are read alike is `indexes-agree` of Tables.antt.
use Rattle.std.specs.Prelude.{ℕ, suc, ◌-◌, ◌≤◌, ◌≡◌, List, set, Option}
use Rattle.record.specs.declared.Position.{Position}
use Rattle.table.specs.Rows.{row_count}
use Rattle.table.specs.declared.Filled.{Filled}
use Rattle.table.specs.Fill.{FilledAs}
use Rattle.index.specs.Index.{index_in}
use Rattle.region.specs.Region.{start_of}
use Rattle.region.specs.Exact.{exact_read}
use Rattle.region.specs.Changed.{changed_at}
use Rattle.checker.specs.Accepts.{Accepts}
use Rattle.checker.specs.Mend.{BaseAt, Plain}
use Rattle.mission.specs.TableOf.{record_count, TableOf}
use Rattle.mission.specs.Tables.{accepted-table}
use Rattle.mission.specs.Covers.{Covers}
use Rattle.mission.specs.MendingLaws.{read-elsewhere, read_here}

module _ (f : List ℕ) (k j o b : ℕ) (base : BaseAt f k j o) (plain : Plain b) where
  module _ (t : List ℕ) (n : ℕ) (table : TableOf f t n) (r : ℕ) (a e : Option Position) (out : List ℕ) where
    pub mended-elsewhere : (Covers f k j r a e → ⊥) → exact_read (set f o b) t n r a e out ≡ exact_read f t n r a e out
    mended-elsewhere = read-elsewhere f k j o b base plain t n table r a e out

    pub mended-here : Covers f k j r a e → exact_read (set f o b) t n r a e out ≡ changed_at (suc j - start_of a) b (exact_read f t n r a e out)
    mended-here = read_here f k j o b base plain t n table r a e out

  -- the same of the table that the whole-index call leaves of an accepted index
  module _ (i t t' : List ℕ) (told : Filled) (accepted : Accepts f i) (filled : FilledAs (index_in i (row_count t)) t t' told) (enough : record_count f ≤ row_count t) (r : ℕ) (a e : Option Position) (out : List ℕ) where
    pub pair-elsewhere : (Covers f k j r a e → ⊥) → exact_read (set f o b) t' told.rows r a e out ≡ exact_read f t' told.rows r a e out
    pair-elsewhere = mended-elsewhere t' told.rows (accepted-table f t t' told i accepted filled enough) r a e out

    pub pair-here : Covers f k j r a e → exact_read (set f o b) t' told.rows r a e out ≡ changed_at (suc j - start_of a) b (exact_read f t' told.rows r a e out)
    pair-here = mended-here t' told.rows (accepted-table f t t' told i accepted filled enough) r a e out
