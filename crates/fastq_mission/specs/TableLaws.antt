-- Laws for Tables.antt: the rows of an index of six columns whose lines all read, and rows about a file's records put in a table.
use Rattle.std.specs.Prelude.{ℕ, zero, suc, ◌+◌, ◌≤◌, ◌<◌, ◌≡◌, List, [], ◌∷◌, length, take, get_or, Ok}
use Rattle.std.proofs.Math.Path.{refl}
use Rattle.std.proofs.Common.{ap, sym, ◌∙◌, le-ltb, arith, add-zero, zero-add, one-add}
use Rattle.refusal.specs.Numbers.{over_limit}
use Rattle.lines.specs.Lines.{lines, sum_widths, sum_bases}
use Rattle.record.specs.Place.{place_in}
use Rattle.record.specs.EvenLines.{length-bases_at}
use Rattle.index_line.specs.IndexLine.{name_in}
use Rattle.table.specs.declared.Filled.{Filled}
use Rattle.fastq.specs.Parts.{part_of}
use Rattle.fastq.specs.declared.Part.{Part}
use Rattle.fastq.specs.declared.Part.TheVariants.{Bases, Qualities}
use Rattle.fastq.specs.declared.QualityRow.{QualityRow}
use Rattle.fastq_line.specs.SixColumns.{six_line_says}
use Rattle.fastq_line.specs.declared.Entry.{Entry}
use Rattle.fastq_table.specs.Rows.{row_count, with_rows}
use Rattle.fastq_table.specs.Fill.{Found, with_first, FilledAs}
use Rattle.table.specs.KindLaws.{held_all}
use Rattle.fastq_index.specs.Text.{placed_at, lines_say, index_at, index_in}
use Rattle.checker.specs.Accepts.{limit}
use Rattle.mission.specs.TableLaws.{line-bytes, line_start, suc-shift, start-behind}
use Rattle.fastq_checker.specs.Check.{part_lines, offsets_of}
use Rattle.fastq_checker.specs.Accepts.{records_of, record_at, MatchesAt, Accepts}
use Rattle.fastq_mission.specs.FirstFault.{AllInPlace}
use Rattle.fastq_line.specs.Sound.{LineSound, line-sound}
use Rattle.fastq_mission.specs.Indexed.{file-leads}
use Rattle.fastq_mission.specs.TableRows.{bare, held-stored, held-beyond}
use Rattle.fastq_mission.specs.TableOf.{record_count, Holds, TableOf}

-- ---- rows about a file's records, put in a table

-- row y has the count of record x of a file and the places of its bases and qualities, and its line bases and line width are not 0
pub record About (f : List ℕ) (x y : QualityRow) : Type 0 where
  pub count : x.«record».length ≡ y.«record».length
  pub places : (p : Part) → AllInPlace f x y p
  pub some-bases : 1 ≤ y.«record».line_bases
  pub some-width : 1 ≤ y.«record».line_width

-- some rows are about a file's records, one for each
pub record RowsAbout (f : List ℕ) (ys : List QualityRow) : Type 0 where
  pub count : length ys ≡ record_count f
  pub each : (r : ℕ) → r < length ys → About f (record_at (records_of f) r) (record_at ys r)

-- as many offsets as bases
pub length-offsets : (f : List ℕ) (x : QualityRow) (p : Part) → length (offsets_of f x p) ≡ sum_bases (part_lines f x p)
unfolding offsets_of
length-offsets f x p = length-bases_at (part_of p x).position.0 (part_lines f x p)

bare-length : (y : QualityRow) (p : Part) → (part_of p (bare y)).length ≡ y.«record».length
unfolding part_of
bare-length y Bases = refl
bare-length y Qualities = refl

bare-place : (y : QualityRow) (p : Part) (j : ℕ) → place_in (part_of p (bare y)) j ≡ place_in (part_of p y) j
unfolding part_of
bare-place y Bases j = refl
bare-place y Qualities j = refl

pub rows-table : (f t : List ℕ) (ys : List QualityRow) → RowsAbout f ys → length ys ≤ row_count t → TableOf f (with_rows t 0 ys) (length ys)
rows-table f t ys a m =
    record { rows = a.count; each = each; beyond = λ r h p. held-beyond t ys m r h p }
  where
    each : (r : ℕ) → r < length ys → (p : Part) → Holds f (with_rows t 0 ys) (length ys) r p
    each r h p =
        let d = a.each r h in
        let c : sum_bases (part_lines f (record_at (records_of f) r) p) ≡ (record_at (records_of f) r).«record».length = (file-leads f r (omega (arith, a.count))).counted p in
        record {
          row = part_of p (bare (record_at ys r));
          held = held-stored t ys m r h d.some-bases d.some-width p;
          about = record {
            count = bare-length (record_at ys r) p ∙ sym d.count ∙ sym c;
            places = λ j q. bare-place (record_at ys r) p j ∙ sym (d.places p j (omega (arith, length-offsets f (record_at (records_of f) r) p)));
          };
        }

-- a call leaves a table of the file's records, if what it finds are rows about them
pub filled-table : (f t t' : List ℕ) (found : Found) (told : Filled) → RowsAbout f found.rows → length found.rows ≤ row_count t → FilledAs found t t' told → TableOf f t' told.rows
filled-table f t t' found told a room filled = rw (filled.table, filled.rows) (rows-table f t found.rows a room)

-- ---- the rows of an index whose lines all read

-- the lines from number n on all read
pub record Reads (n : ℕ) (l : List ℕ) : Type 0 where
  pub entry : Entry
  pub reads : six_line_says n l ≡ Ok entry

abbrev pub AllRead : ℕ → List (List ℕ) → Type 0
AllRead n ls = (k : ℕ) → k < length ls → Reads (n + k) (get_or ls k [])

-- the rows of lines that begin at an offset: as many as lines, and row k is what line k says, its name where that line begins
pub record RowsOf (n at : ℕ) (ls : List (List ℕ)) (f : Found) : Type 0 where
  pub stop : f.stop ≡ Ok tt
  pub count : length f.rows ≡ length ls
  pub row : (k : ℕ) → k < length ls → (e : Entry) → six_line_says (n + k) (get_or ls k []) ≡ Ok e → record_at f.rows k ≡ placed_at (line_start at ls k) e.row

-- the lines behind the first
behind : (n : ℕ) (l : List ℕ) (ls : List (List ℕ)) → AllRead n (l ∷ ls) → AllRead (suc n) ls
behind n l ls read k h = let r = read (suc k) (omega arith) in record { entry = r.entry; reads = rw (suc-shift n k) r.reads }

-- a first line, and rows of those behind it
more_rows : (n at : ℕ) (l : List ℕ) (ls : List (List ℕ)) (e : Entry) (f : Found) → six_line_says n l ≡ Ok e → RowsOf (suc n) (at + length l) ls f
    → RowsOf n at (l ∷ ls) (with_first (placed_at at e.row) f)
unfolding sum_widths
more_rows n at l ls e f q r = record { stop = r.stop; count = ap suc r.count; row = row }
  where
    row : (k : ℕ) → k < length (l ∷ ls) → (x : Entry) → six_line_says (n + k) (get_or (l ∷ ls) k []) ≡ Ok x
        → record_at (placed_at at e.row ∷ f.rows) k ≡ placed_at (line_start at (l ∷ ls) k) x.row
    row zero h x p =
        let z : six_line_says n l ≡ Ok x = rw (add-zero n) at p in
        let s : e ≡ x = cc in
        rw (s, add-zero at)
    row (suc k) h x p = r.row k (omega arith) x (rw (suc-shift n k) p) ∙ ap (λ (o : ℕ). placed_at o x.row) (start-behind at l ls k)

pub rows_of : (ls : List (List ℕ)) (n at : ℕ) → AllRead n ls → RowsOf n at ls (lines_say n at ls)
unfolding lines_say
rows_of [] n at read = record { stop = refl; count = refl; row = λ k h e q. absurd (omega arith) }
rows_of (l ∷ ls) n at read =
    let r = read 0 (omega arith) in
    let e : six_line_says n l ≡ Ok r.entry = rw (add-zero n) at r.reads in
    rw e (more_rows n at l ls r.entry (lines_say (suc n) (at + length l) ls) e (rows_of ls (suc n) (at + length l) (behind n l ls read)))

-- an index within the limit, whose rows a table has room for, is read whole
pub index-whole : (t : List ℕ) (n : ℕ) → length t ≤ limit → length (index_at t 1 0).rows ≤ n → index_in t n ≡ index_at t 1 0
unfolding index_in over_limit
index-whole t n h k = rw (le-ltb _ _ h) (held_all n n (index_at t 1 0) k)

-- ---- an accepted index

module _ (f i : List ℕ) (accepted : Accepts f i) where
  all_read : AllRead 1 (lines i)
  all_read k h =
      let m = accepted.each k (omega (arith, accepted.count)) in
      record { entry = m.entry; reads = rw (one-add k) m.reads }

  pub found : RowsOf 1 0 (lines i) (index_at i 1 0)
  unfolding index_at
  found = rows_of (lines i) 1 0 all_read

  module _ (r : ℕ) (h : r < record_count f) where
    abbrev match : MatchesAt f i r
    match = accepted.each r h

    sound : LineSound (get_or (lines i) r []) match.entry.row
    sound = line-sound (suc r) (get_or (lines i) r []) match.entry match.reads

    row_is : record_at (index_at i 1 0).rows r ≡ placed_at (line_start 0 (lines i) r) match.entry.row
    row_is = found.row r (omega (arith, accepted.count)) match.entry (rw (one-add r) match.reads)

    moved : (p : Part) (j : ℕ) → place_in (part_of p match.entry.row) j ≡ place_in (part_of p (placed_at (line_start 0 (lines i) r) match.entry.row)) j
    unfolding part_of
    moved Bases j = refl
    moved Qualities j = refl

    row-about : About f (record_at (records_of f) r) (record_at (index_at i 1 0).rows r)
    row-about =
        let l = sound.lined in
        rw row_is (record { count = match.count; places = λ p j q. match.places p j q ∙ moved p j; some-bases = l.some-bases; some-width = l.some-width })

    -- its name, a span of the index, has the bytes of the record's name in the file
    pub row-named : name_in i (record_at (index_at i 1 0).rows r).«record» ≡ name_in f (record_at (records_of f) r).«record»
    row-named =
        ap (λ (y : QualityRow). name_in i y.«record») row_is
        ∙ ap (λ (o : ℕ). name_in i (placed_at o match.entry.row).«record») (zero-add (sum_widths (take r (lines i))))
        ∙ bytes
        ∙ sound.name
        ∙ sym match.name
      where
        bytes : name_in i (placed_at (sum_widths (take r (lines i))) match.entry.row).«record» ≡ take match.entry.row.«record».name_length (get_or (lines i) r [])
        bytes = unfold name_in in line-bytes r match.entry.row.«record».name_length i (lines i) refl (omega (arith, accepted.count)) sound.inside

  pub index-rows : RowsAbout f (index_at i 1 0).rows
  index-rows =
      let c : length (index_at i 1 0).rows ≡ record_count f = found.count ∙ accepted.count in
      record { count = c; each = λ r h. row-about r (omega arith) }

  -- what the whole-index call finds, with room for a row for each record
  pub index-found : (n : ℕ) → record_count f ≤ n → index_in i n ≡ index_at i 1 0
  index-found n enough = index-whole i n accepted.limits.index (omega (arith, found.count, accepted.count))
