-- Laws for Tables.antt: the rows of an index whose lines all read, where their names lie, and rows put in a table.
use Rattle.std.specs.Prelude.{ℕ, zero, suc, ◌+◌, ◌≤◌, ◌<◌, ◌≡◌, List, [], ◌∷◌, length, take, drop, get_or, Result, Ok, ⊤}
use Rattle.std.proofs.Math.Path.{refl, sym}
use Rattle.std.proofs.Common.{ap, ◌∙◌, drop-drop, take-take, length-take-le, arith, add-zero, one-add}
use Rattle.std.proofs.Math.Nat.{zero-add}
use Rattle.refusal.specs.declared.Refusal.{Refusal}
use Rattle.lines.specs.Lines.{lines, line_len, sum_widths}
use Rattle.lines.specs.Laws.{lines_cut, line_len-le}
use Rattle.lines.specs.Groups.{groups}
use Rattle.lines.specs.GroupLaws.{lines-behind}
use Rattle.lines.specs.Sums.{widths-lines}
use Rattle.record.specs.declared.Record.{Record}
use Rattle.table.specs.Rows.{row_count, with_rows}
use Rattle.table.specs.RowLaws.{held-stored, held-unused, row_count-rows, sound-row}
use Rattle.table.specs.declared.Filled.{Filled}
use Rattle.table.specs.Fill.{Found, with_first, FilledAs}
use Rattle.index_line.specs.IndexLine.{index_line_says, name_in}
use Rattle.index_line.specs.Laws.{LineSound, line-sound}
use Rattle.index_line.specs.declared.Entry.{Entry}
use Rattle.index.specs.Index.{placed_at, lines_say, index_at, index_in}
use Rattle.checker.specs.Check.{span_of}
use Rattle.checker.specs.Accepts.{record_at, sequence_at, limit, Matches, Accepts}
use Rattle.mission.specs.IndexedLaws.{Along, along-all, index-whole}
use Rattle.mission.specs.Leading.{no_row, row_in, LeadsTo, leading_at}
use Rattle.mission.specs.TableOf.{record_count, RowsAbout, Gives, Fits, RowOf, Holds, TableOf}

pub suc-shift : (n k : ℕ) → suc n + k ≡ n + suc k
suc-shift n k = omega arith

-- ---- the rows of an index whose lines all read

-- line number n of an index reads
pub record Reads (n : ℕ) (l : List ℕ) : Type 0 where
  pub entry : Entry
  pub reads : index_line_says n l ≡ Ok entry

-- the lines from number n on all read
abbrev pub AllRead : ℕ → List (List ℕ) → Type 0
AllRead n ls = (k : ℕ) → k < length ls → Reads (n + k) (get_or ls k [])

-- where line k begins, of lines that begin at an offset: behind those before it
abbrev pub line_start : ℕ → List (List ℕ) → ℕ → ℕ
line_start at ls k = at + sum_widths (take k ls)

-- the rows of lines that begin at an offset: as many as lines, and row k is what line k says, its name where that line begins
pub record RowsOf (n at : ℕ) (ls : List (List ℕ)) (f : Found) : Type 0 where
  pub stop : f.stop ≡ Ok tt
  pub count : length f.rows ≡ length ls
  pub row : (k : ℕ) → k < length ls → (e : Entry) → index_line_says (n + k) (get_or ls k []) ≡ Ok e → row_in f.rows k ≡ placed_at (line_start at ls k) e.«record»

-- the lines behind the first
behind : (n : ℕ) (l : List ℕ) (ls : List (List ℕ)) → AllRead n (l ∷ ls) → AllRead (suc n) ls
behind n l ls read k h = let r = read (suc k) (omega arith) in record { entry = r.entry; reads = rw (suc-shift n k) r.reads }

pub start-behind : (at : ℕ) (l : List ℕ) (ls : List (List ℕ)) (k : ℕ) → line_start (at + length l) ls k ≡ line_start at (l ∷ ls) (suc k)
unfolding sum_widths
start-behind at l ls k = omega arith

-- a first line, and rows of those behind it
more_rows : (n at : ℕ) (l : List ℕ) (ls : List (List ℕ)) (e : Entry) (f : Found) → index_line_says n l ≡ Ok e → RowsOf (suc n) (at + length l) ls f
    → RowsOf n at (l ∷ ls) (with_first (placed_at at e.«record») f)
unfolding sum_widths
more_rows n at l ls e f q r = record { stop = r.stop; count = ap suc r.count; row = row }
  where
    row : (k : ℕ) → k < length (l ∷ ls) → (x : Entry) → index_line_says (n + k) (get_or (l ∷ ls) k []) ≡ Ok x
        → row_in (placed_at at e.«record» ∷ f.rows) k ≡ placed_at (line_start at (l ∷ ls) k) x.«record»
    row zero h x p =
        let z : index_line_says n l ≡ Ok x = rw (add-zero n) at p in
        let s : e ≡ x = cc in
        rw (s, add-zero at)
    row (suc k) h x p = r.row k (omega arith) x (rw (suc-shift n k) p) ∙ ap (λ (o : ℕ). placed_at o x.«record») (start-behind at l ls k)

pub rows_of : (ls : List (List ℕ)) (n at : ℕ) → AllRead n ls → RowsOf n at ls (lines_say n at ls)
unfolding lines_say
rows_of [] n at read = record { stop = refl; count = refl; row = λ k h e q. absurd (omega arith) }
rows_of (l ∷ ls) n at read =
    let r = read 0 (omega arith) in
    let e : index_line_says n l ≡ Ok r.entry = rw (add-zero n) at r.reads in
    rw e (more_rows n at l ls r.entry (lines_say (suc n) (at + length l) ls) e (rows_of ls (suc n) (at + length l) (behind n l ls read)))

-- ---- the bytes where a line begins are the line's

first-bytes : (s : List ℕ) (n : ℕ) (l : List ℕ) (ls : List (List ℕ)) → lines s ≡ l ∷ ls → n ≤ length l → take n s ≡ take n l
unfolding lines
first-bytes [] n l ls e m = let z : ◌≡◌ {A = ℕ} 0 1 = cc in absurd (omega arith)
first-bytes (b ∷ s) n l ls e m =
    let c : take (line_len (b ∷ s)) (b ∷ s) ∷ lines (drop (line_len (b ∷ s)) (b ∷ s)) ≡ l ∷ ls = sym (lines_cut (b ∷ s) (omega arith)) ∙ e in
    let p : l ≡ take (line_len (b ∷ s)) (b ∷ s) = cc in
    let r : length l ≡ line_len (b ∷ s) = ap length p ∙ length-take-le (line_len (b ∷ s)) (b ∷ s) (line_len-le (b ∷ s)) in
    sym (ap (take n) p ∙ take-take n (line_len (b ∷ s)) (b ∷ s) (omega arith))

pub line-bytes : (k n : ℕ) (s : List ℕ) (ls : List (List ℕ)) → lines s ≡ ls → k < length ls → n ≤ length (get_or ls k []) → take n (drop (sum_widths (take k ls)) s) ≡ take n (get_or ls k [])
unfolding sum_widths
line-bytes k n s [] e h m = absurd (omega arith)
line-bytes zero n s (l ∷ ls) e h m = first-bytes s n l ls e m
line-bytes (suc k) n s (l ∷ ls) e h m = rw (← drop-drop (sum_widths (take k ls)) (length l) s) (line-bytes k n (drop (length l) s) ls (lines-behind s l ls e) (omega arith) m)

pub line-inside : (ls : List (List ℕ)) (k : ℕ) → k < length ls → sum_widths (take k ls) + length (get_or ls k []) ≤ sum_widths ls
unfolding sum_widths
line-inside [] k h = absurd (omega arith)
line-inside (l ∷ ls) zero h = omega arith
line-inside (l ∷ ls) (suc k) h = omega (arith, line-inside ls k (omega arith))

-- ---- an accepted index

module _ (f i : List ℕ) (accepted : Accepts f i) where
  all_read : AllRead 1 (lines i)
  all_read k h =
      let m = accepted.each k (omega (arith, accepted.count)) in
      record { entry = m.both.entry; reads = rw (one-add k) m.both.reads }

  found : RowsOf 1 0 (lines i) (index_at i 1 0)
  unfolding index_at
  found = rows_of (lines i) 1 0 all_read

  module _ (r : ℕ) (h : r < record_count f) where
    abbrev match : Matches (suc r) (sequence_at (groups (lines f)) r) (record_at (groups (lines f)) r) (get_or (lines i) r [])
    match = accepted.each r h

    sound : LineSound (get_or (lines i) r []) match.both.entry.«record»
    sound = line-sound (suc r) (get_or (lines i) r []) match.both.entry match.both.reads

    row_is : row_in (index_at i 1 0).rows r ≡ placed_at (line_start 0 (lines i) r) match.both.entry.«record»
    row_is = found.row r (omega (arith, accepted.count)) match.both.entry (rw (one-add r) match.both.reads)

    row-about : RowOf f r (row_in (index_at i 1 0).rows r)
    row-about = rw row_is (record { count = sym match.count; places = λ j q. sym (match.places j q) })

    row_fits : Fits (row_in (index_at i 1 0).rows r)
    row_fits =
        let w = line-inside (lines i) r (omega (arith, accepted.count)) in
        let l = sound.lined in
        rw row_is
        (record {
          name-start = omega (arith, w, widths-lines i, accepted.limits.index);
          name-length = omega (arith, w, widths-lines i, accepted.limits.index, sound.inside);
          description-start = omega (arith, sound.no-description);
          description-length = omega (arith, sound.no-description);
          lined = record {
            some-bases = l.some-bases;
            some-width = l.some-width;
            fits-length = l.fits-length;
            fits-position = l.fits-position;
            fits-bases = l.fits-bases;
            fits_width = l.fits_width;
          };
        })

    -- its name, a span of the index, has the bytes of the record's name
    pub row-named : name_in i (row_in (index_at i 1 0).rows r) ≡ span_of (record_at (groups (lines f)) r).def match.both.said.name
    unfolding name_in
    row-named =
        rw (row_is, zero-add (sum_widths (take r (lines i))))
        (line-bytes r match.both.entry.«record».name_length i (lines i) refl (omega (arith, accepted.count)) sound.inside
        ∙ sound.name ∙ sym match.name)

  -- what the whole-index call finds, with room for a row for each record
  pub accepted-gives : (n : ℕ) → record_count f ≤ n → Gives f (index_in i n) n
  accepted-gives n enough =
      let c : length (index_at i 1 0).rows ≡ record_count f = found.count ∙ accepted.count in
      rw (index-whole i n accepted.limits.index (omega arith))
      (record {
        small = accepted.limits.fasta;
        stop = found.stop;
        rows = record { count = c; about = λ r h. row-about r (omega arith); fits = λ r h. row_fits r (omega arith) };
        room = omega arith;
      })

-- ---- rows that lead to the bases of their records

module _ (f : List ℕ) (xs : List Record) (s : Result ⊤ Refusal) (h : Along (LeadsTo f) 0 (groups (lines f)) xs s) where
  pub leading-rows : s ≡ Ok tt → length f ≤ limit → RowsAbout f xs
  leading-rows e m = record { count = along-all h e; about = about; fits = fits }
    where
      about : (r : ℕ) → r < length xs → RowOf f r (row_in xs r)
      about r k = let d = leading_at f xs s h r k in record { count = d.summed; places = λ j q. sym (d.places j q) }

      fits : (r : ℕ) → r < length xs → Fits (row_in xs r)
      fits r k =
          let d = leading_at f xs s h r k in
          record {
            name-start = omega (arith, d.named);
            name-length = omega (arith, d.named);
            description-start = omega (arith, d.described);
            description-length = omega (arith, d.described);
            lined = d.lined (omega arith);
          }

-- ---- rows put in a table

rows-table : (f t : List ℕ) (xs : List Record) → RowsAbout f xs → length xs ≤ row_count t → TableOf f (with_rows t 0 xs) (length xs)
rows-table f t xs a m =
    record {
      rows = a.count;
      each = each;
      beyond = λ r h. sym (held-unused (with_rows t 0 xs) (length xs) r (rw (row_count-rows t 0 xs) m) h);
    }
  where
    each : (r : ℕ) → r < length xs → Holds f (with_rows t 0 xs) (length xs) r
    each r h =
        let l = (a.fits r h).lined in
        record {
          row = row_in xs r;
          held = held-stored t no_row xs r m h ∙ sym (sound-row r (row_in xs r) (λ z. omega (arith, l.some-bases)) (λ z. omega (arith, l.some-width)));
          about = a.about r h;
        }

-- a call leaves a table of the file's records, if what it finds are rows about them
pub filled-table : (f t t' : List ℕ) (found : Found) (told : Filled) → Gives f found (row_count t) → FilledAs found t t' told → TableOf f t' told.rows
filled-table f t t' found told g filled = rw (filled.table, filled.rows) (rows-table f t found.rows g.rows g.room)
