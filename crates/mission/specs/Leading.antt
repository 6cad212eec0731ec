-- Rows that lead to the bases of their records, whichever indexer gave them: their index lines match the records, are accepted, and read
-- back to the same names and numbers.
use Prim.Native.Nat.{ℕ, zero, suc, ◌+◌, ◌^◌, ◌≤◌, ◌<◌}
use Rattle.std.specs.Prelude.{◌≡◌, get_or, take, drop, Result, Ok, ⊤}
use Rattle.std.proofs.Math.Path.{refl, ap, sym}
use Rattle.std.proofs.Common.{◌∙◌, drop-drop, le-ltb, arith, zero-add}
use mathlib.Core.List.{List, [], ◌∷◌, ◌++◌}
use Rattle.std.proofs.Math.ListN.{length}
use Rattle.std.proofs.Math.Seq.{drop-append_seam}
use Rattle.refusal.specs.declared.Refusal.{Refusal}
use Rattle.refusal.specs.Numbers.{over_limit}
use Rattle.lines.specs.Lines.{lines, sum_bases, bases_at}
use Rattle.lines.specs.Groups.{Group, groups}
use Rattle.definition.specs.Definition.{is_space}
use Rattle.definition.specs.Definition as definition
use Rattle.definition.specs.declared.Definition.{Definition}
use Rattle.record.specs.Place.{place_in}
use Rattle.table.specs.Rows.{row_count, with_rows}
use Rattle.record.specs.declared.Record.{Record}
use Rattle.table.specs.Fill.{Found, with_first}
use Rattle.columns.specs.Bytes.{is}
use Rattle.columns.specs.Lacks.{Lacks}
use Rattle.output.specs.Outcome.{gives}
use Rattle.index_line.specs.IndexLine.{entry_of, columns_of, line_of, name_in, line_written, written_as}
use Rattle.index_line.specs.IndexLine as index
use Rattle.index_line.specs.Laws.{Lined}
use Rattle.index_line.specs.RoundTrip.{written-reads}
use Rattle.index.specs.Index.{lines_say, index_at}
use Rattle.checker.specs.Check.{span_of}
use Rattle.checker.specs.Accepts.{record_at, sequence_at, Matches, limit, Accepts}
use Rattle.mission.specs.NameLaws.{spaceless-lacks}
use Rattle.mission.specs.IndexedLaws.{Along, at-end, refused, row, along-at, along-all, first-line, line-name, name-read, text-written, row-held}

-- ---- what is said

-- the index line of a row, whose name is a span of a file
abbrev pub line_in : List ℕ → Record → List ℕ
line_in f x = line_of (name_in f x) x

-- the index lines of some rows, whose names are spans of a file, one after another
unfoldable pub index_text : List ℕ → List Record → List ℕ
index_text f [] = []
index_text f (x ∷ xs) = line_in f x ++ index_text f xs

-- row k of some; beyond them, zeros
abbrev pub no_row : Record
no_row = record { name_start = 0; name_length = 0; length = 0; position = record { 0 = 0 }; line_bases = 0; line_width = 0; description_start = 0; description_length = 0 }

abbrev pub row_in : List Record → ℕ → Record
row_in xs k = get_or xs k no_row

-- a row leads to the bases of a record of a file, whose sequence begins at an offset
pub record LeadsTo (f : List ℕ) (start : ℕ) (g : Group) (x : Record) : Type 0 where
  -- its definition line has a name; the row's name lies in the file, its bytes are that name, and none of them is whitespace
  pub said : Definition
  pub defined : definition.definition_says g.def ≡ Ok said
  pub named : x.name_start + x.name_length ≤ length f
  pub name : name_in f x ≡ span_of g.def said.name
  pub unbroken : Lacks is_space (name_in f x)
  -- its description lies in the file too
  pub described : x.description_start + x.description_length ≤ length f
  -- its length is how many bases the sequence lines have
  pub summed : x.length ≡ sum_bases g.seq
  -- its numbers can stand in a line
  pub lined : length f < 2 ^ 64 → Lined x
  -- every base is where the numbers say
  pub places : (j : ℕ) → j < sum_bases g.seq → get_or (bases_at start g.seq) j 0 ≡ place_in x j

-- two rows, whose names are spans of different bytes, have the same name and the same four numbers
pub record SameRow (f t : List ℕ) (x y : Record) : Type 0 where
  pub name : name_in t y ≡ name_in f x
  pub numbers : columns_of y ≡ columns_of x

-- what a whole index gives are some rows again
pub record SameRows (f t : List ℕ) (xs : List Record) (r : Found) : Type 0 where
  pub stop : r.stop ≡ Ok tt
  pub count : length r.rows ≡ length xs
  pub each : (k : ℕ) → k < length xs → SameRow f t (row_in xs k) (row_in r.rows k)

-- ---- why their index lines match and read back

module _ {f : List ℕ} {start : ℕ} {g : Group} {x : Record} (d : LeadsTo f start g x) where
  -- a name has no tab and no LF
  untabbed : Lacks (is 9) (name_in f x)
  unfolding is_space
  untabbed = spaceless-lacks 9 refl (name_in f x) d.unbroken

  -- so the line of a row, in front of others, is the first line
  line-of : (r : List ℕ) → lines (line_in f x ++ r) ≡ line_in f x ∷ lines r
  unfolding is_space
  line-of r = first-line (name_in f x) x r (spaceless-lacks 10 refl (name_in f x) d.unbroken)

  module _ (small : length f < 2 ^ 64) where
    -- so the line reads back, and matches its record, whichever its number
    reads : (n : ℕ) → index.index_line_says n (line_in f x) ≡ Ok (entry_of (length (name_in f x)) x)
    reads n = written-reads n (name_in f x) x untabbed (d.lined small)

    matched : (n : ℕ) → Matches n start g (line_in f x)
    unfolding entry_of
    matched n =
        record {
          both = record { said = d.said; defined = d.defined; entry = entry_of (length (name_in f x)) x; reads = reads n };
          name = sym d.name ∙ sym (name-read (name_in f x) x untabbed (d.lined small));
          count = sym d.summed;
          places = d.places;
        }

-- one row more in front
same_first : (f t : List ℕ) (x y : Record) (xs : List Record) (r : Found) → SameRow f t x y → SameRows f t xs r → SameRows f t (x ∷ xs) (with_first y r)
same_first f t x y xs r a h = record { stop = h.stop; count = ap suc h.count; each = go }
  where
    go : (k : ℕ) → k < suc (length xs) → SameRow f t (row_in (x ∷ xs) k) (row_in (y ∷ r.rows) k)
    go zero m = a
    go (suc k) m = h.each k (omega arith)

module _ {f : List ℕ} where
  -- line k is that of row k, and there is a line for each row
  line_at : {at : ℕ} {gs : List Group} {xs : List Record} {s : Result ⊤ Refusal} → Along (LeadsTo f) at gs xs s → (k : ℕ) → k < length xs → get_or (lines (index_text f xs)) k [] ≡ line_in f (row_in xs k)
  unfolding index_text
  line_at at-end k m = absurd (omega arith)
  line_at refused k m = absurd (omega arith)
  line_at (row {xs = xs} d h) zero m = rw (line-of d (index_text f xs))
  line_at (row {xs = xs} d h) (suc k) m = rw (line-of d (index_text f xs)) (line_at h k (omega arith))

  line-count : {at : ℕ} {gs : List Group} {xs : List Record} {s : Result ⊤ Refusal} → Along (LeadsTo f) at gs xs s → length (lines (index_text f xs)) ≡ length xs
  unfolding index_text lines
  line-count at-end = refl
  line-count refused = refl
  line-count (row {xs = xs} d h) = rw (line-of d (index_text f xs)) (ap suc (line-count h))

  -- from a line on, which begins at an offset of a text, the lines give the rows again
  read_back : {at : ℕ} {gs : List Group} {xs : List Record} {s : Result ⊤ Refusal} → length f < 2 ^ 64 → Along (LeadsTo f) at gs xs s
      → (t : List ℕ) (line o : ℕ) → drop o t ≡ index_text f xs → SameRows f t xs (lines_say line o (lines (index_text f xs)))
  unfolding index_text lines_say lines entry_of name_in
  read_back m at-end t line o e = record { stop = refl; count = refl; each = λ k h. absurd (omega arith) }
  read_back m refused t line o e = record { stop = refl; count = refl; each = λ k h. absurd (omega arith) }
  read_back m (row {x = x} {xs = xs} d h) t line o e =
      let name : List ℕ = name_in f x in
      let l : List ℕ = line_of name x in
      let rest : List ℕ = index_text f xs in
      let more = read_back m h t (suc line) (o + length l) (sym (drop-drop (length l) o t) ∙ ap (drop (length l)) e ∙ drop-append_seam l rest) in
      rw (line-of d rest, reads d m line) (same_first f t x _ xs _ (record { name = ap (take (length name)) e ∙ line-name name x rest; numbers = refl }) more)

-- ---- of all rows of a file

module _ (f : List ℕ) (xs : List Record) (s : Result ⊤ Refusal) (h : Along (LeadsTo f) 0 (groups (lines f)) xs s) where
  pub leading_at : (k : ℕ) → k < length xs → LeadsTo f (sequence_at (groups (lines f)) k) (record_at (groups (lines f)) k) (row_in xs k)
  leading_at k m = rw zero-add at (along-at h no_row k m)

  -- each index line is what the call writes of its row, if the table has all the rows and the output has room; the bytes behind it stay
  pub leading-written : (t out : List ℕ) (k : ℕ) → length f ≤ limit → length xs ≤ row_count t → k < length xs → length (line_in f (row_in xs k)) ≤ length out
      → written_as f (with_rows t 0 xs) (length xs) k out ≡ gives (line_in f (row_in xs k)) out
  unfolding written_as line_written over_limit line_of
  leading-written t out k m e q r =
      let d = leading_at k q in
      rw (le-ltb _ _ m, row-held t xs no_row k (length f) e q (d.lined (omega arith)) d.named d.described)
      (text-written (name_in f (row_in xs k)) (columns_of (row_in xs k)) out d.unbroken r)

  -- the index lines read back to rows with the same names and the same four numbers
  pub leading-read-back : length f < 2 ^ 64 → SameRows f (index_text f xs) xs (index_at (index_text f xs) 1 0)
  unfolding index_at
  leading-read-back m = read_back m h (index_text f xs) 1 0 refl

  -- if there is a row for each record, the index lines are accepted, if they too are within the limit
  pub leading-accepted : s ≡ Ok tt → length f ≤ limit → length (index_text f xs) ≤ limit → Accepts f (index_text f xs)
  leading-accepted e m n =
      let all = along-all h e in
      record {
        limits = record { fasta = m; index = n };
        count = line-count h ∙ all;
        each = λ k q. rw (line_at h k (omega arith)) (matched (leading_at k (omega arith)) (omega arith) (suc k));
      }
