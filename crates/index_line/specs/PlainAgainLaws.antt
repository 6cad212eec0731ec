-- Laws for PlainAgain.antt: what a line that reads alone says, and a record that lies in a row.
use Rattle.std.specs.Prelude.{ℕ, ◌+◌, ◌≤◌, ◌<◌, ◌≡◌, refl, List, [], ◌∷◌, ◌++◌, Bool, true, false, cond, ◌&&◌, length, Result, Ok, Err}
use Rattle.std.proofs.Common.{sym, ap, ◌∙◌, arith}
use Rattle.std.proofs.Math.ListN.{take}
use Rattle.refusal.specs.declared.Refusal.{Refusal}
use Rattle.refusal.specs.Numbers.{over_limit}
use Rattle.refusal.specs.declared.Refusal.TheVariants.{TooLong}
use Rattle.lines.specs.Lines.{content_of}
use Rattle.record.specs.declared.Record.{Record}
use Rattle.table.specs.Rows.{named_at, row_count, row_at}
use Rattle.table.specs.RowLaws.{held-row, named-row, name-inside}
use Rattle.columns.specs.Bytes.{is, first_where}
use Rattle.columns.specs.Fields.{splits}
use Rattle.columns.specs.Reading.{field_len, cut-first}
use Rattle.columns.specs.Lacks.{Lacks, first-lacks, lacks-take, lacks-splits}
use Rattle.columns.specs.Numbers.{both}
use Rattle.index_line.specs.Ends.{plain-content}
use Rattle.index_line.specs.OneLine.{one-lacks}
use Rattle.index_line.specs.IndexLine.{plain_end, one_line, only_if, name_of, index_line_says, read_line}
use Rattle.index_line.specs.Laws.{Lined, line_known, line-sound, fields-cut}
use Rattle.index_line.specs.declared.Entry.{Entry}

-- a line that the call reads is within the limit, and plain only if it is one line
pub record ReadAlone (l : List ℕ) (e : Entry) : Type 0 where
  pub small : over_limit (length l) ≡ false
  pub entry : Entry
  pub says : index_line_says 1 l ≡ Ok entry
  pub same : e.«record» ≡ entry.«record»
  pub plain : e.plain ≡ (one_line l && entry.plain)

pub read-alone : (l : List ℕ) (e : Entry) → read_line l ≡ Ok e → ReadAlone l e
unfolding read_line
read-alone l e h = go (over_limit (length l)) refl (index_line_says 1 l) refl h
  where
    go : (t : Bool) → over_limit (length l) ≡ t → (r : Result Entry Refusal) → index_line_says 1 l ≡ r → cond t (Err TooLong) (only_if (one_line l) r) ≡ Ok e → ReadAlone l e
    go true q r s k = let z : ◌≡◌ {A = ℕ} 0 1 = cc in absurd (omega arith)
    go false q (Err f) s k = let z : ◌≡◌ {A = ℕ} 0 1 = cc in absurd (omega arith)
    go false q (Ok x) s k = record { small = q; entry = x; says = s; same = cc; plain = cc }

-- the name of a plain line that is one line has no tab, since it is cut off at the first, and no LF
module _ (l : List ℕ) (e : Entry) (h : index_line_says 1 l ≡ Ok e) where
  name-front : take e.«record».name_length l ≡ take (first_where (is 9) (content_of l)) (content_of l)
  unfolding field_len name_of
  name-front =
      let c = (line_known 1 l e h).known in
      let cut = fields-cut (content_of l) c.name c.fields c.cut in
      let first = cut-first 4 (content_of l) in
      let same : c.name ≡ take (first_where (is 9) (content_of l)) (content_of l) = cc in
      (line-sound 1 l e h).name ∙ (rw c.cut same)

  pub unsplit : e.plain ≡ true → one_line l ≡ true → Lacks splits (take e.«record».name_length l)
  unsplit p o =
      let k = line_known 1 l e h in
      let whole : l ≡ content_of l ++ (10 ∷ []) = plain-content l (both (plain_end l) k.content.plain (sym k.plain ∙ p)).0 in
      let lf : Lacks (is 10) (content_of l) = one-lacks (content_of l) (ap one_line (sym whole) ∙ o) in
      rw name-front
      (lacks-splits _ (first-lacks (is 9) (content_of l)) (lacks-take (is 10) (first_where (is 9) (content_of l)) (content_of l) lf))

-- a record that is in a row in use is held there
module _ (t : List ℕ) (n r : ℕ) (x : Record) (some : n ≤ row_count t) (used : r < n) (row : row_at t r ≡ x) (bytes : ℕ) where
  pub row-named : Lined x → x.name_start + x.name_length ≤ bytes → x.description_start + x.description_length ≤ bytes → named_at t n r bytes ≡ Ok x
  row-named lined inside described =
      named-row t n r bytes x (held-row t n r some used (rw row lined.some-bases) (rw row lined.some-width) ∙ ap Ok row) ∙ sym (name-inside r x bytes inside described)
