-- A line that is written reads back as the same name and numbers, over the two calls too; and what a plain line says is written as the same
-- bytes, which PlainAgain.antt makes a theorem over the two calls.
use Rattle.std.specs.Prelude.{ℕ, ◌^◌, ◌≤◌, ◌<◌, ◌≡◌, List, [], ◌∷◌, true, length, get_or, take, Ok}
use Rattle.std.proofs.Common.{sym, ap, ◌∙◌, append_assoc, arith, length-take, le-ltb}
use Rattle.refusal.specs.Numbers.{over_limit}
use Rattle.lines.specs.Lines.{content_of}
use Rattle.record.specs.declared.Record.{Record}
use Rattle.table.specs.Rows.{named_at}
use Rattle.table.specs.RowLaws.{held-known, named-known}
use Rattle.columns.specs.Bytes.{is}
use Rattle.output.specs.Outcome.{leaves}
use Rattle.columns.specs.Fields.{numbers_text, text_of}
use Rattle.columns.specs.Lacks.{Lacks, splits-tab}
use Rattle.index_line.specs.OneLine.{line-one}
use Rattle.columns.specs.Numbers.{reads-count}
use Rattle.index_line.specs.Ends.{content-lf, plain-lf}
use Rattle.index_line.specs.AnyColumns.{name-front, plain-text}
use Rattle.index_line.specs.IndexLine.{entry_of, index_line_says, read_line, columns_of, line_of, name_in, written_as}
use Rattle.index_line.specs.Laws.{Lined, line_known, fields-cut}
use Rattle.index_line.specs.declared.Entry.{Entry}
use Rattle.index_line.specs.RoundTripLaws.{content-written, ends-digit, line-written, row-lined, line-front, four}

-- a line that is written reads back as the same name bytes and the same four numbers, and is plain
pub written-reads : (line : ℕ) (name : List ℕ) (x : Record) → Lacks (is 9) name → Lined x → index_line_says line (line_of name x) ≡ Ok (entry_of (length name) x)
unfolding index_line_says line_of text_of entry_of
written-reads line name x h p =
    let e = ends-digit name x.length (x.position.0 ∷ x.line_bases ∷ x.line_width ∷ []) in
    rw (← append_assoc name (numbers_text (columns_of x)) (10 ∷ []), plain-lf _ e, content-lf _ e, content-written line name x h p)

-- the line that the one call writes reads back by the other, if it is within the limit: the row's name bytes at its front, and the row's four
-- numbers
pub record ReadBack (names t : List ℕ) (n r k : ℕ) (after : List ℕ) : Type 0 where
  pub row : Record
  pub held : named_at t n r (length names) ≡ Ok row
  pub read : read_line (take k after) ≡ Ok (entry_of row.name_length row)
  pub name : take row.name_length after ≡ name_in names row

pub reads-back : (names t : List ℕ) (n r : ℕ) (out : List ℕ) (k : ℕ) (after : List ℕ) → ((i : ℕ) → get_or t i 0 < 2 ^ 64)
    → written_as names t n r out ≡ leaves (Ok k) after → k ≤ 1099511627776 → ReadBack names t n r k after
unfolding read_line over_limit line_of
reads-back names t n r out k after f h m =
    let w = line-written names t n r out k after h in
    let x = w.row in
    let lined = row-lined t n r x f (held-known t n r x (named-known t n r (length names) x w.held).0) in
    let untabbed = splits-tab (name_in names x) w.put.whole in
    let small : length (take k after) ≤ 1099511627776 = omega (arith, length-take k after) in
    record {
      row = x;
      held = w.held;
      read = rw (le-ltb _ _ small, w.put.front, ← w.name, line-one (name_in names x) x w.put.whole, written-reads 1 (name_in names x) x untabbed lined);
      name = rw (← w.name) (line-front (name_in names x) x k after w.put.front);
    }

-- the line of what a plain line says has the same bytes
pub plain-writes : (line : ℕ) (l : List ℕ) (e : Entry) → index_line_says line l ≡ Ok e → e.plain ≡ true
    → line_of (take e.«record».name_length l) e.«record» ≡ l
unfolding line_of
plain-writes line l e h p =
    let k = line_known line l e h in
    let c = k.known in
    let cut = fields-cut (content_of l) c.name c.fields c.cut in
    rw (k.same, c.same, (name-front 4 l c.name c.fields cut).0)
    (ap (text_of c.name) (four c.numbers (length c.name) (reads-count c.reads)) ∙ plain-text 4 l c.name c.fields cut c.numbers k.content.plain c.reads (sym k.plain ∙ p))
