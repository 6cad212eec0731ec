-- What is known of a record that the indexer takes: its name lies in the file, and its numbers lead to every base and to every quality.
use Rattle.std.specs.Prelude.{ℕ, ◌+◌, ◌≤◌, ◌<◌, ◌≡◌, List, ◌∷◌, map, length, drop, Some, Ok}
use Rattle.std.proofs.Common.{◌∙◌, drop-drop, arith}
use Rattle.lines.specs.declared.Span.{Span}
use Rattle.lines.specs.Lines.{line_end, sum_widths}
use Rattle.lines.specs.Laws.{part_length, line_end-le, line_end-gt}
use Rattle.lines.specs.GroupLaws.{lines-behind}
use Rattle.definition.specs.Laws.{marked-within}
use Rattle.indexer.specs.Index.{line_of}
use Rattle.fastq.specs.Fastq.{lines_at, from_plus, body_at, rest_of, qualities_of, row_for, record_at}
use Rattle.fastq.specs.Laws.{lines-plus}
use Rattle.fastq.specs.Leading.{bases-lead, qualities-lead}
use Rattle.fastq.specs.Parts.{part_of}
use Rattle.fastq.specs.declared.Part.{Part}
use Rattle.fastq.specs.declared.Part.TheVariants.{Bases, Qualities}
use Rattle.fastq.specs.declared.QualityRow.{QualityRow}
use Rattle.fastq_index.specs.Taken.{def_at, record-taken}
use Rattle.fastq_checker.specs.Check.{part_lines, offsets_of}
use Rattle.fastq_checker.specs.Elsewhere.{places_of}

pub record Taken (f : List ℕ) (x : QualityRow) : Type 0 where
  pub inside : x.«record».name_start + x.«record».name_length ≤ length f
  pub leads : (p : Part) → offsets_of f x p ≡ places_of (part_of p x)

-- the row of good lines, at an offset of a file
module _ (f : List ℕ) (at n : ℕ) (name : Span) (l : List ℕ) (ls : List (List ℕ)) (p : List ℕ) (qs : List (List ℕ)) where
  abbrev behind : ℕ
  behind = at + n + sum_widths (l ∷ ls) + length p

  row-leads : body_at f (at + n) ≡ l ∷ ls → 0 < (line_of l).bases → rest_of (line_of l) ls ≡ Ok tt → lines_at f behind ≡ qs → qualities_of (map line_of (l ∷ ls)) qs ≡ Ok tt
      → (w : Part) → offsets_of f (row_for at n name (l ∷ ls) (length p)) w ≡ places_of (part_of w (row_for at n name (l ∷ ls) (length p)))
  unfolding offsets_of part_lines part_of
  row-leads b some good k g Bases = rw b (bases-lead (at + n) l ls good some)
  row-leads b some good k g Qualities = rw b (qualities-lead behind l ls good some (drop behind f) (rw k g))

-- the lines behind the '+' line
quality-lines : (f : List ℕ) (at : ℕ) (p : List ℕ) (qs : List (List ℕ)) → from_plus (lines_at f at) ≡ p ∷ qs → lines_at f (at + sum_widths (body_at f at) + length p) ≡ qs
quality-lines f at p qs e =
    rw (← drop-drop (length p) (at + sum_widths (body_at f at)) f)
    (lines-behind (drop (at + sum_widths (body_at f at)) f) p qs (lines-plus f at ∙ e))

-- a record that the indexer takes, by its lines
pub taken : (f : List ℕ) (at : ℕ) (x : QualityRow) → (record_at f at).answer ≡ Ok (Some x) → Taken f x
unfolding body_at
taken f at x e =
    let t = record-taken f at x e in
    let g = t.good in
    let b = g.body in
    let n : ℕ = length (def_at f at) in
    let long = part_length f at (line_end f at) (line_end-le f at (omega (arith, t.here))) in
    let q : at + n ≡ line_end f at = omega (arith, long, line_end-gt f at t.here) in
    let body : body_at f (at + n) ≡ b.line ∷ b.rest = rw q b.is in
    let behind : lines_at f (at + n + sum_widths (b.line ∷ b.rest) + length g.plus_line) ≡ g.behind = rw body at (quality-lines f (at + n) g.plus_line g.behind (rw q g.plus)) in
    let row : x ≡ row_for at n t.said.name (b.line ∷ b.rest) (length g.plus_line) = rw b.is at g.row in
    rw row
    (record {
      inside = omega (arith, marked-within 64 (def_at f at) t.said t.defined, line_end-le f at (omega (arith, t.here)), q);
      leads = row-leads f at n t.said.name b.line b.rest g.plus_line g.behind body (omega (arith, b.some)) b.even behind (rw b.is at g.fit);
    })
