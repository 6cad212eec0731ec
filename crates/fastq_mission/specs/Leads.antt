-- A row of the indexer of FASTQ leads to the bases and to the qualities of its record, and its numbers can stand in a line of six columns.
use Rattle.std.specs.Prelude.{ℕ, ◌+◌, ◌^◌, ◌≤◌, ◌<◌, ◌≡◌, refl, Bool, true, false, cond, length, get_or, Ok}
use Rattle.std.proofs.Math.Path.{ap, sym}
use Rattle.std.proofs.Common.{◌∙◌, take-append-drop, drop-drop, arith, zero-add}
use mathlib.Core.List.{List, [], ◌∷◌, ◌++◌, map}
use Rattle.std.proofs.Math.ListN.{take, drop}
use Rattle.lines.specs.Lines.{lines, line_end, chop, bases_of, sum_bases, sum_widths, bases_at}
use Rattle.lines.specs.Laws.{chop-le, lines_at-cut, line_end-le}
use Rattle.lines.specs.GroupLaws.{lines-behind}
use Rattle.lines.specs.Sums.{sum-le}
use Rattle.lines.specs.declared.Span.{Span}
use Rattle.definition.specs.Definition.{is_space}
use Rattle.definition.specs.Laws.{marked-within}
use Rattle.record.specs.Place.{place_of, place_in, places_from}
use Rattle.record.specs.Laws.{length-places, get_or-places}
use Rattle.columns.specs.Lacks.{Lacks}
use Rattle.index_line.specs.IndexLine.{name_in}
use Rattle.index_line.specs.Laws.{Lined}
use Rattle.indexer.specs.Index.{line_of}
use Rattle.checker.specs.Check.{span_of}
use Rattle.checker.specs.Steps.{line-span}
use Rattle.mission.specs.NameLaws.{marked-spaceless}
use Rattle.mission.specs.IndexedLaws.{span-bytes}
use Rattle.fastq.specs.Fastq.{lines_at, plus, body_of, from_plus, body_at, qualities_of}
use Rattle.fastq.specs.Laws.{lines-plus}
use Rattle.fastq.specs.Leading.{bases-lead, qualities-lead, same-bases}
use Rattle.fastq.specs.Parts.{part_of}
use Rattle.fastq.specs.declared.Part.{Part}
use Rattle.fastq.specs.declared.Part.TheVariants.{Bases, Qualities}
use Rattle.fastq.specs.declared.QualityRow.{QualityRow}
use Rattle.fastq_checker.specs.Check.{part_lines, offsets_of}
use Rattle.fastq_mission.specs.FirstFault.{AllInPlace}
use Rattle.fastq_index.specs.Taken.{def_at, Taken}
use Rattle.fastq_mission.specs.Front.{Front, front-within}

-- a row of a file leads to its record
pub record Leads (f : List ℕ) (x : QualityRow) : Type 0 where
  -- its name lies in the file, and none of its bytes is whitespace
  pub named : x.«record».name_start + x.«record».name_length ≤ length f
  pub unbroken : Lacks is_space (name_in f x.«record»)
  -- its sequence lines, and its quality lines, are lines of the file
  pub front : (p : Part) → Front f (part_of p x).position.0 (part_lines f x p)
  -- each of the two has as many bases as the row's length
  pub counted : (p : Part) → sum_bases (part_lines f x p) ≡ x.«record».length
  -- its numbers can stand in a line
  pub lined : length f < 2 ^ 64 → Lined x.«record»
  -- every base, and every quality, is where the numbers say
  pub places : (p : Part) → AllInPlace f x x p

-- the sequence lines are the front of some lines
pub body-front : (ls : List (List ℕ)) → ls ≡ body_of ls ++ from_plus ls
unfolding body_of from_plus
body-front [] = refl
body-front (l ∷ ls) = go (plus l) (body-front ls)
  where
    go : (t : Bool) → ls ≡ body_of ls ++ from_plus ls → l ∷ ls ≡ cond t [] (l ∷ body_of ls) ++ cond t (l ∷ ls) (from_plus ls)
    go true h = refl
    go false h = ap (λ (k : List (List ℕ)). l ∷ k) h

same-places : (p b c w v n m : ℕ) → b ≡ c → w ≡ v → n ≡ m → places_from p b w 0 n ≡ places_from p c v 0 m
same-places p b c w v n m e g h = rw (e, g, h)

module _ {s : List ℕ} {at : ℕ} {x : QualityRow} {next : ℕ} (t : Taken s at x next) where
  abbrev e : ℕ
  e = line_end s at

  abbrev body : List (List ℕ)
  body = body_of (lines_at s (line_end s at))

  pub start : at + length (def_at s at) ≡ line_end s at
  start = line-span s at t.here

  -- ---- where its lines are

  pub position-is : x.«record».position.0 ≡ line_end s at
  position-is = ap (λ (y : QualityRow). y.«record».position.0) t.good.row ∙ start

  pub qualities-at : x.qualities.0 ≡ line_end s at + sum_widths body + length t.good.plus_line
  qualities-at = ap (λ (y : QualityRow). y.qualities.0) t.good.row ∙ omega (arith, start)

  plus-here : lines_at s (line_end s at + sum_widths body) ≡ t.good.plus_line ∷ t.good.behind
  unfolding body_at
  plus-here = lines-plus s (line_end s at) ∙ t.good.plus

  behind-here : lines_at s x.qualities.0 ≡ t.good.behind
  behind-here =
      let h = lines-behind (drop (line_end s at + sum_widths body) s) t.good.plus_line t.good.behind plus-here in
      rw (qualities-at, ← drop-drop (length t.good.plus_line) (line_end s at + sum_widths body) s) h

  pub bases-are : part_lines s x Bases ≡ body
  unfolding part_lines body_at
  bases-are = rw position-is

  pub qualities-are : part_lines s x Qualities ≡ take (length body) t.good.behind
  unfolding part_lines body_at
  qualities-are = rw (position-is, behind-here)

  body-within : line_end s at + sum_widths body ≤ length s
  body-within =
      front-within s (line_end s at) body
      (record { others = from_plus (lines_at s (line_end s at)); here = body-front (lines_at s (line_end s at)); inside = line_end-le s at (omega (arith, t.here)) })

  plus-within : x.qualities.0 ≤ length s
  plus-within =
      let w = front-within s (line_end s at + sum_widths body) (t.good.plus_line ∷ []) (record { others = t.good.behind; here = plus-here; inside = body-within }) in
      unfold sum_widths in omega (arith, qualities-at, w)

  -- ---- so they lead

  front_of : (p : Part) → Front s (part_of p x).position.0 (part_lines s x p)
  unfolding part_of
  front_of Bases =
      rw (bases-are, position-is)
      (record { others = from_plus (lines_at s (line_end s at)); here = body-front (lines_at s (line_end s at)); inside = line_end-le s at (omega (arith, t.here)) })
  front_of Qualities =
      rw qualities-are
      (record { others = drop (length body) t.good.behind; here = behind-here ∙ sym (take-append-drop (length body) t.good.behind); inside = plus-within })

  length-is : x.«record».length ≡ sum_bases body
  length-is = ap (λ (y : QualityRow). y.«record».length) t.good.row

  counted_of : (p : Part) → sum_bases (part_lines s x p) ≡ x.«record».length
  counted_of Bases = rw (bases-are, length-is)
  counted_of Qualities = rw (qualities-are, length-is) (same-bases body t.good.behind t.good.fit)

  abbrev first : List ℕ
  first = t.good.body.line

  bases-number : x.«record».line_bases ≡ length (bases_of first)
  bases-number = ap (λ (y : QualityRow). y.«record».line_bases) t.good.row ∙ rw t.good.body.is

  width-number : x.«record».line_width ≡ length first
  width-number = ap (λ (y : QualityRow). y.«record».line_width) t.good.row ∙ rw t.good.body.is

  abbrev rest : List (List ℕ)
  rest = t.good.body.rest

  numbers-are : (p : ℕ) → places_from p (length (bases_of first)) (length first) 0 (sum_bases (first ∷ rest)) ≡ places_from p x.«record».line_bases x.«record».line_width 0 x.«record».length
  numbers-are p = same-places p _ _ _ _ _ _ (sym bases-number) (sym width-number) (sym (length-is ∙ ap sum_bases t.good.body.is))

  offsets_are : (p : Part) → offsets_of s x p ≡ places_from (part_of p x).position.0 x.«record».line_bases x.«record».line_width 0 x.«record».length
  unfolding offsets_of part_of
  offsets_are Bases =
      ap (bases_at x.«record».position.0) (bases-are ∙ t.good.body.is)
      ∙ bases-lead x.«record».position.0 first rest t.good.body.even t.good.body.some
      ∙ numbers-are x.«record».position.0
  offsets_are Qualities =
      let lines_are : t.good.behind ≡ lines (drop x.qualities.0 s) = sym behind-here in
      let fit : qualities_of (map line_of (first ∷ rest)) (lines (drop x.qualities.0 s)) ≡ Ok tt =
      ap (λ (ls : List (List ℕ)). qualities_of (map line_of ls) (lines (drop x.qualities.0 s))) (sym t.good.body.is) ∙ ap (qualities_of (map line_of body)) behind-here ∙ t.good.fit in
      ap (bases_at x.qualities.0) (qualities-are ∙ ap (take (length body)) lines_are ∙ ap (λ (ls : List (List ℕ)). take (length ls) (lines (drop x.qualities.0 s))) t.good.body.is)
      ∙ qualities-lead x.qualities.0 first rest t.good.body.even t.good.body.some (drop x.qualities.0 s) fit
      ∙ numbers-are x.qualities.0

  placed : (p : Part) (j : ℕ) → place_of (part_of p x).position.0 x.«record».line_bases x.«record».line_width (0 + j) ≡ place_in (part_of p x) j
  unfolding part_of
  placed Bases j = ap (place_in x.«record») (zero-add j)
  placed Qualities j = ap (place_of x.qualities.0 x.«record».line_bases x.«record».line_width) (zero-add j)

  places_of : (p : Part) → AllInPlace s x x p
  places_of p j h =
      let m : j < x.«record».length = omega (arith, ap length (offsets_are p), length-places (part_of p x).position.0 x.«record».line_bases x.«record».line_width 0 x.«record».length) in
      ap (λ (os : List ℕ). get_or os j 0) (offsets_are p)
      ∙ get_or-places (part_of p x).position.0 x.«record».line_bases x.«record».line_width 0 x.«record».length j m
      ∙ placed p j

  -- ---- its name

  abbrev name : Span
  name = t.said.name

  pub name-within : name.start + name.length ≤ length (def_at s at)
  name-within = (marked-within 64 (def_at s at) t.said t.defined).2

  name-is : name_in s x.«record» ≡ span_of (def_at s at) t.said.name
  unfolding name_in
  name-is =
      ap (λ (y : QualityRow). take y.«record».name_length (drop y.«record».name_start s)) t.good.row
      ∙ span-bytes s at (def_at s at) (lines_at s (line_end s at)) t.said.name (lines_at-cut s at t.here) name-within

  named-of : x.«record».name_start + x.«record».name_length ≤ length s
  named-of =
      let a : x.«record».name_start ≡ at + name.start = ap (λ (y : QualityRow). y.«record».name_start) t.good.row in
      let b : x.«record».name_length ≡ name.length = ap (λ (y : QualityRow). y.«record».name_length) t.good.row in
      omega (arith, name-within, start, line_end-le s at (omega (arith, t.here)))

  unbroken-of : Lacks is_space (name_in s x.«record»)
  unbroken-of = rw name-is (marked-spaceless 64 (def_at s at) t.said t.defined)

  -- ---- its numbers

  lined-of : length s < 2 ^ 64 → Lined x.«record»
  lined-of small =
      let b : length (bases_of first) ≤ length first = omega (arith, chop-le 13 (chop 10 first), chop-le 10 first) in
      let w : length first + sum_widths rest ≡ sum_widths body = unfold sum_widths in sym (ap sum_widths t.good.body.is) in
      record {
        some-bases = omega (arith, bases-number, t.good.body.some);
        some-width = omega (arith, width-number, b, t.good.body.some);
        fits-length = omega (arith, length-is, sum-le body, body-within);
        fits-position = omega (arith, position-is, body-within);
        fits-bases = omega (arith, bases-number, b, w, body-within);
        fits_width = omega (arith, width-number, w, body-within);
      }

  pub taken-leads : Leads s x
  taken-leads =
      record { named = named-of; unbroken = unbroken-of; front = front_of; counted = counted_of; lined = lined-of; places = places_of }
