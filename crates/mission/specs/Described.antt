-- A row that an indexer made, by either rule, has the description that reading the record's definition line gives, at its place in the file:
-- `rows-described`. Its span is 0 and 0 if the line has no description, or an empty one.
use Rattle.std.specs.Prelude.{ℕ, zero, suc, ◌+◌, ◌<◌, ◌≡◌, refl, List, length, take, drop, Ok}
use Rattle.std.proofs.Common.{arith}
use Rattle.lines.specs.Lines.{lines}
use Rattle.lines.specs.Groups.{Group, groups}
use Rattle.definition.specs.Definition.{definition_says}
use Rattle.definition.specs.Laws.{description-within}
use Rattle.definition.specs.declared.Definition.{Definition}
use Rattle.record.specs.Description.{described_at}
use Rattle.record.specs.declared.Record.{Record}
use Rattle.indexer.specs.Rule.{row_for, good}
use Rattle.fitting.specs.declared.Rule.{Rule}
use Rattle.fitting.specs.declared.Rule.TheVariants.{Strict, Complete}
use Rattle.fitting.specs.Rules.{rule_of, rows_by}
use Rattle.checker.specs.Check.{span_of}
use Rattle.checker.specs.Accepts.{record_at, definition_at}
use Rattle.mission.specs.IndexedLaws.{span-bytes, FirstGroup, along-file, along-at}
use Rattle.mission.specs.Leading.{no_row, row_in}

-- a row's description, a span of some bytes
abbrev pub description_in : List ℕ → Record → List ℕ
description_in names x = take x.description_length (drop x.description_start names)

-- a row has the description of a record of a file, whose definition line begins at an offset
pub record DescribedAs (f : List ℕ) (at : ℕ) (g : Group) (x : Record) : Type 0 where
  pub said : Definition
  pub defined : definition_says g.def ≡ Ok said
  pub start : x.description_start ≡ described_at (at + said.description.start) said.description.length
  pub count : x.description_length ≡ said.description.length
  pub bytes : description_in f x ≡ span_of g.def said.description

-- the same, by where the sequence begins
record DescribedBefore (f : List ℕ) (start : ℕ) (g : Group) (x : Record) : Type 0 where
  at : ℕ
  begins : at + length g.def ≡ start
  row : DescribedAs f at g x

described : (f : List ℕ) (at : ℕ) (g : Group) (gs : List Group) (d : Definition) → FirstGroup f at g gs → definition_says g.def ≡ Ok d → (n p b w : ℕ)
    → DescribedBefore f (at + length g.def) g (row_for at d n p b w)
described f at g gs d h e n p b w =
    record {
      at = at;
      begins = refl;
      row = record { said = d; defined = e; start = refl; count = refl; bytes = go d.description.length refl };
    }
  where
    go : (k : ℕ) → d.description.length ≡ k → take k (drop (described_at (at + d.description.start) k) f) ≡ span_of g.def d.description
    go zero q = rw q
    go (suc k) q = rw (← q) (span-bytes f at g.def h.others d.description h.here (description-within g.def d e).0)

row-described : (rule : Rule) (f : List ℕ) (at : ℕ) (g : Group) (gs : List Group) (d : Definition) → FirstGroup f at g gs → definition_says g.def ≡ Ok d
    → (rule_of rule).judge (at + length g.def) g.seq ≡ good → DescribedBefore f (at + length g.def) g ((rule_of rule).row at (length g.def) d g.seq)
row-described Strict f at g gs d h e j = described f at g gs d h e _ _ _ _
row-described Complete f at g gs d h e j = described f at g gs d h e _ _ _ _

-- row k of a file has the description of record k
pub rows-described : (rule : Rule) (f : List ℕ) (k : ℕ) → k < length (rows_by rule f 0).rows
    → DescribedAs f (definition_at (groups (lines f)) k) (record_at (groups (lines f)) k) (row_in (rows_by rule f 0).rows k)
rows-described rule f k h =
    let b = along-at (along-file (rule_of rule) (DescribedBefore f) f (row-described rule f)) no_row k h in
    let e : b.at ≡ definition_at (groups (lines f)) k = omega (arith, b.begins) in
    rw e at b.row
