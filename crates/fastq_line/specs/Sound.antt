-- What is known of a line of six columns that reads: its name is its front, and its numbers can stand in a line.
use Rattle.std.specs.Prelude.{ℕ, ◌^◌, ◌≤◌, ◌<◌, ◌≡◌, refl, List, length, take, Ok}
use Rattle.std.proofs.Common.{arith}
use Rattle.lines.specs.Lines.{content_of}
use Rattle.columns.specs.Numbers.{reads-allowed}
use Rattle.index_line.specs.AnyColumns.{Lined, name-front, numbers-lined}
use Rattle.fastq.specs.declared.QualityRow.{QualityRow}
use Rattle.fastq_line.specs.SixColumns.{six_line_says, name_of}
use Rattle.fastq_line.specs.RoundTrip.{fields-cut, line_known}
use Rattle.fastq_line.specs.declared.Entry.{Entry}

pub record LineSound (l : List ℕ) (x : QualityRow) : Type 0 where
  pub start : x.«record».name_start ≡ 0
  pub name : take x.«record».name_length l ≡ name_of l
  pub inside : x.«record».name_length ≤ length l
  pub lined : Lined x.«record»
  pub fits-qualities : x.qualities.0 < 2 ^ 64
  pub no-description : (x.«record».description_start ≡ 0) × (x.«record».description_length ≡ 0)

pub line-sound : (line : ℕ) (l : List ℕ) (e : Entry) → six_line_says line l ≡ Ok e → LineSound l e.row
unfolding name_of
line-sound line l e h =
    let k = line_known line l e h in
    let c = k.known in
    let n = name-front 5 l c.name c.fields (fields-cut (content_of l) c.name c.fields c.cut) in
    rw (k.same, c.same)
    (record {
      start = refl;
      name = rw c.cut n.0;
      inside = n.1;
      lined = numbers-lined c.reads (omega arith) (length c.name);
      fits-qualities = (reads-allowed c.reads 4 (omega arith)).0;
      no-description = (refl, refl);
    })
