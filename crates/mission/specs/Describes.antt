-- What a row of the ported indexer says of its record: `Describes`; and of the rows of a file: `RowsDescribe`.
use Rattle.std.specs.Prelude.{ℕ, ◌+◌, ◌≤◌, ◌<◌, ◌≡◌, List, length, get_or, Ok}
use Rattle.lines.specs.Lines.{lines, first_line, all_bases, sum_bases, sum_widths, bases_at}
use Rattle.lines.specs.Groups.{Group, groups}
use Rattle.definition.specs.Definition.{is_space}
use Rattle.definition.specs.Definition as definition
use Rattle.definition.specs.declared.Definition.{Definition}
use Rattle.record.specs.Place.{place_in}
use Rattle.record.specs.declared.Record.{Record}
use Rattle.table.specs.Fill.{Found}
use Rattle.columns.specs.Lacks.{Lacks}
use Rattle.index_line.specs.IndexLine.{name_in}
use Rattle.checker.specs.Check.{span_of}
use Rattle.checker.specs.Accepts.{record_at, sequence_at}
use Rattle.mission.specs.Leading.{row_in}

-- a row describes a record of a file, whose sequence begins at an offset
pub record Describes (f : List ℕ) (start : ℕ) (g : Group) (x : Record) : Type 0 where
  -- its definition line has a name; the row's name lies in the file, its bytes are that name, and none of them is whitespace
  pub said : Definition
  pub defined : definition.definition_says g.def ≡ Ok said
  pub named : x.name_start + x.name_length ≤ length f
  pub name : name_in f x ≡ span_of g.def said.name
  pub unbroken : Lacks is_space (name_in f x)
  -- its description lies in the file too
  pub described : x.description_start + x.description_length ≤ length f
  -- its length is how many bases the sequence lines have
  pub counted : x.length ≡ length (all_bases g.seq)
  pub summed : x.length ≡ sum_bases g.seq
  -- its position is where the sequence begins, and the sequence lies in the file
  pub position : x.position.0 ≡ start
  pub inside : start + sum_widths g.seq ≤ length f
  -- its line bases and line width are those of the first line, which has a base
  pub first-bases : x.line_bases ≡ (first_line g.seq).bases
  pub first_width : x.line_width ≡ (first_line g.seq).width
  pub some-bases : 1 ≤ x.line_bases
  -- every base is where the numbers say
  pub places : (j : ℕ) → j < sum_bases g.seq → get_or (bases_at start g.seq) j 0 ≡ place_in x j

-- row k describes record k, and there is a row for each record if the file was taken to its end
pub record RowsDescribe (f : List ℕ) (r : Found) : Type 0 where
  pub each : (k : ℕ) → k < length r.rows → Describes f (sequence_at (groups (lines f)) k) (record_at (groups (lines f)) k) (row_in r.rows k)
  pub most : length r.rows ≤ length (groups (lines f))
  pub all : r.stop ≡ Ok tt → length r.rows ≡ length (groups (lines f))
