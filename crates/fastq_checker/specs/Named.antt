-- What is known of a line of six columns that reads: its name, as the span of a row.
use Rattle.std.specs.Prelude.{ℕ, ◌+◌, ◌≤◌, ◌≡◌, List, length, Ok}
use Rattle.std.proofs.Common.{arith}
use Rattle.record.specs.declared.Record.{Record}
use Rattle.index_line.specs.IndexLine.{name_in}
use Rattle.fastq_line.specs.SixColumns.{six_line_says, name_of}
use Rattle.fastq_line.specs.Sound.{line-sound}
use Rattle.fastq_line.specs.declared.Entry.{Entry}

pub record Named (l : List ℕ) (x : Record) : Type 0 where
  pub name : name_in l x ≡ name_of l
  pub inside : x.name_start + x.name_length ≤ length l

pub line-named : (n : ℕ) (l : List ℕ) (e : Entry) → six_line_says n l ≡ Ok e → Named l e.row.«record»
unfolding name_in
line-named n l e h = let k = line-sound n l e h in record { name = rw k.start k.name; inside = omega (arith, k.start, k.inside) }
