-- The part of a file that a region needs, as a host gets it.
use Rattle.std.specs.Prelude.{Result, Ok, Err}
use Rattle.refusal.specs.declared.Refusal.{Refusal}
use Rattle.refusal.specs.declared.Numbers.{Numbers}
use Rattle.refusal.specs.Numbers.{numbers_of}
use Rattle.region.specs.declared.Part.{Part}
use Rattle.wakeluri.specs.declared.window.PartAnswer.{PartAnswer}
use Rattle.wakeluri.specs.Answer.{fine}

-- no part
abbrev pub no_part : Part
no_part = record { from = record { 0 = 0 }; to = record { 0 = 0 } }

-- the struct, field by field
abbrev pub part_told : Numbers → Part → PartAnswer
part_told n part = record {
  refusal = n.refusal;
  first = n.first;
  second = n.second;
  from = part.from.0;
  to = part.to.0;
}

-- where the part begins, and the offset behind it
unfoldable pub part_answer : Result Part Refusal → PartAnswer
part_answer (Ok part) = part_told fine part
part_answer (Err f) = part_told (numbers_of f) no_part
