-- `writer::definition_length` meets its contract.
use Rattle.std.proofs.Common.{[], sym}
use Rattle.writer.specs.Laws.{definition-size, bare-size}
use Rattle.writer.proofs.definition_length.Goals as goal

pub returns-in-None : goal.returns-in-None
returns-in-None c = rw c.in-None.is (sym (bare-size _ []))

pub returns-in-Some : goal.returns-in-Some
returns-in-Some c = rw c.in-Some.is (sym (definition-size _ _))
