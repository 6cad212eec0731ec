-- `fitting::RuleSourceRecords::next` meets its contract: the row that is told, or the one of the slow way.
use Rattle.std.proofs.Common.{Some, Ok}
use Rattle.fitting.specs.Quick.{next-found}
use Rattle.fitting.proofs.RuleSourceRecords.next.Goals as goal

pub returns-in-Some-clause-next : goal.returns-in-Some-clause-next
returns-in-Some-clause-next c = next-found c.args.self c.args.s.now c.args.at (Ok (Some c.in-Some.row)) (rw c.in-Some.is at c.quick_at.ensures)

pub returns-in-None-clause-next : goal.returns-in-None-clause-next
returns-in-None-clause-next c = c.slow_row.ensures
