-- `fastq_checker::Place::check_record` meets its contract: by what the indexer finds at the place.
use Rattle.std.proofs.Common.{◌∙◌, ◌≡◌, ap, Ok, Some, None, arith}
use Rattle.fastq_checker.specs.WalkLaws.{row-taken, step_row, step_end, step-stopped}
use Rattle.fastq_checker.proofs.Place.check_record.Goals as goal

pub check_row-requires : goal.check_row-requires
check_row-requires c =
    let k = row-taken _ _ _ c.index_at-step.ensures _ (let a : c.index_at-step.result.answer ≡ Ok c.in-Ok-Some.field-0 = c.in-Ok-Some.is in let q : c.in-Ok-Some.field-0 ≡ Some c.in-Ok-Some.x = rw a at c.in-Ok-Some.field-0-is in a ∙ ap Ok q) in
    (omega (arith, k.0), c.requires.1, k.1)

pub returns-in-Ok-Some : goal.returns-in-Ok-Some
returns-in-Ok-Some c = c.check_row.ensures ∙ step_row _ _ _ _ c.index_at-step.ensures _ (let a : c.index_at-step.result.answer ≡ Ok c.in-Ok-Some.field-0 = c.in-Ok-Some.is in let q : c.in-Ok-Some.field-0 ≡ Some c.in-Ok-Some.x = rw a at c.in-Ok-Some.field-0-is in a ∙ ap Ok q)

pub returns-in-Ok-None : goal.returns-in-Ok-None
returns-in-Ok-None c = step_end _ _ _ _ c.index_at-step.ensures (let a : c.index_at-step.result.answer ≡ Ok c.in-Ok-None.field-0 = c.in-Ok-None.is in let q : c.in-Ok-None.field-0 ≡ None = rw a at c.in-Ok-None.field-0-is in a ∙ ap Ok q)

pub returns-in-Err : goal.returns-in-Err
returns-in-Err c = step-stopped _ _ _ _ c.index_at-step.ensures _ c.in-Err.is
