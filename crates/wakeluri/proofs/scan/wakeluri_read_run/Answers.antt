-- `wakeluri::scan::wakeluri_read_run` meets its contract: it gives the call's answer as numbers; the place behind a run is inside the file, or where the run would begin.
use Rattle.std.proofs.Common.{sym, ◌∙◌, arith}
use Rattle.wakeluri.specs.Answer.{run_answer}
use Rattle.wakeluri.specs.Laws.{run_fits}
use Rattle.wakeluri.proofs.scan.wakeluri_read_run.Goals as goal

pub overflow_add-s : goal.overflow_add-s
overflow_add-s c =
    record { fits = run_fits _ _ _ _ c.read_run.ensures c.in-Ok.is (omega arith) (omega (arith, c.struct_known-1.given)) }

pub returns-in-Ok : goal.returns-in-Ok
unfolding run_answer
returns-in-Ok c =
    rw (sym c.read_run.ensures ∙ c.in-Ok.is) (rw c.fine.ensures at c.span_answer.ensures)

pub returns-in-Err : goal.returns-in-Err
unfolding run_answer
returns-in-Err c =
    rw (sym c.read_run.ensures ∙ c.in-Err.is) (rw (c.from.ensures, c.no_span.ensures) at c.span_answer-in-Err.ensures)
