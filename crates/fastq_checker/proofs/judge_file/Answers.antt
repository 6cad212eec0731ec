-- `fastq_checker::judge_file` meets its contract: what the indexer refuses from `i` on is what it refuses from `at` on.
use Rattle.std.proofs.Common.{◌<◌, ◌≡◌, refl, ap, ◌∙◌, arith, length, Result, Ok, Err, rules}
use Rattle.std.specs.Bool.{⊤}
use Rattle.refusal.specs.declared.Refusal.{Refusal}
use Rattle.fastq_index.specs.File.{rows_at}
use Rattle.fastq_checker.specs.Steps.{stop_then}
use Rattle.fastq_checker.specs.WalkLaws.{stop-on, stop-end, stop-refused}
use Rattle.fastq_checker.proofs.judge_file.Goals as goal
use Rattle.fastq_checker.proofs.judge_file.Goals.{In-Some}

pub loop-i-init : goal.loop-i-init
loop-i-init c = refl

-- a record moves the place on
turn : (c : In-Some) → let f = c.args.fastq.now in ((rows_at f c.index_at-step.result.next).stop ≡ (rows_at f c.loop-i.i).stop) × (c.loop-i.i < length f) × (c.loop-i.i < c.index_at-step.result.next)
turn c = stop-on _ _ _ c.index_at-step.ensures _ (c.in_ok-step.was ∙ ap Ok c.in-Some.is)

pub loop-i-smaller : goal.loop-i-smaller
loop-i-smaller c = omega (arith, turn (goal.at.loop-i-smaller c).In-Some)

pub loop-i-preserved : goal.loop-i-preserved
loop-i-preserved c = (turn (goal.at.loop-i-preserved c).In-Some).0 ∙ c.loop-i.invariant

pub returns-in-None : goal.returns-in-None
returns-in-None c =
    stop-end _ _ _ c.index_at-step.ensures (c.in_ok-step.was ∙ ap Ok c.in-None.is) ∙ ap (λ (s : Result ⊤ Refusal). stop_then s (Ok tt)) c.loop-i.invariant

pub returns-in_err-step : goal.returns-in_err-step
returns-in_err-step c =
    let e : c.from_residual.result ≡ Err c.in_err-step.field-0.0 = search rules in
    e ∙ (stop-refused _ _ _ c.index_at-step.ensures _ c.in_err-step.was ∙ ap (λ (s : Result ⊤ Refusal). stop_then s (Ok tt)) c.loop-i.invariant)
