-- `fastq_checker::check_records` meets its contract: what the file and the lines from a place on lead to stays what they lead to as a whole.
use Rattle.std.proofs.Common.{sym, ◌∙◌, arith}
use Rattle.fastq_checker.specs.WalkLaws.{Moved, check-start, check-next, check-over, check-stopped, check-refused}
use Rattle.fastq_checker.proofs.check_records.Goals as goal
use Rattle.fastq_checker.proofs.check_records.Goals.{In-Next}

pub loop-next-init : goal.loop-next-init
loop-next-init c = (omega arith, omega arith, check-start _ _)

pub check_record-requires : goal.check_record-requires
check_record-requires c = (c.loop-next.invariant.0, c.loop-next.invariant.1)

-- the next place
moved : (c : In-Next) → let a = c.args in Moved a.fastq.now a.index.now c.loop-next.w c.in-Next.next
moved c = check-next _ _ _ _ c.loop-next.invariant.1 (sym c.check_record.ensures ∙ c.in-Next.is)

pub loop-next-smaller : goal.loop-next-smaller
loop-next-smaller c = omega (arith, moved (goal.at.loop-next-smaller c).In-Next)

pub loop-next-preserved : goal.loop-next-preserved
loop-next-preserved c = let m = moved (goal.at.loop-next-preserved c).In-Next in (omega (arith, m, c.loop-next.invariant.0), m.inside, m.leads ∙ c.loop-next.invariant.2)

pub judge_left-requires : goal.judge_left-requires
judge_left-requires c = c.loop-next.invariant.1

pub returns-in-End : goal.returns-in-End
returns-in-End c = c.judge_left.ensures ∙ check-over _ _ _ (sym c.check_record.ensures ∙ c.in-End.is) ∙ c.loop-next.invariant.2

pub returns-in-Stopped : goal.returns-in-Stopped
returns-in-Stopped c = check-stopped _ _ _ _ (sym c.check_record.ensures ∙ c.in-Stopped.is) ∙ c.loop-next.invariant.2

pub returns-in-Refused : goal.returns-in-Refused
returns-in-Refused c = c.judge_rest.ensures ∙ check-refused _ _ _ _ (sym c.check_record.ensures ∙ c.in-Refused.is) ∙ c.loop-next.invariant.2
