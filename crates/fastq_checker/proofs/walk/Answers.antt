-- `fastq_checker::walk` meets its contract: a record that is accepted moves the place on, and from there the walk stops where it would have.
use Rattle.std.proofs.Common.{refl, sym, ◌∙◌, arith}
use Rattle.fastq_checker.specs.WalkLaws.{Moved, check-next}
use Rattle.fastq_checker.specs.PartLaws.{walk-on, walk-past, walk_end, walk-stopped, walk_refused}
use Rattle.fastq_checker.proofs.walk.Goals as goal
use Rattle.fastq_checker.proofs.walk.Goals.{In-Next}

pub loop-w-init : goal.loop-w-init
loop-w-init c = (c.requires.0, c.requires.1, refl)

pub returns-then-to-w : goal.returns-then-to-w
returns-then-to-w c = walk-past _ _ _ _ c.if-to-w.true ∙ c.loop-w.invariant.2

pub check_record-requires : goal.check_record-requires
check_record-requires c = (c.loop-w.invariant.0, c.loop-w.invariant.1)

-- the next place
moved : (c : In-Next) → let a = c.args in Moved a.fastq.now a.index.now c.loop-w.w c.in-Next.next
moved c = check-next _ _ _ _ c.loop-w.invariant.1 (sym c.check_record.ensures ∙ c.in-Next.is)

pub loop-w-smaller : goal.loop-w-smaller
loop-w-smaller c = omega (arith, moved (goal.at.loop-w-smaller c).In-Next)

pub loop-w-preserved : goal.loop-w-preserved
loop-w-preserved c =
    let m = moved (goal.at.loop-w-preserved c).In-Next in
    (omega (arith, m, c.loop-w.invariant.0), m.inside, walk-on _ _ _ _ _ c.if-to-w.false (sym c.check_record.ensures ∙ c.in-Next.is) ∙ c.loop-w.invariant.2)

pub returns-in-End : goal.returns-in-End
returns-in-End c = walk_end _ _ _ _ (sym c.check_record.ensures ∙ c.in-End.is) ∙ c.loop-w.invariant.2

pub returns-in-Stopped : goal.returns-in-Stopped
returns-in-Stopped c = walk-stopped _ _ _ _ _ (sym c.check_record.ensures ∙ c.in-Stopped.is) ∙ c.loop-w.invariant.2

pub returns-in-Refused : goal.returns-in-Refused
returns-in-Refused c = walk_refused _ _ _ _ _ (sym c.check_record.ensures ∙ c.in-Refused.is) ∙ c.loop-w.invariant.2
