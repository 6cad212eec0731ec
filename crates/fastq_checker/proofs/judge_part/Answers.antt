-- `fastq_checker::judge_part` meets its contract: the first base or quality at which the numbers lead apart is the first elsewhere.
use Rattle.std.proofs.Common.{sym, ◌∙◌}
use Rattle.fastq_checker.specs.JudgeLaws.{part-never, part-first}
use Rattle.fastq_checker.proofs.judge_part.Goals as goal

pub returns-in-None : goal.returns-in-None
returns-in-None c = part-never _ _ _ _ (rw (c.part.ensures, c.part-2.ensures) at (sym c.first_apart.ensures ∙ c.in-None.is))

pub returns-in-Some : goal.returns-in-Some
returns-in-Some c = part-first _ _ _ _ _ (rw (c.part.ensures, c.part-2.ensures) at (sym c.first_apart.ensures ∙ c.in-Some.is))
