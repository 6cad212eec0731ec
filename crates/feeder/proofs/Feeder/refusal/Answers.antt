-- `feeder::Feeder::refusal` meets its contract: case by case.
use Rattle.std.proofs.Common.{◌∙◌}
use Rattle.feeder.specs.Calls.{refusal_in}
use Rattle.feeder.specs.CallLaws.{refusal-none}
use Rattle.feeder.proofs.Feeder.refusal.Goals as goal

pub returns-in-Halted : goal.returns-in-Halted
unfolding refusal_in
returns-in-Halted c = rw c.in-Halted.is

pub returns-in_default : goal.returns-in_default
returns-in_default c = c.no_refusal.ensures ∙ refusal-none _ c.in_default.not-Halted
