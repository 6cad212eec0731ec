-- `feeder::Feeder::end` meets its contract: case by case.
use Rattle.std.proofs.Common.{◌^◌, arith, sym, ◌∙◌}
use Rattle.feeder.specs.CallLaws.{end-stopped, end-unsound, end_empty, end-judged}
use Rattle.feeder.specs.SmallLaws.{sound-fits, fits-small}
use Rattle.feeder.proofs.Feeder.end.Goals as goal

pub returns-then-not-is_live : goal.returns-then-not-is_live
returns-then-not-is_live c = end-stopped _ _ _ (sym c.is_live.ensures ∙ c.if-not-is_live.true) c.still_stopped.ensures

pub returns-then-not-is_sound : goal.returns-then-not-is_sound
returns-then-not-is_sound c = end-unsound _ _ _ (sym c.is_live.ensures ∙ c.if-not-is_live.false) (sym c.is_sound.ensures ∙ c.if-not-is_sound.true) c.refused.ensures

pub returns-then-self-eq0 : goal.returns-then-self-eq0
returns-then-self-eq0 c = end_empty _ _ _ (sym c.is_live.ensures ∙ c.if-not-is_live.false) (sym c.is_sound.ensures ∙ c.if-not-is_sound.false) c.if-self-eq0.true c.closed.ensures

pub judge-out-requires : goal.judge-out-requires
judge-out-requires c = fits-small (2 ^ 41) _ _ (sound-fits c.args.self (sym c.is_sound.ensures ∙ c.if-not-is_sound.false)).1 (omega arith)

pub returns : goal.returns
returns c = end-judged _ _ _ (sym c.is_live.ensures ∙ c.if-not-is_live.false) (sym c.is_sound.ensures ∙ c.if-not-is_sound.false) _ _ _ c.if-self-eq0.false c.judge-out.ensures c.settle.ensures c.closed-2.ensures
