-- `feeder::Feeder::piece` meets its contract: case by case.
use Rattle.std.proofs.Common.{arith, sym, ◌∙◌}
use Rattle.feeder.specs.CallLaws.{piece-none, piece-stopped, piece-unsound, piece-long, piece-fed}
use Rattle.feeder.specs.SmallLaws.{sound-fits}
use Rattle.feeder.proofs.Feeder.piece.Goals as goal

pub returns-then-p-eq0 : goal.returns-then-p-eq0
returns-then-p-eq0 c = piece-none _ _ _ c.args.self c.if-p-eq0.true

pub returns-then-not-is_live : goal.returns-then-not-is_live
returns-then-not-is_live c = piece-stopped _ _ _ _ c.if-p-eq0.false (sym c.is_live.ensures ∙ c.if-not-is_live.true) c.still_stopped.ensures

pub returns-then-not-is_sound : goal.returns-then-not-is_sound
returns-then-not-is_sound c = piece-unsound _ _ _ _ c.if-p-eq0.false (sym c.is_live.ensures ∙ c.if-not-is_live.false) (sym c.is_sound.ensures ∙ c.if-not-is_sound.true) c.refused.ensures

pub overflow_sub-self : goal.overflow_sub-self
overflow_sub-self c = (sound-fits c.args.self (sym c.is_sound.ensures ∙ c.if-not-is_sound.false)).0

pub returns-then-self-p : goal.returns-then-self-p
returns-then-self-p c = let s = (sym c.is_sound.ensures ∙ c.if-not-is_sound.false) in let k = (sound-fits c.args.self s).0 in piece-long _ _ _ _ c.if-p-eq0.false (sym c.is_live.ensures ∙ c.if-not-is_live.false) s k (omega (arith, k, c.if-self-p.true)) c.refused-then-self-p.ensures

pub absorb_lines-g-requires : goal.absorb_lines-g-requires
absorb_lines-g-requires c = let k = sound-fits c.args.self (sym c.is_sound.ensures ∙ c.if-not-is_sound.false) in (omega (arith, k.0, c.if-self-p.false), k.1)

pub returns : goal.returns
returns c = let s = (sym c.is_sound.ensures ∙ c.if-not-is_sound.false) in let k = (sound-fits c.args.self s).0 in piece-fed _ _ _ _ c.if-p-eq0.false (sym c.is_live.ensures ∙ c.if-not-is_live.false) s k _ _ (omega (arith, k, c.if-self-p.false)) c.absorb_lines-g.ensures c.kept.ensures
