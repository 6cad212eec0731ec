-- `writer::any_listed` meets its contract: before each turn the mark says whether one of the bytes so far is no base.
use Rattle.std.proofs.Common.{refl, sym}
use Rattle.writer.specs.Text.{any_of, barred}
use Rattle.writer.specs.Laws.{any_next}
use Rattle.writer.proofs.any_listed.Goals as goal

pub loop-b-init : goal.loop-b-init
unfolding any_of
loop-b-init c = refl

pub loop-b-preserved : goal.loop-b-preserved
loop-b-preserved c = rw (c.loop-b.invariant, c.is_barred-any.ensures) (sym (any_next barred c.args.s.now c.loop-b.b-index c.loop-b-test.true))
