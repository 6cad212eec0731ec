-- `writer::is_barred` meets its contract: the three tests are the definition's.
use Rattle.std.proofs.Common.{refl}
use Rattle.writer.specs.Text.{barred}
use Rattle.writer.proofs.is_barred.Goals as goal

pub returns : goal.returns
unfolding barred
returns c = refl
