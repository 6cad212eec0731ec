-- `primer::pattern::Pattern::find`: before each block the state is that of the bytes passed, and the primer has not ended among them.
use Rattle.std.proofs.Common.{◌*◌}
use Rattle.primer.specs.Live.{Passed, Reading}
use Rattle.primer.proofs.pattern.Pattern.find.Given as goal

abbrev pub invariant-loop-b : goal.invariant-loop-b
invariant-loop-b l = Reading l.self.primer.now l.text l.self.masks (16 * l.b) l.state × Passed l.self.primer.now l.text (16 * l.b)
