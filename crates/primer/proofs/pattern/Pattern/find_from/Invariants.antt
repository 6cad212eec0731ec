-- `primer::pattern::Pattern::find_from`: as in `find`, byte by byte; the highest bit says that the primer ends here.
use Rattle.primer.specs.Live.{Passed, Reading}
use Rattle.primer.proofs.pattern.Pattern.find_from.Given as goal

abbrev pub invariant-loop-i : goal.invariant-loop-i
invariant-loop-i l = Reading l.self.primer.now l.text l.self.masks l.i l.state × Passed l.self.primer.now l.text l.i
