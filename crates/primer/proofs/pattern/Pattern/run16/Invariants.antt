-- `primer::pattern::Pattern::run16`: it keeps the bits of all states on the way, so that one test shows whether any had the highest.
use Rattle.std.proofs.Common.{◌+◌, ◌<◌}
use Rattle.primer.specs.Live.{Passed, Reading}
use Rattle.primer.proofs.pattern.Pattern.run16.Given as goal

abbrev pub invariant-loop-k : goal.invariant-loop-k
invariant-loop-k l = Reading l.self.primer.now l.text l.self.masks (l.at + l.k) l.state × (l.seen < l.self.last → Passed l.self.primer.now l.text (l.at + l.k))
