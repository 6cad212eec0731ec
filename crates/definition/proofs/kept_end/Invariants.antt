-- `definition::kept_end` meets its contract: taking whitespace off the end does not change what is kept.
use Rattle.std.proofs.Common.{◌≤◌, ◌≡◌, length, drop}
use Rattle.lines.specs.Lines.{part}
use Rattle.definition.specs.Definition.{is_space, keep}
use Rattle.definition.proofs.kept_end.Given as goal

abbrev pub invariant-loop-i : goal.invariant-loop-i
invariant-loop-i l = (l.i ≤ length l.l) × (keep is_space (part l.l l.at l.i) ≡ keep is_space (drop l.at l.l))
