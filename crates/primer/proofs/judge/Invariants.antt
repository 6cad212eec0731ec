-- `primer::judge` meets its contract: while each letter that it passed has a code, the letters from `i` on decide.
use Rattle.std.proofs.Common.{◌≡◌, drop}
use Rattle.primer.specs.Primer.{letters_judged}
use Rattle.primer.proofs.judge.Given as goal

abbrev pub invariant-loop-i : goal.invariant-loop-i
invariant-loop-i l = letters_judged l.i (drop l.i l.primer) ≡ letters_judged 0 l.primer
