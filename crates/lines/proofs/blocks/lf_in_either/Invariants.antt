-- `lines::blocks::lf_in_either` meets its contract: at each place `any` says whether the bytes so far of the two blocks hold an LF.
use Rattle.std.proofs.Common.{◌≡◌}
use Rattle.lines.specs.Blocks.{lf_in_either}
use Rattle.lines.proofs.blocks.lf_in_either.Given as goal

abbrev pub invariant-loop-k : goal.invariant-loop-k
invariant-loop-k g l = l.any ≡ lf_in_either l.s l.p l.q l.k
