-- `lines::blocks::lf_in_four` meets its contract: at each place `any` says whether the bytes so far of the four blocks hold an LF.
use Rattle.std.proofs.Common.{◌≡◌, ◌||◌}
use Rattle.lines.specs.Blocks.{lf_in_either}
use Rattle.lines.proofs.blocks.lf_in_four.Given as goal

abbrev pub invariant-loop-k : goal.invariant-loop-k
invariant-loop-k g l = l.any ≡ (lf_in_either l.s l.p l.q l.k || lf_in_either l.s l.u l.v l.k)
