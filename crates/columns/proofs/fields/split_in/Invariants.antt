-- `columns::fields::split_in`: at each byte `any` says whether a tab or an LF is among the bytes so far.
use Rattle.std.proofs.Common.{◌≡◌, take}
use Rattle.columns.specs.Among.{among}
use Rattle.columns.specs.Fields.{splits}
use Rattle.columns.proofs.fields.split_in.Given as goal

abbrev pub invariant-loop-b : goal.invariant-loop-b
invariant-loop-b g l = l.any ≡ among splits (take l.b-index l.b-items)
