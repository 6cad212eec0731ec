-- `columns::fields::split_in`: at each byte `any` says whether a tab or an LF is among the bytes so far.
use Rattle.std.proofs.Common.{[], arith}
use Rattle.columns.specs.Among.{among_none, either-more}
use Rattle.columns.specs.Fields.{splits}
use Rattle.columns.proofs.fields.split_in.Goals as goal

pub loop-b-init : goal.loop-b-init
loop-b-init g c = among_none splits []

pub loop-b-preserved : goal.loop-b-preserved
loop-b-preserved g c = either-more _ _ 9 10 _ (omega arith) c.loop-b.invariant
