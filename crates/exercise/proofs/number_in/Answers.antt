-- `exercise::number_in` meets its contract: each byte has the worth of its place.
use Rattle.std.proofs.Common.{ap, ◌∙◌, arith}
use Rattle.exercise.specs.Numbers.{big_from, eight}
use Rattle.exercise.proofs.number_in.Goals as goal

pub returns : goal.returns
unfolding big_from
returns c =
    let w = c.in_ok-bytes.ensures.cases in
    (w.long, rw w.same at c.from_be_bytes.ensures ∙ (omega arith ∙ ap (big_from 0) (eight c.args.value.now w.long)))
