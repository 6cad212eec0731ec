-- `index::is_named` meets its contract: the part of the names that is compared is the record's name.
use native.Mathlib.Nat.{add-sub_cancel_left}
use Rattle.index_line.specs.IndexLine.{name_in}
use Rattle.index.specs.Find.{named}
use Rattle.index.proofs.is_named.Goals as goal

pub returns : goal.returns
unfolding named name_in
returns c =
    let x = c.args.x in
    rw (← add-sub_cancel_left x.name_start x.name_length) c.same.ensures
