-- `wakeluri::rows::wakeluri_read_raw` meets its contract: it gives the call's answer as numbers, and leaves the lent bytes as the call does; a bound is absent by its flag.
use Rattle.wakeluri.specs.Laws.{written-told}
use Rattle.table.specs.Rows.{held_at}
use Rattle.region.specs.Raw.{raw_read}
use Rattle.wakeluri.proofs.rows.wakeluri_read_raw.Goals as goal

pub returns : goal.returns
unfolding raw_read held_at
returns c =
    written-told _ _ _ _ (rw (c.bound-a.ensures, c.bound-e.ensures, c.used_row.ensures) at c.read_raw-read.ensures) c.from.ensures
