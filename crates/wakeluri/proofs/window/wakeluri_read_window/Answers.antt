-- `wakeluri::window::wakeluri_read_window` meets its contract: it gives the call's answer as numbers, and leaves the lent bytes as the call does; a bound is absent by its flag.
use Rattle.wakeluri.specs.Laws.{written-told}
use Rattle.table.specs.Rows.{held_at}
use Rattle.region.specs.Window.{window_read}
use Rattle.wakeluri.proofs.window.wakeluri_read_window.Goals as goal

pub returns : goal.returns
unfolding window_read held_at
returns c =
    written-told _ _ _ _ (rw (c.bound-a.ensures, c.bound-e.ensures, c.used_row-used.ensures) at c.read_window-read.ensures) c.from.ensures
