-- `wakeluri::window::wakeluri_needed_bytes` meets its contract: it gives the call's answer as numbers; a bound is absent by its flag.
use Rattle.std.proofs.Common.{ap, ◌∙◌}
use Rattle.region.specs.Window.{needed_read}
use Rattle.table.specs.Rows.{held_at}
use Rattle.wakeluri.specs.Window.{part_answer}
use Rattle.wakeluri.proofs.window.wakeluri_needed_bytes.Goals as goal

pub returns : goal.returns
unfolding needed_read held_at
returns c =
    c.from.ensures
    ∙ ap part_answer (rw (c.bound-a.ensures, c.bound-e.ensures, c.used_row-used.ensures) at c.needed_bytes.ensures)
