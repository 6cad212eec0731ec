-- `table::kind::store` meets its contract: the row is inside the table, or there is none.
use Rattle.std.proofs.Common.{◌≤◌, ◌+◌, ◌*◌, length, arith}
use Rattle.table.specs.KindLaws.{row_room, stored-full, stored-kept}
use Rattle.table.proofs.kind.store.Goals as goal
use Rattle.table.proofs.kind.store.Goals.{After-WORDS}

pub returns-then-all-row-clause-stored : goal.returns-then-all-row-clause-stored
returns-then-all-row-clause-stored g c =
    rw c.rows-all.ensures.count (stored-full g.K.RowKind.kind _ _ _ (rw c.rows-all.ensures.count at c.if-all-row.true))

-- the row is inside the table
inside : (g : _) (c : After-WORDS g) → c.args.row * g.K.RowKind.WORDS + g.K.RowKind.WORDS ≤ length (g.C.Cell.numbers c.args.table.now)
inside g c = row_room g.K.RowKind.kind _ _ _ _ c.rows-all.ensures.count g.met.K.RowKind.sized c.if-all-row.false

pub overflow_mul-row : goal.overflow_mul-row
overflow_mul-row g c = rw c.WORDS.ensures (omega (arith, inside g (goal.at.overflow_mul-row g c).After-WORDS, c.rows-all.ensures.fits))

pub write-requires-clause-inside : goal.write-requires-clause-inside
write-requires-clause-inside g c = rw c.WORDS.ensures (inside g c)

pub write-requires-clause-fits : goal.write-requires-clause-fits
write-requires-clause-fits g c = rw c.WORDS.ensures (omega (arith, inside g c, c.rows-all.ensures.fits))

pub returns-clause-stored : goal.returns-clause-stored
returns-clause-stored g c =
    rw (c.write.ensures.numbers, c.WORDS.ensures, g.met.K.RowKind.sized)
    (stored-kept g.K.RowKind.kind _ _ _ (rw c.rows-all.ensures.count at c.if-all-row.false))
