-- `table::kind::row` meets its contract: it asks first whether the table has the rows in use, and then whether the row is in use.
use Rattle.std.proofs.Common.{◌≤◌, ◌+◌, ◌*◌, length, ◌∙◌, ap, Err, arith}
use Rattle.table.specs.KindLaws.{row_room, used-lacking, used-unused, used-row}
use Rattle.table.proofs.kind.row.Goals as goal
use Rattle.table.proofs.kind.row.Goals.{After-WORDS}

pub returns-then-all-in_use : goal.returns-then-all-in_use
returns-then-all-in_use g c = ap Err c.bad.ensures ∙ used-lacking g.K.RowKind.kind g.K.RowKind.numbers_at _ _ _ _ c.rows-all.ensures.count c.if-all-in_use.true

pub returns-then-in_use-row : goal.returns-then-in_use-row
returns-then-in_use-row g c = ap Err c.bad-then-in_use-row.ensures ∙ used-unused g.K.RowKind.kind g.K.RowKind.numbers_at _ _ _ _ c.rows-all.ensures.count c.if-all-in_use.false c.if-in_use-row.true

-- the row is inside the table
inside : (g : _) (c : After-WORDS g) → c.args.row * g.K.RowKind.WORDS + g.K.RowKind.WORDS ≤ length (g.C.Cell.numbers c.args.table.now)
inside g c = row_room g.K.RowKind.kind _ _ _ _ c.rows-all.ensures.count g.met.K.RowKind.sized (omega arith)

pub overflow_mul-row : goal.overflow_mul-row
overflow_mul-row g c = rw c.WORDS.ensures (omega (arith, inside g (goal.at.overflow_mul-row g c).After-WORDS, c.rows-all.ensures.fits))

pub read-requires-clause-inside : goal.read-requires-clause-inside
read-requires-clause-inside g c = rw c.WORDS.ensures (inside g c)

pub read-requires-clause-fits : goal.read-requires-clause-fits
read-requires-clause-fits g c = rw c.WORDS.ensures (omega (arith, inside g c, c.rows-all.ensures.fits))

pub returns : goal.returns
returns g c =
    rw (c.read.ensures, c.WORDS.ensures, g.met.K.RowKind.sized)
    (used-row g.K.RowKind.kind g.K.RowKind.numbers_at _ _ _ _ c.rows-all.ensures.count c.if-all-in_use.false c.if-in_use-row.false)
