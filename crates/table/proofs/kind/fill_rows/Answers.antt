-- `table::kind::fill_rows` meets its contract: the rows in the table, with those that the text from `at` on still gives, are those of the text from `from` on.
use Rattle.std.proofs.Common.{◌<◌, ◌+◌, refl, ◌∙◌, arith, ap, length, Ok, Err}
use Rattle.table.specs.KindLaws.{Onward, onward-start, onward_within, turn_on, turn-stops, kept-next}
use Rattle.table.proofs.kind.fill_rows.Goals as goal
use Rattle.table.proofs.kind.fill_rows.Goals.{In-Ok-Some}

pub loop-behind-init : goal.loop-behind-init
loop-behind-init g c = (refl, onward-start _ _ _ refl, refl, g.met.S.Source.start _ _ _)

pub next-requires : goal.next-requires
next-requires g c = omega (arith, (onward_within _ _ _ _ _ c.loop-behind.invariant.1).1, g.met.C.Cell.few c.args.table.now)

-- a turn that goes on: what the text from its place on still gives is the row that was kept, and what the text behind it gives
turn : (g : _) (c : In-Ok-Some g) → let a = c.args in let k = g.K.RowKind.kind in let t = g.C.Cell.numbers a.table.now in
    Onward k (k.row_count t) t (g.S.Source.rows a.source a.text.now 0 a.from) (c.loop-behind.n + 1) (g.S.Source.rows a.source a.text.now (c.loop-behind.n + 1) c.in-Ok-Some.behind) (g.C.Cell.numbers c.keep.new.table)
    × (c.loop-behind.at < length a.text.now) × (c.loop-behind.at < c.in-Ok-Some.behind)
turn g c =
    turn_on _ _ _ _ _ _ _ _ _ _ c.next.ensures.next c.loop-behind.invariant.1 _ _ c.keep.ensures.kept _ (c.in-Ok-Some.is ∙ ap Ok c.in-Ok-Some.field-0-is)

-- and its place is behind one row more
place : (g : _) (c : In-Ok-Some g) → let a = c.args in g.S.Source.reached a.source a.text.now a.from (c.loop-behind.n + 1) c.in-Ok-Some.behind
place g c =
    let k = kept-next _ _ _ _ _ c.keep.ensures.kept _ (c.in-Ok-Some.is ∙ ap Ok c.in-Ok-Some.field-0-is) in
    c.next.ensures.reached _ _ k.0 k.1 c.loop-behind.invariant.3

pub overflow_add-n : goal.overflow_add-n
overflow_add-n g c =
    omega (arith, (onward_within _ _ _ _ _ (turn g (goal.at.overflow_add-n g c).In-Ok-Some).0).0, g.met.C.Cell.few c.args.table.now)

pub loop-behind-smaller : goal.loop-behind-smaller
loop-behind-smaller g c = omega (arith, turn g (goal.at.loop-behind-smaller g c).In-Ok-Some)

pub loop-behind-preserved : goal.loop-behind-preserved
loop-behind-preserved g c =
    let i = (goal.at.loop-behind-preserved g c).In-Ok-Some in
    (c.keep.auto.table ∙ c.loop-behind.invariant.0, (turn g i).0, c.keep.ensures.rest ∙ c.loop-behind.invariant.2, place g i)

pub shape_of-table-in-Ok-None : goal.shape_of-table-in-Ok-None
shape_of-table-in-Ok-None g c = c.keep.auto.table ∙ c.loop-behind.invariant.0

pub returns-in-Ok-None-clause-filled : goal.returns-in-Ok-None-clause-filled
returns-in-Ok-None-clause-filled g c =
    turn-stops _ _ _ _ _ _ _ _ _ _ c.next.ensures.next c.loop-behind.invariant.1 _ _ c.keep.ensures.kept (Ok _) (c.in-Ok-None.is ∙ ap Ok c.in-Ok-None.field-0-is)

pub returns-in-Ok-None-clause-reached : goal.returns-in-Ok-None-clause-reached
returns-in-Ok-None-clause-reached g c = c.loop-behind.invariant.3

pub returns-in-Ok-None-clause-rest : goal.returns-in-Ok-None-clause-rest
returns-in-Ok-None-clause-rest g c = c.keep.ensures.rest ∙ c.loop-behind.invariant.2

pub shape_of-table-in-Err : goal.shape_of-table-in-Err
shape_of-table-in-Err g c = c.keep.auto.table ∙ c.loop-behind.invariant.0

pub returns-in-Err-clause-filled : goal.returns-in-Err-clause-filled
returns-in-Err-clause-filled g c =
    turn-stops _ _ _ _ _ _ _ _ _ _ c.next.ensures.next c.loop-behind.invariant.1 _ _ c.keep.ensures.kept (Err _) c.in-Err.is

pub returns-in-Err-clause-reached : goal.returns-in-Err-clause-reached
returns-in-Err-clause-reached g c = c.loop-behind.invariant.3

pub returns-in-Err-clause-rest : goal.returns-in-Err-clause-rest
returns-in-Err-clause-rest g c = c.keep.ensures.rest ∙ c.loop-behind.invariant.2
