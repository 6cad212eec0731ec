-- `feeder::records::take_records` meets its contract: each record that is taken goes on from the one before.
use Rattle.std.proofs.Common.{arith, refl, ◌∙◌}
use Rattle.feeder.specs.Turns.{records-none, records-on, records-end}
use Rattle.feeder.proofs.records.take_records.Goals as goal

pub loop-r-init : goal.loop-r-init
loop-r-init c = (refl, c.requires.0, records-none _ _ _ _ _ c.requires.0)

pub take_record-e-requires : goal.take_record-e-requires
take_record-e-requires c = (c.loop-r.invariant.1, c.requires.1, omega (arith, c.requires.2, c.loop-r.invariant.1, c.loop-r.invariant.2.next))

pub shape_of-table-then-e-r : goal.shape_of-table-then-e-r
shape_of-table-then-e-r c = c.take_record-e.auto.table ∙ c.loop-r.invariant.0

pub returns-then-e-r : goal.returns-then-e-r
returns-then-e-r c = records-end _ _ _ _ _ _ _ c.loop-r.invariant.2 _ _ c.take_record-e.ensures c.if-e-r.true

pub overflow_sub-r : goal.overflow_sub-r
overflow_sub-r c = c.take_record-e.ensures.on

pub overflow_add-r : goal.overflow_add-r
overflow_add-r c = omega (arith, c.requires.2, c.loop-r.invariant.2.next, c.take_record-e.ensures.on, c.take_record-e.ensures.ahead)

pub overflow_add-r-in-loop-r : goal.overflow_add-r-in-loop-r
overflow_add-r-in-loop-r c = omega (arith, c.take_record-e.ensures.room (omega (arith, c.take_record-e.ensures.on, c.if-e-r.false)), c.loop-r.invariant.0)

pub loop-r-smaller : goal.loop-r-smaller
loop-r-smaller c = omega (arith, c.take_record-e.ensures.on, c.if-e-r.false, c.take_record-e.ensures.ahead)

pub loop-r-preserved : goal.loop-r-preserved
loop-r-preserved c = (c.take_record-e.auto.table ∙ c.loop-r.invariant.0, c.take_record-e.ensures.ahead, records-on _ _ _ _ _ _ _ c.loop-r.invariant.2 _ _ c.take_record-e.ensures (omega (arith, c.take_record-e.ensures.on, c.if-e-r.false)))
