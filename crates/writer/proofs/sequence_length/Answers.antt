-- `writer::sequence_length` meets its contract: a line for each whole width before the last base, and one more.
use Rattle.std.proofs.Common.{◌-◌, ◌/◌, ◌≤◌, sym, ap, arith, div-le_self, length}
use Rattle.writer.specs.Laws.{text-none, sequence-size}
use Rattle.writer.proofs.sequence_length.Goals as goal
use Rattle.writer.proofs.sequence_length.Goals.{Else-bases-eq0}

pub returns-then-bases-eq0 : goal.returns-then-bases-eq0
returns-then-bases-eq0 c = sym (ap length (text-none _ _ c.if-bases-eq0.true))

-- no more lines than bases
fewer : (c : Else-bases-eq0) → (length c.args.bases.now - 1) / c.args.width ≤ length c.args.bases.now - 1
fewer c = div-le_self _ _

pub overflow_add-result : goal.overflow_add-result
overflow_add-result c = omega (arith, fewer (goal.at.overflow_add-result c).Else-bases-eq0)

pub overflow_add-result-2 : goal.overflow_add-result-2
overflow_add-result-2 c = omega (arith, fewer (goal.at.overflow_add-result-2 c).Else-bases-eq0)

pub returns : goal.returns
returns c = sym (sequence-size _ (omega arith) _ (omega arith))
