-- `feeder::records::whole_sequence` meets its contract: the lines are alike, then comes one that is not longer, and behind it the next record begins.
use Rattle.std.proofs.Common.{arith, sym, ◌∙◌, eq-eqb}
use Rattle.feeder.specs.Records.{first-in, first_some, lines-in, ends-alike, ends_last}
use Rattle.feeder.proofs.records.whole_sequence.Goals as goal

pub overflow_add-i : goal.overflow_add-i
overflow_add-i c = omega (arith, first-in c.args.p.now c.args.e c.requires.0 _ c.sequence_line-first.ensures, c.requires.1)

pub is_long-requires : goal.is_long-requires
is_long-requires c = (first-in c.args.p.now c.args.e c.requires.0 _ c.sequence_line-first.ensures, c.requires.1, omega (arith, first-in c.args.p.now c.args.e c.requires.0 _ c.sequence_line-first.ensures), omega (arith, first_some c.args.p.now c.args.e c.requires.0 _ c.sequence_line-first.ensures, c.if-first-eq0.false))

pub overflow_mul-j : goal.overflow_mul-j
overflow_mul-j c = let a = lines-in c.args.p.now c.args.e c.requires.0 _ c.sequence_line-first.ensures _ c.lines_like-k.ensures in omega (arith, a.0, a.1, c.requires.1)

pub overflow_add-j : goal.overflow_add-j
overflow_add-j c = let a = lines-in c.args.p.now c.args.e c.requires.0 _ c.sequence_line-first.ensures _ c.lines_like-k.ensures in omega (arith, a.0, a.1, c.requires.1)

pub overflow_mul-n : goal.overflow_mul-n
overflow_mul-n c = let a = lines-in c.args.p.now c.args.e c.requires.0 _ c.sequence_line-first.ensures _ c.lines_like-k.ensures in omega (arith, a.0, a.1, c.requires.1)

pub overflow_add-n : goal.overflow_add-n
overflow_add-n c = let a = lines-in c.args.p.now c.args.e c.requires.0 _ c.sequence_line-first.ensures _ c.lines_like-k.ensures in omega (arith, a.0, a.1, c.requires.1)

pub returns-then-p-j-eq62 : goal.returns-then-p-j-eq62
returns-then-p-j-eq62 c = ends-alike c.args.p.now c.args.e c.requires.0 c.requires.1 _ c.sequence_line-first.ensures (omega (arith, c.if-first-eq0.false)) _ c.lines_like-k.ensures (omega (arith, c.if-p-j.false)) (eq-eqb _ _ c.if-p-j-eq62.true)

pub overflow_add-m : goal.overflow_add-m
overflow_add-m c = let a = lines-in c.args.p.now c.args.e c.requires.0 _ c.sequence_line-first.ensures _ c.lines_like-k.ensures in omega (arith, first-in c.args.p.now _ a.0 _ c.sequence_line-last.ensures, c.requires.1)

pub overflow_add-result : goal.overflow_add-result
overflow_add-result c = let a = lines-in c.args.p.now c.args.e c.requires.0 _ c.sequence_line-first.ensures _ c.lines_like-k.ensures in omega (arith, a.1, first-in c.args.p.now _ a.0 _ c.sequence_line-last.ensures, first_some c.args.p.now _ a.0 _ c.sequence_line-last.ensures, c.requires.1)

pub returns-then-may_end : goal.returns-then-may_end
returns-then-may_end c = ends_last c.args.p.now c.args.e c.requires.0 c.requires.1 _ c.sequence_line-first.ensures (omega (arith, c.if-first-eq0.false)) _ c.lines_like-k.ensures (omega (arith, c.if-p-j.false)) _ c.sequence_line-last.ensures (sym c.may_end.ensures ∙ c.if-may_end.true) (omega (arith, c.if-p-m.false)) (eq-eqb _ _ c.if-p-m-ne62.false)
