-- `feeder::passing::pass_alike` meets its contract: it passes lines that are even; else nothing changes.
use Rattle.std.proofs.Common.{arith}
use Rattle.feeder.specs.Passing.{rows-some, pass-small, pass-some}
use Rattle.feeder.proofs.passing.pass_alike.Goals as goal

pub even_lines-k-requires : goal.even_lines-k-requires
even_lines-k-requires c = rows-some c.args.f c.args.p.now c.args.i c.requires.0 c.requires.2 _ _ _ _ _ c.in-Lines.is c.in-Rows.is

pub overflow_mul-rows : goal.overflow_mul-rows
overflow_mul-rows c = let s = pass-small c.args.f c.args.p.now c.args.i c.requires.0 c.requires.2 _ _ _ _ _ c.in-Lines.is c.in-Rows.is _ c.requires.1 (c.even_lines-k.ensures (omega (arith, c.if-k-eq0.false))) in omega (arith, s.0, s.1, s.2)

pub overflow_add-rows : goal.overflow_add-rows
overflow_add-rows c = let s = pass-small c.args.f c.args.p.now c.args.i c.requires.0 c.requires.2 _ _ _ _ _ c.in-Lines.is c.in-Rows.is _ c.requires.1 (c.even_lines-k.ensures (omega (arith, c.if-k-eq0.false))) in omega (arith, s.0, s.1, s.2)

pub overflow_mul-fed : goal.overflow_mul-fed
overflow_mul-fed c = let s = pass-small c.args.f c.args.p.now c.args.i c.requires.0 c.requires.2 _ _ _ _ _ c.in-Lines.is c.in-Rows.is _ c.requires.1 (c.even_lines-k.ensures (omega (arith, c.if-k-eq0.false))) in omega (arith, s.0, s.1, s.2)

pub overflow_add-fed : goal.overflow_add-fed
overflow_add-fed c = let s = pass-small c.args.f c.args.p.now c.args.i c.requires.0 c.requires.2 _ _ _ _ _ c.in-Lines.is c.in-Rows.is _ c.requires.1 (c.even_lines-k.ensures (omega (arith, c.if-k-eq0.false))) in omega (arith, s.0, s.1, s.2)

pub overflow_mul-result : goal.overflow_mul-result
overflow_mul-result c = let s = pass-small c.args.f c.args.p.now c.args.i c.requires.0 c.requires.2 _ _ _ _ _ c.in-Lines.is c.in-Rows.is _ c.requires.1 (c.even_lines-k.ensures (omega (arith, c.if-k-eq0.false))) in omega (arith, s.0, s.1, s.2)

pub overflow_add-result : goal.overflow_add-result
overflow_add-result c = let s = pass-small c.args.f c.args.p.now c.args.i c.requires.0 c.requires.2 _ _ _ _ _ c.in-Lines.is c.in-Rows.is _ c.requires.1 (c.even_lines-k.ensures (omega (arith, c.if-k-eq0.false))) in omega (arith, s.0, s.1, s.2)

pub returns : goal.returns
returns c = pass-some c.args.f c.args.p.now c.args.i c.requires.0 c.requires.2 _ _ _ _ _ c.in-Lines.is c.in-Rows.is _ c.requires.1 (c.even_lines-k.ensures (omega (arith, c.if-k-eq0.false)))
