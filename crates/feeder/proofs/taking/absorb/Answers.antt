-- `feeder::taking::absorb` meets its contract: case by case.
use Rattle.std.proofs.Common.{arith, ap}
use Rattle.feeder.specs.CodeLaws.{begins-part, absorbed-whole, absorbed-open}
use Rattle.feeder.specs.declared.Waiting.{Waiting}
use Rattle.lines.specs.Laws.{part_length}
use Rattle.feeder.proofs.taking.absorb.Goals as goal

pub grown-waiting-requires : goal.grown-waiting-requires
grown-waiting-requires c = let n = c.no_line.ensures in let g = c.requires in (omega (arith, ap (λ (x : Waiting). x.width) n, part_length c.args.p.now c.args.i c.args.e g.1, g.0, g.1, g.2), omega (arith, ap (λ (x : Waiting). x.width) n, ap (λ (x : Waiting). x.name) n))

pub returns-then-f : goal.returns-then-f
returns-then-f c = let g = c.requires in let a = c.args in absorbed-whole _ _ _ _ _ _ _ _ _ _ (omega (arith, part_length a.p.now a.i a.e g.1, g.0, g.1)) c.if-f.true (begins-part a.p.now a.i a.e g.0 g.1) c.judge-out.ensures c.settle-s.ensures c.no_line.ensures c.grown-waiting.ensures

pub returns : goal.returns
returns c = absorbed-open _ _ _ _ _ c.if-f.false c.grown-waiting-2.ensures
