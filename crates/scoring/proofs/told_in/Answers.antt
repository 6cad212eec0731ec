-- `scoring::told_in` meets its contract: where all of a part is told, what the look takes for right is right.
use Rattle.std.proofs.Common.{◌+◌, ◌≡◌, arith}
use Rattle.scoring.specs.Rules.{lies}
use Rattle.scoring.specs.Counting.{Counted, agrees, counted_none, counted-full, counted-join, counted-sound}
use Rattle.scoring.proofs.told_in.Given as given
use Rattle.scoring.proofs.told_in.Goals as goal
use Rattle.scoring.proofs.told_in.Goals.{Else-from-m}

part : (g : given.Over) (c : Else-from-m g)
    → Counted (agrees lies c.args.places.now.key.now c.args.places.now.typed.now)
    c.args.at (c.loop-j.j + c.min-m.result)
    (c.loop-j.right + c.seen_in-seen.result.right)
part g c =
    let s = c.seen_in-seen.ensures in
    counted-join _ _ _ _ _ _ c.loop-j.invariant.1 (counted-sound _ _ _ g.met.L.Look.sound _ _ _ _ _ (counted-full _ _ _ _ s.1 (omega (arith, c.from.ensures))) s.0)

pub loop-j-init : goal.loop-j-init
loop-j-init g c = (omega arith, counted_none _ _)

pub overflow_add-right : goal.overflow_add-right
overflow_add-right g c = let w = part g (goal.at.overflow_add-right g c).Else-from-m in omega (arith, w.most)

pub loop-j-preserved : goal.loop-j-preserved
loop-j-preserved g c =
    let q : c.min-m.result ≡ 224 = omega arith in
    (omega arith, rw (q, ← c.from-right.ensures) at (part g (goal.at.loop-j-preserved g c).Else-from-m))

pub returns-else-from-m : goal.returns-else-from-m
returns-else-from-m g c =
    let q : c.loop-j.j + c.min-m.result ≡ c.args.n = omega arith in
    (omega arith, rw (q, ← c.from-right.ensures) at (part g (goal.at.returns-else-from-m g c).Else-from-m))
