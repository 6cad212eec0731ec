-- `scoring::slices::lane` meets its contract: the letters are bytes, and where all have a code the gates tell what is right.
use Rattle.std.proofs.Common.{ℕ, ◌<◌, refl, arith}
use lib.Count.{ones-le}
use Rattle.scoring.specs.Turning.{row}
use Rattle.scoring.specs.Slices.{right_byte, right-small, lane-is, letters-small}
use Rattle.scoring.proofs.slices.lane.Goals as goal
use Rattle.scoring.proofs.slices.lane.Goals.{After-struct_known-8-1, Start}

key-small : (c : Start) (j : ℕ) → j < 8 → row c.args.key.p0 c.args.key.p1 c.args.key.p2 c.args.key.p3 c.args.key.p4 c.args.key.p5 c.args.key.p6 c.args.key.p7 j < 256
key-small c = letters-small c.args.key.p0 c.args.key.p1 c.args.key.p2 c.args.key.p3 c.args.key.p4 c.args.key.p5 c.args.key.p6 c.args.key.p7 (omega arith) (omega arith) (omega arith) (omega arith) (omega arith) (omega arith) (omega arith) (omega arith)

typed-small : (c : Start) (j : ℕ) → j < 8 → row c.args.typed.p0 c.args.typed.p1 c.args.typed.p2 c.args.typed.p3 c.args.typed.p4 c.args.typed.p5 c.args.typed.p6 c.args.typed.p7 j < 256
typed-small c = letters-small c.args.typed.p0 c.args.typed.p1 c.args.typed.p2 c.args.typed.p3 c.args.typed.p4 c.args.typed.p5 c.args.typed.p6 c.args.typed.p7 (omega arith) (omega arith) (omega arith) (omega arith) (omega arith) (omega arith) (omega arith) (omega arith)

small : (c : After-struct_known-8-1)
    → right_byte c.sets_of-k.result.na c.sets_of-k.result.c c.sets_of-k.result.g c.sets_of-k.result.t
    c.sets_of-t.result.na c.sets_of-t.result.c c.sets_of-t.result.g c.sets_of-t.result.t < 256
small c =
    right-small c.sets_of-k.result.na c.sets_of-k.result.c c.sets_of-k.result.g c.sets_of-k.result.t c.sets_of-t.result.na c.sets_of-t.result.c c.sets_of-t.result.g c.sets_of-t.result.t (omega arith) (omega arith) (omega arith) (omega arith)

pub overflow_cast-result : goal.overflow_cast-result
overflow_cast-result c = omega (arith, ones-le 8 _ (small (goal.at.overflow_cast-result c).After-struct_known-8-1))

pub returns : goal.returns
returns c =
    let k = c.args.key in
    let t = c.args.typed in
    lane-is (row k.p0 k.p1 k.p2 k.p3 k.p4 k.p5 k.p6 k.p7) (row t.p0 t.p1 t.p2 t.p3 t.p4 t.p5 t.p6 t.p7) _ _ _ _ _ _ _ _ _ _ _ c.sets_of-k.ensures c.sets_of-t.ensures
    (λ j p. (key-small (goal.at.returns c).Start j p, typed-small (goal.at.returns c).Start j p))
    refl (small (goal.at.returns c).After-struct_known-8-1)
