-- `region::inside::count_to` meets its contract: the count lies between the two ends, and these close in on it.
use Rattle.std.proofs.Common.{ℕ, ◌+◌, ◌-◌, ◌/◌, ◌≤◌, min, ◌≡◌, sym, ◌∙◌, leb-true, leb-false, arith}
use Rattle.record.specs.declared.Record.{Record}
use Rattle.record.specs.declared.Position.{Position}
use Rattle.region.specs.declared.Part.{Part}
use Rattle.region.specs.PartLaws.{half, part-fewer}
use Rattle.region.proofs.inside.count_to.Invariants.{all}
use Rattle.region.proofs.inside.count_to.Goals as goal

pub loop-high-init : goal.loop-high-init
loop-high-init c = (omega arith, c.requires.n_bound, omega arith)

pub overflow_add-middle : goal.overflow_add-middle
overflow_add-middle c = omega (arith, half _ c.loop-high-test.true)

pub all_in-requires : goal.all_in-requires
all_in-requires c =
    let h = half _ c.loop-high-test.true in
    record { some = omega arith; some-bases = c.requires.addressable.some-bases; some-width = c.requires.addressable.some-width; from_one = c.requires.addressable.from_one; fits = omega (arith, c.requires.addressable.fits) }

pub loop-high-smaller-then-all_in : goal.loop-high-smaller-then-all_in
loop-high-smaller-then-all_in c = omega (arith, half _ c.loop-high-test.true)

-- of the bases up to the middle as many are in the part as of all bases, if that many are before it
fewer : (part : Part) (x : Record) (a : Position) (m n : ℕ) → m ≤ n → all part x a m ≡ min m (all part x a n)
fewer part x a m n h = part-fewer _ _ _ _ _ _ m n h

pub loop-high-preserved-then-all_in : goal.loop-high-preserved-then-all_in
loop-high-preserved-then-all_in c =
    let h = half _ c.loop-high-test.true in
    let m = c.loop-high.low + (c.loop-high.high - c.loop-high.low) / 2 in
    let e = fewer c.args.part c.args.x c.args.a m c.args.n (omega arith) in
    (omega (arith, leb-true m (all c.args.part c.args.x c.args.a m) (sym c.all_in.ensures ∙ c.if-all_in.true), e), c.loop-high.invariant.1, c.loop-high.invariant.2)

pub loop-high-smaller : goal.loop-high-smaller
loop-high-smaller c = omega (arith, half _ c.loop-high-test.true)

pub loop-high-preserved : goal.loop-high-preserved
loop-high-preserved c =
    let h = half _ c.loop-high-test.true in
    let m = c.loop-high.low + (c.loop-high.high - c.loop-high.low) / 2 in
    let e = fewer c.args.part c.args.x c.args.a m c.args.n (omega arith) in
    (c.loop-high.invariant.0, omega (arith, leb-false m (all c.args.part c.args.x c.args.a m) (sym c.all_in.ensures ∙ c.if-all_in.false), e), omega arith)

pub returns : goal.returns
returns c = omega (arith, c.loop-high.invariant, c.loop-high-test.false)
