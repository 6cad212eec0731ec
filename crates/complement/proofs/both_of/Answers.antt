-- `complement::both_of` meets its contract: before each turn the bytes that are left decide in both runs, and a block that has another byte
-- ends it.
use Rattle.std.proofs.Common.{inl, inr, ◌≡◌, refl, sym, ◌∙◌, ap, Bool, true, false, cond, arith, length, length-append}
use Rattle.complement.specs.KindLaws.{block-good, block-bad, all-none}
use Rattle.complement.proofs.both_of.Goals as goal

-- what one of two runs says of both
bad-second : (x y : Bool) → y ≡ false → false ≡ cond x y false
bad-second true y e = sym e
bad-second false y e = refl

pub returns-then-not-block_of : goal.returns-then-not-block_of
returns-then-not-block_of g c =
    rw (sym c.loop-x.invariant.2 ∙ block-bad _ _ _ _ c.in-Some.ensures.steps.0.1.0 (sym c.block_of.ensures ∙ c.if-not-block_of.true))

pub returns-then-not-block_of-2 : goal.returns-then-not-block_of-2
returns-then-not-block_of-2 g c =
    bad-second _ _ (sym c.loop-x.invariant.3 ∙ block-bad _ _ _ _ c.in-Some.ensures.steps.1.1.0 (sym c.block_of-in-loop-x.ensures ∙ c.if-not-block_of-2.true))

pub loop-x-preserved : goal.loop-x-preserved
loop-x-preserved g c =
    let (of-x, of-y) = c.in-Some.ensures.steps in
    let (sizes, lengths, first, second) = c.loop-x.invariant in
    let same : length c.in-Some.x.now ≡ length c.in-Some.y.now = of-x.1.1 ∙ rw (sizes, lengths) (sym of-y.1.1) in (
      of-x.0 ∙ sizes ∙ sym of-y.0,
      omega (arith, same, lengths, simp length-append at (ap length of-x.1.0), simp length-append at (ap length of-y.1.0)),
      sym (block-good _ _ _ _ of-x.1.0 (sym c.block_of.ensures ∙ c.if-not-block_of.false)) ∙ first,
      sym (block-good _ _ _ _ of-y.1.0 (sym c.block_of-in-loop-x.ensures ∙ c.if-not-block_of-2.false)) ∙ second,
    )

pub returns : goal.returns
returns g c =
    let (_, lengths, first, second) = c.loop-x.invariant in
    elim c.in-None.ensures.steps [
      | inl s ↦ rw (← first, ← second, all-none _ _ s.1.1.0, all-none _ _ (sym lengths ∙ s.1.1.0))
      | inr s ↦ rw (← first, ← second, all-none _ _ s.1.1.0, all-none _ _ (lengths ∙ s.1.1.0))
    ]
