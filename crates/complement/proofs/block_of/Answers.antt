-- `complement::block_of` meets its contract: before each turn the mark is 0 exactly if the bytes so far are of the kind.
use Rattle.std.proofs.Common.{◌≤◌, ◌<◌, ◌≡◌, refl, Bool, true, false, cond, not, arith, add-one, bit_or, eqb, length, take, get_or, take_all}
use mir.Val.{bool_byte}
use Rattle.complement.specs.Kinds.{is_of, all_of}
use Rattle.complement.specs.KindLaws.{all_more}
use Rattle.complement.proofs.block_of.Goals as goal

-- the mark is set by either of two
marked : (x y : Bool) → bit_or (bool_byte (not x)) (bool_byte (not y)) ≡ bool_byte (not (cond x y false))
marked true true = refl
marked true false = refl
marked false true = refl
marked false false = refl

unmarked : (x : Bool) → eqb (bool_byte (not x)) 0 ≡ x
unmarked true = refl
unmarked false = refl

pub loop-b-init : goal.loop-b-init
unfolding all_of
loop-b-init g c = refl

pub loop-b-preserved : goal.loop-b-preserved
loop-b-preserved g c =
    let bases = c.args.bases.now in
    let k = c.loop-b.b-index in
    let h : k < length bases = omega arith in
    rw (add-one k, all_more g.K.Kind.plain bases k h, c.loop-b.invariant, c.has.ensures) (marked (all_of g.K.Kind.plain (take k bases)) (is_of g.K.Kind.plain (get_or bases k 0)))

pub returns : goal.returns
returns g c =
    let bases = c.args.bases.now in
    let h : length bases ≤ c.loop-b.b-index = omega arith in
    rw (c.loop-b.invariant, take_all c.loop-b.b-index bases h) (unmarked _)
