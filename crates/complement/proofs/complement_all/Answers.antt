-- `complement::complement_all` meets its contract: its first two tests are those of `sized`. Past both the bytes decide, and nothing is
use Rattle.std.proofs.Common.{◌≡◌, sym, ◌∙◌, lt-ltb, le-ltb, length}
use Rattle.complement.specs.Complement.{Judged, sized}
use Rattle.complement.specs.Laws.{poured-both, told-sized, told-refused}
use Rattle.complement.specs.KindLaws.{bad-stays}
use Rattle.complement.proofs.complement_all.Given.{Over}
use Rattle.complement.proofs.complement_all.Goals as goal
use Rattle.complement.proofs.complement_all.Goals.{Else-out-bases}

pub returns-then-over_limit : goal.returns-then-over_limit
unfolding sized
returns-then-over_limit g c = told-refused _ _ _ _ (rw (← c.over_limit.ensures, c.if-over_limit.true))

pub returns-then-out-bases : goal.returns-then-out-bases
unfolding sized
returns-then-out-bases g c =
    rw c.no_room.ensures
    (told-refused _ _ _ _ (rw (← c.over_limit.ensures, c.if-over_limit.false, lt-ltb _ _ c.if-out-bases.true)))

-- past both tests the sizes are fine
fits : (g : Over) (c : Else-out-bases g) (o : Judged) → let a = c.args in sized a.bases.now (length a.out.now) o ≡ o
unfolding sized
fits g c o = rw (← c.over_limit.ensures, c.if-over_limit.false, le-ltb _ _ c.if-out-bases.false)

pub returns-then-all_of : goal.returns-then-all_of
returns-then-all_of g c =
    told-sized _ _ _ _ _ (fits g (goal.at.returns-then-all_of g c).Else-out-bases _) c.write_all.ensures

pub returns-then-all_of-2 : goal.returns-then-all_of-2
returns-then-all_of-2 g c =
    told-sized _ _ _ _ _ (fits g (goal.at.returns-then-all_of-2 g c).Else-out-bases _) c.write_all-then-all_of-2.ensures

-- past all tests there is a byte that has no complement, and the output stays as it is
pub returns : goal.returns
returns g c =
    told-sized _ _ _ _ _ (fits g (goal.at.returns g c).Else-out-bases _)
    (poured-both _ _ _ _ c.first_fault.ensures (bad-stays _ _ _ (sym c.all_of-2.ensures ∙ c.if-all_of-2.false)))
