-- `scoring::slices::swap` meets its contract: a law for each size of parts, bit by bit.
use Rattle.std.proofs.Common.{⊎_elim}
use Rattle.scoring.specs.Planes.{swap_four, swap-two, swap-one}
use Rattle.scoring.proofs.slices.swap.Goals as goal

pub returns : goal.returns
returns g c =
    let a = c.args.a in
    let b = c.args.b in
    ⊎_elim (λ h. rw (h.0, h.1) (swap_four a b)) (⊎_elim (λ h. rw (h.0, h.1) (swap-two a b)) (λ h. rw (h.0, h.1) (swap-one a b))) c.requires
