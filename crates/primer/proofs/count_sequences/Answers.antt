-- `primer::count_sequences` meets its contract: before each turn the product is how many sequences the letters from `k` on stand for.
use Rattle.std.proofs.Common.{◌*◌, ◌-◌, ◌≡◌, arith, length, drop}
use Rattle.primer.specs.Sequences.{stands_for}
use Rattle.primer.specs.SequenceLaws.{stands-end, stands-step, stands-small}
use Rattle.primer.proofs.count_sequences.Goals as goal
use Rattle.primer.proofs.count_sequences.Goals.{After-bases_in-product}

pub loop-k-init : goal.loop-k-init
loop-k-init c = stands-end c.args.primer.now

pub set_of-requires : goal.set_of-requires
set_of-requires c = c.sets-sets.ensures

-- one letter more
turn : (c : After-bases_in-product) → c.bases_in-product.result * c.loop-k.product
    ≡ length (stands_for (drop (c.loop-k.k - 1) c.args.primer.now))
turn c =
    rw (c.loop-k.invariant, c.bases_in-product.ensures, c.set_of.ensures)
    (stands-step c.args.primer.now (c.loop-k.k - 1) c.loop-k.k (omega arith) (omega arith))

pub overflow_mul-product : goal.overflow_mul-product
overflow_mul-product c =
    record { fits = omega (arith, turn (goal.at.overflow_mul-product c).After-bases_in-product, stands-small c.args.primer.now (c.loop-k.k - 1) c.requires) }

pub loop-k-preserved : goal.loop-k-preserved
loop-k-preserved c = turn (goal.at.loop-k-preserved c).After-bases_in-product

pub returns : goal.returns
returns c = let z : c.loop-k.k ≡ 0 = omega arith in rw z at c.loop-k.invariant
