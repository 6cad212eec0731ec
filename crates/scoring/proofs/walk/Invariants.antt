-- `scoring::walk` meets its contract: each turn takes the lowest bit.
use Rattle.std.proofs.Common.{◌+◌, ◌^◌, ◌<◌, ◌≡◌, not, ltb, length}
use Rattle.scoring.specs.Rules.{lies}
use Rattle.scoring.specs.Counting.{agrees}
use Rattle.scoring.specs.Bits.{hits, place}
use Rattle.scoring.proofs.walk.Given as goal

abbrev pub invariant-loop-x : goal.invariant-loop-x
invariant-loop-x l =
    (l.right + hits (λ i. agrees lies l.places.key.now l.places.typed.now (l.at + place i)) 64 0 l.x ≡ hits (λ i. agrees lies l.places.key.now l.places.typed.now (l.at + place i)) 64 0 l.word)
    × (hits (λ i. not (ltb (l.at + place i) (length l.places.key.now))) 64 0 l.x ≡ 0)
    × (l.x < 2 ^ 64)

abbrev pub decreases-loop-x : goal.decreases-loop-x
decreases-loop-x l = l.x
