-- `scoring::walks` meets its contract: each word has the places of eight lanes.
use Rattle.std.proofs.Common.{ℕ, ◌+◌, ◌*◌, ◌<◌, ◌≡◌, refl, Bool, true, false, not, ◌&&◌, arith, ltb, length, lt-ltb}
use Rattle.scoring.specs.Rules.{lies}
use Rattle.scoring.specs.Counting.{agrees}
use Rattle.scoring.specs.Open.{is_open, open_lies}
use Rattle.scoring.specs.Lanes.{weigh, sum_to}
use Rattle.scoring.specs.Bits.{hits, hits-most, word_at, word_lanes, word_none, place, place-at}
use Rattle.scoring.proofs.walks.Goals as goal
use Rattle.scoring.proofs.walks.Goals.{At-loop-i}

and-false : (a : Bool) → (a && false) ≡ false
and-false true = refl
and-false false = refl

-- eight lanes more
lanes-more : (l : At-loop-i) → l.loop-i.i < 4
    → sum_to (weigh (agrees open_lies l.args.places.now.key.now l.args.places.now.typed.now) 1 l.args.at l.args.blocks) (8 * l.loop-i.i + 8)
    ≡ sum_to (weigh (agrees open_lies l.args.places.now.key.now l.args.places.now.typed.now) 1 l.args.at l.args.blocks) (8 * l.loop-i.i)
    + hits (λ z. agrees lies l.args.places.now.key.now l.args.places.now.typed.now (l.args.at + 8 * l.loop-i.i + place z)) 64 0 (word_at l.args.opens.now (8 * l.loop-i.i))
unfolding agrees open_lies
lanes-more l h =
    let a = l.args in
    word_lanes (agrees is_open a.places.now.key.now a.places.now.typed.now) (λ z. agrees lies a.places.now.key.now a.places.now.typed.now (a.at + 8 * l.loop-i.i + place z)) (agrees open_lies a.places.now.key.now a.places.now.typed.now) a.at
    a.blocks (8 * l.loop-i.i) a.opens.now l.requires.0 (omega arith) l.requires.2 (λ j b p q. same j b q)
  where
    same : (j b : ℕ) → b < l.args.blocks
        → (agrees is_open l.args.places.now.key.now l.args.places.now.typed.now (l.args.at + 32 * b + (8 * l.loop-i.i + j)) && agrees lies l.args.places.now.key.now l.args.places.now.typed.now (l.args.at + 8 * l.loop-i.i + place (8 * j + b)))
        ≡ agrees open_lies l.args.places.now.key.now l.args.places.now.typed.now (l.args.at + 32 * b + (8 * l.loop-i.i + j))
    same j b q =
        let e : l.args.at + 8 * l.loop-i.i + (32 * b + j) ≡ l.args.at + 32 * b + (8 * l.loop-i.i + j) = omega arith in
        let n : b < 8 = omega (arith, l.requires.0) in
        rw (place-at j b n, e)

pub loop-i-init : goal.loop-i-init
unfolding sum_to
loop-i-init c = (omega arith, omega arith)

pub walk-right-requires : goal.walk-right-requires
walk-right-requires c =
    let a = c.args in
    rw c.word.ensures
    (word_none (agrees is_open a.places.now.key.now a.places.now.typed.now) (λ z. not (ltb (a.at + 8 * c.loop-i.i + place z) (length a.places.now.key.now))) a.at a.blocks (8 * c.loop-i.i)
    a.opens.now c.requires.0 (omega arith) c.requires.2
    (λ j b p q. rw (place-at j b (omega arith), lt-ltb (a.at + 8 * c.loop-i.i + (32 * b + j)) (length a.places.now.key.now) (omega arith)) (and-false (agrees is_open a.places.now.key.now a.places.now.typed.now (a.at + 32 * b + (8 * c.loop-i.i + j))))))

pub overflow_add-right : goal.overflow_add-right
overflow_add-right c = omega (arith, c.loop-i.invariant.0, c.walk-right.ensures, hits-most (λ z. agrees lies c.args.places.now.key.now c.args.places.now.typed.now (c.args.at + 8 * c.loop-i.i + place z)) 64 0 c.word.result)

pub loop-i-preserved : goal.loop-i-preserved
loop-i-preserved c =
    let e : 8 * (c.loop-i.i + 1) ≡ 8 * c.loop-i.i + 8 = omega arith in (
      omega (arith, c.loop-i.invariant.0, c.walk-right.ensures, hits-most (λ z. agrees lies c.args.places.now.key.now c.args.places.now.typed.now (c.args.at + 8 * c.loop-i.i + place z)) 64 0 c.word.result),
      rw e (omega (arith, c.loop-i.invariant.1, lanes-more (goal.at.loop-i-preserved c).At-loop-i (omega arith), rw c.word.ensures at c.walk-right.ensures)),
    )

pub returns : goal.returns
returns c = let e : 8 * c.loop-i.i ≡ 32 = omega arith in rw e at c.loop-i.invariant.1
