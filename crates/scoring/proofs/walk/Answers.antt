-- `scoring::walk` meets its contract: each turn takes the lowest bit.
use Rattle.std.proofs.Common.{ℕ, ◌+◌, ◌-◌, ◌<◌, ◌≡◌, refl, ap, ◌∙◌, Bool, true, false, not, arith, ltb, bit_and, length, get_or, ltb-true}
use lib.Bits.{and_le_r}
use lib.Count.{count_trailing_zeros}
use Rattle.letters.specs.Sets.{bit}
use Rattle.scoring.specs.Rules.{lies}
use Rattle.scoring.specs.Counting.{agrees}
use Rattle.scoring.specs.Bits.{hits, hits-most, hits-none, walk_step, place}
use Rattle.scoring.proofs.walk.Goals as goal
use Rattle.scoring.proofs.walk.Goals.{After-from-right, In-loop-x}

pub loop-x-init : goal.loop-x-init
loop-x-init c = (omega arith, c.requires, omega (arith, c.ranges.word))

-- where the lowest bit is, and what is left
step : (c : In-loop-x) (g : ℕ → Bool)
    → (count_trailing_zeros 64 c.loop-x.x < 64) × (hits g 64 0 c.loop-x.x ≡ bit (g (count_trailing_zeros 64 c.loop-x.x)) + hits g 64 0 (bit_and c.loop-x.x (c.loop-x.x - 1)))
step c g = walk_step g c.loop-x.x (omega arith) c.loop-x.invariant.2

inside : (a n : ℕ) → bit (not (ltb a n)) ≡ 0 → a < n
inside a n = go (ltb a n) refl
  where
    go : (t : Bool) → ltb a n ≡ t → bit (not t) ≡ 0 → a < n
    go true p e = ltb-true a n p
    go false p e = absurd (omega arith)

-- its place is one of the key's and of what was typed
within : (c : In-loop-x)
    → c.args.at + place (count_trailing_zeros 64 c.loop-x.x) < length c.args.places.now.key.now
within c =
    let a = c.args in
    inside _ _ (omega (arith, (step c (λ i. not (ltb (a.at + place i) (length a.places.now.key.now)))).1, c.loop-x.invariant.1))

here : (c : After-from-right)
    → c.from-right.result ≡ bit (agrees lies c.args.places.now.key.now
    c.args.places.now.typed.now
    (c.args.at + place (count_trailing_zeros 64 c.loop-x.x)))
unfolding agrees
here c =
    let a = c.args in
    c.from-right.ensures ∙ (c.lies_bit.ensures ∙ ap (λ (v : ℕ). bit (lies (get_or a.places.now.key.now (a.at + v) 0) (get_or a.places.now.typed.now (a.at + v) 0))) (c.from.ensures ∙ c.place.ensures))

pub overflow_cast-x : goal.overflow_cast-x
overflow_cast-x c = omega (arith, (step (goal.at.overflow_cast-x c).In-loop-x (λ i. true)).0)

pub place-requires : goal.place-requires
place-requires c = (step (goal.at.place-requires c).In-loop-x (λ i. true)).0

pub overflow_add-p : goal.overflow_add-p
overflow_add-p c = omega (arith, within (goal.at.overflow_add-p c).In-loop-x, c.from.ensures, c.place.ensures)

pub bounds-places-p : goal.bounds-places-p
bounds-places-p c = omega (arith, within (goal.at.bounds-places-p c).In-loop-x, c.from.ensures, c.place.ensures)

pub bounds-places-p-in-loop-x : goal.bounds-places-p-in-loop-x
bounds-places-p-in-loop-x c = omega (arith, within (goal.at.bounds-places-p-in-loop-x c).In-loop-x, c.from.ensures, c.place.ensures)

pub overflow_add-right : goal.overflow_add-right
overflow_add-right c =
    let a = c.args in
    omega (arith, here (goal.at.overflow_add-right c).After-from-right, (step (goal.at.overflow_add-right c).In-loop-x (λ c. agrees lies a.places.now.key.now a.places.now.typed.now (a.at + place c))).1, c.loop-x.invariant.0, hits-most (λ c. agrees lies a.places.now.key.now a.places.now.typed.now (a.at + place c)) 64 0 a.word)

pub loop-x-smaller : goal.loop-x-smaller
loop-x-smaller c = omega (arith, and_le_r c.loop-x.x (c.loop-x.x - 1), c.loop-x-test.true)

pub loop-x-preserved : goal.loop-x-preserved
loop-x-preserved c =
    let a = c.args in (
      omega (arith, here (goal.at.loop-x-preserved c).After-from-right, (step (goal.at.loop-x-preserved c).In-loop-x (λ c. agrees lies a.places.now.key.now a.places.now.typed.now (a.at + place c))).1, c.loop-x.invariant.0),
      omega (arith, (step (goal.at.loop-x-preserved c).In-loop-x (λ c. not (ltb (a.at + place c) (length a.places.now.key.now)))).1, c.loop-x.invariant.1),
      omega (arith, and_le_r c.loop-x.x (c.loop-x.x - 1), c.loop-x.invariant.2),
    )

pub returns : goal.returns
returns c =
    let a = c.args in
    let z : c.loop-x.x ≡ 0 = omega arith in
    omega (arith, rw z at c.loop-x.invariant.0, hits-none (λ i. agrees lies a.places.now.key.now a.places.now.typed.now (a.at + place i)) 64 0)
