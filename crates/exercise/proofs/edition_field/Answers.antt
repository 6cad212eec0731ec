-- `exercise::edition_field` meets its contract: the tests are the definition's own.
use Rattle.std.proofs.Common.{⊎_elim, ◌≡◌, sym, ◌∙◌, arith, eq-eqb, ne_eqb, length}
use Rattle.exercise.specs.Reading.{edition_field}
use Rattle.exercise.proofs.edition_field.Goals as goal

pub returns-then-kept-ne4 : goal.returns-then-kept-ne4
unfolding edition_field
returns-then-kept-ne4 c =
    ⊎_elim (λ h. rw (ne_eqb c.args.kept.wanted 4 h) c.malformed.ensures) (λ h. rw (eq-eqb c.args.kept.wanted 4 h.0, ne_eqb (length c.args.value.now) 1 h.1) c.malformed.ensures) c.then-kept-ne4.either

pub returns-then-known : goal.returns-then-known
unfolding edition_field
returns-then-known c =
    let n : length c.args.value.now ≡ 1 = omega arith in
    rw (eq-eqb _ _ c.if-kept-ne4.false, n, ← c.from-edition.ensures, sym c.known.ensures ∙ c.if-known.true)

pub returns : goal.returns
unfolding edition_field
returns c =
    let n : length c.args.value.now ≡ 1 = omega arith in
    rw (eq-eqb _ _ c.if-kept-ne4.false, n, ← c.from-edition.ensures, sym c.known.ensures ∙ c.if-known.false)
