-- `exercise::value_field` meets its contract: by the tag.
use Rattle.std.proofs.Common.{arith, ne_eqb}
use Rattle.exercise.specs.Reading.{valued}
use Rattle.exercise.proofs.value_field.Goals as goal

pub returns-in-1 : goal.returns-in-1
unfolding valued
returns-in-1 c = rw c.in-1.is c.name_field.ensures

pub returns-in-2 : goal.returns-in-2
unfolding valued
returns-in-2 c = rw c.in-2.is c.start_field.ensures

pub returns-in-3 : goal.returns-in-3
unfolding valued
returns-in-3 c = rw c.in-3.is c.end_field.ensures

pub returns-in-4 : goal.returns-in-4
unfolding valued
returns-in-4 c = rw c.in-4.is c.edition_field.ensures

pub returns-in_default : goal.returns-in_default
unfolding valued
returns-in_default c =
    let t = c.args.tag in
    rw (ne_eqb t 1 (λ e. omega arith), ne_eqb t 2 (λ e. omega arith), ne_eqb t 3 (λ e. omega arith), ne_eqb t 4 (λ e. omega arith))
