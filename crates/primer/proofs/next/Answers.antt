-- `primer::next` meets its contract: it searches from the place on, and adds that place to what it finds.
use Rattle.std.proofs.Common.{sym, ◌∙◌, arith}
use Rattle.primer.specs.Laws.{next-at, next-none, next_past, next_fits}
use Rattle.primer.proofs.next.Goals as goal

pub returns-then-text-from : goal.returns-then-text-from
returns-then-text-from c = next_past _ _ _ c.if-text-from.true

pub new-requires : goal.new-requires
new-requires c = c.requires

pub overflow_add-result : goal.overflow_add-result
overflow_add-result c =
    let a = c.args in
    record { fits = omega (arith, next_fits a.primer.now a.text.now a.from c.in-Some.k (omega arith) (sym (rw c.new.ensures at c.find.ensures) ∙ c.in-Some.is)) }

pub returns-in-Some : goal.returns-in-Some
returns-in-Some c = next-at _ _ _ _ (sym (rw c.new.ensures at c.find.ensures) ∙ c.in-Some.is)

pub returns-in-None : goal.returns-in-None
returns-in-None c = next-none _ _ _ (sym (rw c.new.ensures at c.find.ensures) ∙ c.in-None.is)
