-- `index::compare` meets its contract: a refused row is refused, and of any other the name is compared.
use Rattle.std.proofs.Common.{◌≡◌, refl, sym, ◌∙◌, Bool, true, false, cond, Result, Ok, Err, rules}
use Rattle.refusal.specs.declared.Refusal.{Refusal}
use Rattle.table.specs.RowLaws.{named-of}
use Rattle.index.specs.Find.{compared_of}
use Rattle.index.proofs.compare.Goals as goal

pub is_named-requires : goal.is_named-requires
is_named-requires c = (named-of _ _ _ (sym c.named.ensures ∙ c.in_ok-x.was)).1

pub returns-in_err-x : goal.returns-in_err-x
unfolding compared_of
returns-in_err-x c =
    let e : c.from_residual.result ≡ Err c.in_err-x.field-0.0 = search rules in
    rw (sym c.named.ensures ∙ c.in_err-x.was, e)

pub returns : goal.returns
unfolding compared_of
returns c = rw (sym c.named.ensures ∙ c.in_ok-x.was, sym c.is_named.ensures) (told _)
  where
    told : (b : Bool) → ◌≡◌ {A = Result Bool Refusal} (Ok b) (cond b (Ok true) (Ok false))
    told true = refl
    told false = refl
