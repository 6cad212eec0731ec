-- `table::kind::keep` meets its contract: what storing the row tells is how filling goes on.
use Rattle.std.proofs.Common.{◌≡◌, ◌∙◌, ap, Ok, Err, rules}
use Rattle.table.specs.Kinds.{turn_of}
use Rattle.table.specs.KindLaws.{kept-stop, kept_on, kept_full}
use Rattle.table.proofs.kind.keep.Goals as goal

pub returns-in_err-found-clause-kept : goal.returns-in_err-found-clause-kept
returns-in_err-found-clause-kept g c =
    let e : c.from_residual.result ≡ Err c.in_err-found.field-0.0 = search rules in
    rw e (kept-stop _ _ _ (Err _) (ap turn_of c.in_err-found.was))

pub returns-in_default-clause-kept : goal.returns-in_default-clause-kept
returns-in_default-clause-kept g c = kept-stop _ _ _ (Ok _) (ap turn_of (c.in_ok-found.was ∙ ap Ok c.in_default.is))

pub returns-in_err-store-clause-kept : goal.returns-in_err-store-clause-kept
returns-in_err-store-clause-kept g c =
    let e : c.from_residual-in_err-store.result ≡ Err c.in_err-store.field-0.0 = search rules in
    rw e (kept_full _ _ _ _ _ (ap turn_of (c.in_ok-found.was ∙ ap Ok c.in-Some.is)) _ _ c.store.ensures.stored _ c.in_err-store.was)

pub returns-clause-kept : goal.returns-clause-kept
returns-clause-kept g c =
    kept_on _ _ _ _ _ (ap turn_of (c.in_ok-found.was ∙ ap Ok c.in-Some.is)) _ _ c.store.ensures.stored c.in_ok-store.was
