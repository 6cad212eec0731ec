-- `fitting::find` meets its contract: each rule's own way.
use Rattle.fitting.proofs.find.Goals as goal

pub returns-in-Strict : goal.returns-in-Strict
returns-in-Strict c = rw c.in-Strict.is c.find.ensures

pub returns-in-Complete : goal.returns-in-Complete
returns-in-Complete c = rw c.in-Complete.is c.fit_at.ensures
