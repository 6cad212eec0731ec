-- `fitting::quick::good_by` meets its contract: each rule's own way.
use Rattle.fitting.proofs.quick.good_by.Goals as goal

pub returns-in-Strict : goal.returns-in-Strict
returns-in-Strict c = rw c.in-Strict.is c.good_at.ensures

pub returns-in-Complete : goal.returns-in-Complete
returns-in-Complete c = rw c.in-Complete.is c.even_good.ensures
