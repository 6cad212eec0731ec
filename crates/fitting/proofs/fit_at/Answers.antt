-- `fitting::fit_at` meets its contract: what the definition line opens decides.
use Rattle.std.proofs.Common.{◌∙◌}
use Rattle.fitting.specs.Complete.{complete}
use Rattle.indexer.specs.Opened.{Opens}
use Rattle.fitting.proofs.fit_at.Goals as goal

pub fit_lines-requires : goal.fit_lines-requires
fit_lines-requires c = rw (c.in_ok-e.was, c.in-Some.is) at c.opened.ensures

pub returns : goal.returns
returns c =
    let o : Opens c.args.s.now c.args.at c.in-Some.e c.in-Some.d = rw (c.in_ok-e.was, c.in-Some.is) at c.opened.ensures in
    c.fit_lines.ensures ∙ o.by_rule complete
