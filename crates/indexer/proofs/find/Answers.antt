-- `indexer::find` meets its contract: what the definition line opens decides.
use Rattle.std.proofs.Common.{◌∙◌}
use Rattle.indexer.specs.Index.{ported}
use Rattle.indexer.specs.Opened.{Opens}
use Rattle.indexer.proofs.find.Goals as goal

pub index_sequence-requires : goal.index_sequence-requires
index_sequence-requires c = rw (c.in_ok-e.was, c.in-Some.is) at c.opened.ensures

pub returns : goal.returns
returns c =
    let o : Opens c.args.s.now c.args.at c.in-Some.e c.in-Some.d = rw (c.in_ok-e.was, c.in-Some.is) at c.opened.ensures in
    c.index_sequence.ensures ∙ o.by_rule ported
