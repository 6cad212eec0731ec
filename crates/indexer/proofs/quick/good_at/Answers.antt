-- `indexer::quick::good_at` meets its contract: no line follows the first, or the lines behind it are good.
use Rattle.std.proofs.Common.{sym, ◌∙◌, arith}
use Rattle.indexer.specs.Laws.{line-fits}
use Rattle.indexer.specs.Quick.{ok-back, one-told, all-told}
use Rattle.indexer.proofs.quick.good_at.Goals as goal

pub overflow_add-next : goal.overflow_add-next
overflow_add-next c = omega (arith, line-fits _ _ c.if-s-e.false _ c.sequence_line-first.ensures)

pub returns-then-sequence_ends : goal.returns-then-sequence_ends
returns-then-sequence_ends c =
    one-told _ _ c.if-s-e.false _ c.sequence_line-first.ensures c.if-first-eq0.false (sym c.sequence_ends.ensures ∙ c.if-sequence_ends.true)

pub index_rest-requires : goal.index_rest-requires
index_rest-requires c = omega (arith, line-fits _ _ c.if-s-e.false _ c.sequence_line-first.ensures)

pub returns : goal.returns
returns c =
    all-told _ _ c.if-s-e.false _ c.sequence_line-first.ensures c.if-first-eq0.false _ _ (sym c.index_rest.ensures ∙ ok-back _ _ (sym c.ok.ensures.value ∙ c.in_ok-bases.was))
