-- `indexer::index_sequence` meets its contract: it judges the first line, and what the other lines say holds for the whole record.
use Rattle.std.proofs.Common.{◌≡◌, Err, rules, arith}
use Rattle.indexer.specs.Laws.{line-fits, record-none, record-some}
use Rattle.indexer.proofs.index_sequence.Goals as goal

pub overflow_add-next : goal.overflow_add-next
overflow_add-next c = omega (arith, line-fits _ _ c.requires.ends _ c.sequence_line-first.ensures)

pub returns-then-first-eq0 : goal.returns-then-first-eq0
returns-then-first-eq0 c = record-none _ _ _ _ (omega (arith, c.requires.begins)) c.requires.ends _ c.sequence_line-first.ensures c.if-first-eq0.true

pub index_rest-requires : goal.index_rest-requires
index_rest-requires c = omega (arith, line-fits _ _ c.requires.ends _ c.sequence_line-first.ensures)

pub returns-in_err-bases : goal.returns-in_err-bases
returns-in_err-bases c =
    let e : c.from_residual.result ≡ Err c.in_err-bases.field-0.0 = search rules in
    rw e (record-some _ _ _ _ (omega (arith, c.requires.begins)) c.requires.ends _ c.sequence_line-first.ensures c.if-first-eq0.false _ _ c.index_rest.ensures c.in_err-bases.was)

pub returns : goal.returns
returns c =
    rw (c.row_for.ensures (omega (arith, c.requires.begins, c.requires.ends, c.requires.name, c.requires.description)))
    (record-some _ _ _ _ (omega (arith, c.requires.begins)) c.requires.ends _ c.sequence_line-first.ensures c.if-first-eq0.false _ _ c.index_rest.ensures c.in_ok-bases.was)
