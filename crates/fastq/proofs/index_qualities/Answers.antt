-- `fastq::index_qualities` meets its contract, by a law for each way.
use Rattle.std.proofs.Common.{◌≡◌, Err, rules, sym, ◌∙◌}
use Rattle.fastq.specs.RecordLaws.{body-plusless, body-quality, body-row, plus-within}
use Rattle.fastq.proofs.index_qualities.Goals as goal

pub returns-then-s-body : goal.returns-then-s-body
returns-then-s-body c = body-plusless _ _ _ _ _ c.requires c.if-s-body.true

pub judge_qualities-requires : goal.judge_qualities-requires
judge_qualities-requires c =
    (plus-within _ _ _ _ _ c.requires c.if-s-body.false _ c.plus_end-q.ensures).0

pub returns-in_err-behind : goal.returns-in_err-behind
returns-in_err-behind c =
    let e : c.from_residual.result ≡ Err c.in_err-behind.field-0.0 = search rules in
    rw e (body-quality _ _ _ _ _ c.requires c.if-s-body.false _ c.plus_end-q.ensures _ (sym c.judge_qualities.ensures ∙ c.in_err-behind.was))

pub returns : goal.returns
returns c =
    rw (c.named-record.ensures, c.unnamed.ensures)
    (body-row _ _ _ _ _ c.requires c.if-s-body.false _ c.plus_end-q.ensures _ (sym c.judge_qualities.ensures ∙ c.in_ok-behind.was))
