-- `fitting::quick::quick_at` meets its contract: the definition line and the sequence behind it are a record's row.
use Rattle.std.proofs.Common.{◌∙◌, sym, arith}
use Rattle.indexer.specs.Opened.{Opens}
use Rattle.indexer.specs.Quick.{ok-back}
use Rattle.fitting.specs.Rules.{rule_of}
use Rattle.fitting.proofs.quick.quick_at.Goals as goal
use Rattle.fitting.proofs.quick.quick_at.Goals.{In_ok-e}

opens : (c : In_ok-e) → Opens c.args.s.now c.args.at c.in_ok-e.e c.in_ok-e.d
opens c = rw (ok-back _ _ (sym c.ok.ensures.value ∙ c.in_ok-ok.was), c.in_ok-e.was) at c.opened.ensures

pub good_by-requires : goal.good_by-requires
good_by-requires c = (opens (goal.at.good_by-requires c).In_ok-e).ends

pub returns : goal.returns
returns c =
    let o = opens (goal.at.returns c).In_ok-e in
    rw (c.row_for-row.ensures (omega (arith, o.begins, o.ends, o.name, o.description))) (c.in_ok-good.ensures.row _ _ (omega (arith, o.begins)) ∙ o.by_rule (rule_of c.args.rule))
