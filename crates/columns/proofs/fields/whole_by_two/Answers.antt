-- `columns::fields::whole_by_two` meets its contract: no byte of N to 2 * N is outside of both blocks.
use Rattle.std.proofs.Common.{sym, ◌∙◌, arith}
use Rattle.columns.specs.Fields.{splits}
use Rattle.columns.specs.Among.{two-clear, neither}
use Rattle.columns.proofs.fields.whole_by_two.Goals as goal

pub returns : goal.returns
returns g c = λ e.
    let x = neither _ _ e in
    two-clear splits c.args.name.now g.row.N c.requires.0 (omega arith) (sym c.split_in-front.ensures ∙ x.0) (sym c.split_in-back.ensures ∙ x.1)
