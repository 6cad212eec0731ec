-- `lines::abreast::lf_in_long_row` meets its contract: each place is looked at.
use Rattle.std.proofs.Common.{sym, ◌∙◌}
use Rattle.lines.proofs.abreast.lf_in_long_row.Goals as goal

pub returns : goal.returns
returns c = λ e.
    record {
      first = record { clear = sym c.lf_in_long.ensures ∙ c.if-lf_in_long.false };
      second = record { clear = sym c.lf_in_long-2.ensures ∙ c.if-lf_in_long-2.false };
      third = record { clear = sym c.lf_in_long-3.ensures ∙ c.if-lf_in_long-3.false };
      fourth = record { clear = sym c.lf_in_long-4.ensures ∙ e };
    }
