-- `feeder::passing::even_lines` meets its contract: it counts lines only if each test says that they are even with the rows.
use Rattle.std.proofs.Common.{sym, ◌∙◌, arith, eqb-true}
use Rattle.feeder.proofs.passing.even_lines.Goals as goal

pub returns-then-not-is_same : goal.returns-then-not-is_same
returns-then-not-is_same c = λ h. absurd (omega arith)

pub returns-then-count-n-ne0 : goal.returns-then-count-n-ne0
returns-then-count-n-ne0 c = λ h. absurd (omega arith)

pub returns-then-is_place : goal.returns-then-is_place
returns-then-is_place c =
    λ h.
    record {
      same = sym c.is_same.ensures ∙ c.if-not-is_same.false;
      column = c.if-count-n-ne0.false;
      place = eqb-true _ _ (sym c.is_place.ensures ∙ c.if-is_place.true);
      count = c.lines_like-k.ensures;
    }

pub returns : goal.returns
returns c = λ h. absurd (omega arith)
