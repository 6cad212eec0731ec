-- `lines::abreast::lf_in_short_row` meets its contract: the first block and the last are all of the bytes of a place.
use Rattle.std.proofs.Common.{◌+◌, sym, ◌∙◌, arith}
use Rattle.lines.specs.Abreast.{first-clear, second-clear}
use Rattle.lines.proofs.abreast.lf_in_short_row.Goals as goal

pub returns : goal.returns
returns c = λ e.
    let a = c.args in
    let f = sym c.lf_in_four.ensures ∙ c.if-lf_in_four.false in
    let g = sym c.lf_in_four-2.ensures ∙ e in
    let third = a.at + a.apart + a.apart in
    record {
      first = first-clear a.s.now a.at (a.at + a.apart) a.n (omega arith) (omega arith) f;
      second = second-clear a.s.now a.at (a.at + a.apart) a.n (omega arith) (omega arith) f;
      third = first-clear a.s.now third (third + a.apart) a.n (omega arith) (omega arith) g;
      fourth = second-clear a.s.now third (third + a.apart) a.n (omega arith) (omega arith) g;
    }
