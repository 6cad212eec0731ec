-- `lines::abreast::row_is_like` meets its contract: no place has an LF too early, and each ends as it should.
use Rattle.std.proofs.Common.{◌+◌, arith}
use Rattle.lines.specs.Abreast.{line-by}
use Rattle.lines.proofs.abreast.row_is_like.Goals as goal

pub returns : goal.returns
returns c = λ e.
    let a = c.args in
    let no = c.lf_in_row.ensures c.if-lf_in_row.false in
    record {
      first = line-by a.s.now a.like a.mark a.at (omega arith) (omega arith) no.first (c.ends_like.ensures c.if-not-ends_like.false);
      second = line-by a.s.now a.like a.mark (a.at + a.apart) (omega arith) (omega arith) no.second (c.ends_like-2.ensures c.if-not-ends_like-2.false);
      third = line-by a.s.now a.like a.mark (a.at + a.apart + a.apart) (omega arith) (omega arith) no.third (c.ends_like-3.ensures c.if-not-ends_like-3.false);
      fourth = line-by a.s.now a.like a.mark (a.at + a.apart + a.apart + a.apart) (omega arith) (omega arith) no.fourth (c.ends_like-4.ensures e);
    }
