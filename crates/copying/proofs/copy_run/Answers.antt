-- `copying::copy_run` meets its contract: both places are cut where the bytes end, and what is copied is as much as is there and has room.
use Rattle.std.proofs.Common.{◌≡◌, ◌+◌, ◌-◌, arith}
use Rattle.copying.specs.Laws.{copy-cut}
use Rattle.copying.proofs.copy_run.Goals as goal

pub returns : goal.returns
returns c =
    let a = c.args in
    let p : c.min-first.result + c.min-fitting.result - c.min-first.result ≡ c.min-fitting.result = omega arith in
    let q : c.min-place.result + c.min-fitting.result - c.min-place.result ≡ c.min-fitting.result = omega arith in
    rw (c.copy_all.ensures, p, q)
    (copy-cut a.out.now a.to a.from.now a.start a.n c.min-first.result c.min-place.result c.min-fitting.result (omega arith) (omega arith) (omega arith))
