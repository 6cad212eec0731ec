-- `copying::put` meets its contract: a store of so many bytes leaves those behind them.
use Rattle.std.proofs.Common.{◌≡◌, arith, length, take, length-take-le}
use Rattle.std.proofs.lemmas.Simd.{put_chunk_is}
use Rattle.copying.proofs.put.Goals as goal

pub returns : goal.returns
returns g c =
    let front = take g.row.N c.args.from.now in
    let long : length front ≡ g.row.N = length-take-le g.row.N c.args.from.now c.requires.0 in
    rw long at (put_chunk_is 0 c.args.out.now front (omega arith))
