-- `scorer::score_row` meets its contract: the read gives the key, and it lies in the room.
use Rattle.std.proofs.Common.{◌≡◌, Err, rules}
use Rattle.scorer.specs.Laws.{key-within, key-size, row-refused, row-counted}
use Rattle.scorer.proofs.score_row.Goals as goal

pub slice_bounds-score_key-end : goal.slice_bounds-score_key-end
slice_bounds-score_key-end c = key-within _ _ _ _ _ _ _ _ c.read_exact.ensures c.in_ok-n.was

pub slice_bounds-score_key-end-2 : goal.slice_bounds-score_key-end-2
slice_bounds-score_key-end-2 c = key-size _ _ _ _ _ _ _ _ c.read_exact.ensures c.in_ok-n.was

pub returns-in_err-n : goal.returns-in_err-n
returns-in_err-n c =
    let e : c.from_residual.result ≡ Err c.in_err-n.field-0.0 = search rules in
    rw e (row-refused _ _ _ _ _ _ _ c.read_exact.ensures _ c.in_err-n.was)

pub returns : goal.returns
returns c =
    row-counted _ _ _ _ _ _ _ c.read_exact.ensures _ _ c.in_ok-n.was c.score_key.ensures
