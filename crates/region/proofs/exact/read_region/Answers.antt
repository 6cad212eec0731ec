-- `region::exact::read_region` meets its contract: what is judged fine lies in the file and has room, and is copied; the rest is refused.
use Rattle.std.proofs.Common.{◌∙◌, sym, arith, ◌≡◌, Err, rules}
use Rattle.region.specs.Laws.{good-bounds}
use Rattle.region.specs.Copy.{byte-start}
use Rattle.region.specs.Judge.{judged-fine, refused-read, fine-read, fine-starts}
use Rattle.region.proofs.exact.read_region.Goals as goal

pub copy_bases-requires : goal.copy_bases-requires
copy_bases-requires c =
    let f = judged-fine _ _ _ _ _ _ _ _ (sym c.judge_region.ensures ∙ c.in_ok-bases.was) in
    let b = good-bounds _ _ c.args.x.length c.requires.2 in
    record { begins = record { front = 0; base = _; starts = fine-starts _ _ _ _ _ _ _ _ c.requires.0 c.requires.1 b.from_one b.in_order (omega arith) f }; n_in_bounds = f.enough }

pub returns-in_err-bases : goal.returns-in_err-bases
returns-in_err-bases c =
    let e : c.from_residual.result ≡ Err c.in_err-bases.field-0.0 = search rules in
    rw e (refused-read _ _ _ _ _ _ _ (sym c.judge_region.ensures ∙ c.in_err-bases.was))

pub returns : goal.returns
returns c =
    let f = judged-fine _ _ _ _ _ _ _ _ (sym c.judge_region.ensures ∙ c.in_ok-bases.was) in
    let b = good-bounds _ _ c.args.x.length c.requires.2 in
    rw (c.copy_bases.ensures.from 0 _ (fine-starts _ _ _ _ _ _ _ _ c.requires.0 c.requires.1 b.from_one b.in_order (omega arith) f), byte-start) (fine-read _ _ _ _ _ _ _ _ _ f)
