-- `region::window::needed_region` meets its contract: a region that is judged good lies in the file, and its part is the answer; any other is refused.
use Rattle.std.proofs.Common.{◌^◌, sym, ◌∙◌, arith, ◌≡◌, Err, rules}
use Rattle.region.specs.Laws.{good-bounds}
use Rattle.region.specs.Judge.{judged-fine}
use Rattle.region.specs.Window.{needed_by}
use Rattle.region.specs.WindowLaws.{fine-bases, fine-lie, lie-more}
use Rattle.region.proofs.window.needed_region.Goals as goal

pub part_of-requires : goal.part_of-requires
part_of-requires c =
    let f = judged-fine _ _ _ _ _ _ _ _ (sym c.judge_region.ensures ∙ c.in_ok-bases.was) in
    let b = good-bounds _ _ c.args.x.length c.requires.line_bases_nonzero.2 in
    let o = fine-bases _ _ _ _ _ _ _ _ c.requires.line_bases_nonzero.0 c.requires.line_bases_nonzero.1 b.from_one b.in_order (omega arith) f in
    let l = fine-lie _ _ _ _ _ _ _ _ c.requires.line_bases_nonzero.0 c.requires.line_bases_nonzero.1 b.from_one b.in_order (omega arith) f in
    record { addressable = rw c.first_base.ensures o; lie_in = rw c.first_base.ensures (lie-more 0 c.args.bytes 0 (2 ^ 63) _ _ _ (omega arith) (omega (arith, c.requires.bytes_bound)) l) }

pub returns-in_err-bases : goal.returns-in_err-bases
unfolding needed_by
returns-in_err-bases c =
    let e : c.from_residual.result ≡ Err c.in_err-bases.field-0.0 = search rules in
    rw e (rw (sym c.judge_region.ensures ∙ c.in_err-bases.was))

pub returns : goal.returns
unfolding needed_by
returns c =
    rw (sym c.judge_region.ensures ∙ c.in_ok-bases.was, c.part_of.ensures, c.first_base.ensures)
