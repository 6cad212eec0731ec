-- `region::window::read_region` meets its contract: a region is judged for the whole file, and what is fine is read from the window.
use Rattle.std.proofs.Common.{◌^◌, ◌<◌, sym, ◌∙◌, arith, ◌≡◌, Err, rules}
use Rattle.region.specs.Laws.{good-bounds}
use Rattle.region.specs.Judge.{judged-fine}
use Rattle.region.specs.WindowLaws.{fine-judged, window-refused, window-fine}
use Rattle.region.proofs.window.read_region.Goals as goal
use Rattle.region.proofs.window.read_region.Goals.{Start}

-- a record's length has 64 bits
fits : (s : Start) → s.args.x.length < 2 ^ 64
fits s = omega arith

pub read_seen-requires : goal.read_seen-requires
read_seen-requires c =
    let f = judged-fine _ _ _ _ _ _ _ _ (sym c.judge_region.ensures ∙ c.in_ok-bases.was) in
    let b = good-bounds _ _ c.args.x.length c.requires.line_bases_nonzero.2 in
    record { judged_in = rw c.first_base.ensures (fine-judged _ _ _ _ _ _ _ _ c.requires.line_bases_nonzero.0 c.requires.line_bases_nonzero.1 b.from_one b.in_order (fits (goal.at.read_seen-requires c).Start) f); from_bound = c.requires.from_bound; n_in_bounds = f.enough }

pub returns-in_err-bases : goal.returns-in_err-bases
returns-in_err-bases c =
    let e : c.from_residual.result ≡ Err c.in_err-bases.field-0.0 = search rules in
    rw e (window-refused _ _ _ _ _ _ _ _ (sym c.judge_region.ensures ∙ c.in_err-bases.was))

pub returns : goal.returns
returns c =
    let f = judged-fine _ _ _ _ _ _ _ _ (sym c.judge_region.ensures ∙ c.in_ok-bases.was) in
    c.read_seen.ensures ∙ rw c.first_base.ensures (window-fine _ _ _ _ _ _ _ _ _ _ f)
