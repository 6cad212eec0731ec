-- `region::exact::judge_region` meets its contract: past the test for the length the bounds are in order, from 1 on.
use Rattle.std.proofs.Common.{◌≡◌, ◌∙◌, sym}
use Rattle.region.specs.Region.{start_of, end_of}
use Rattle.region.specs.Exact.{past_length}
use Rattle.region.specs.Laws.{good-bounds, within-length}
use Rattle.region.specs.Judge.{judged-past, judged-within}
use Rattle.region.proofs.exact.judge_region.Goals as goal
use Rattle.region.proofs.exact.judge_region.Goals.{After-past_length}

-- the test is of the region's first and last base
judged : (c : After-past_length) → let a = c.args in c.past_length.result ≡ past_length a.x.length (start_of a.start) (end_of a.x.length a.end)
judged c = rw (c.past_length.ensures, c.first_base-first.ensures, c.last_base-last.ensures)

pub returns-then-past_length : goal.returns-then-past_length
returns-then-past_length c = judged-past _ _ _ _ _ (sym (judged (goal.at.returns-then-past_length c).After-past_length) ∙ c.if-past_length.true)

pub judge_bases-requires : goal.judge_bases-requires
judge_bases-requires c =
    let b = good-bounds _ _ c.args.x.length c.requires.2 in
    (c.requires.0, c.requires.1, rw c.first_base-first.ensures b.from_one, rw (c.first_base-first.ensures, c.last_base-last.ensures) (b.in_order (within-length _ _ _ (sym (judged (goal.at.judge_bases-requires c).After-past_length) ∙ c.if-past_length.false)).0))

pub returns : goal.returns
returns c =
    c.judge_bases.ensures
    ∙ rw (c.first_base-first.ensures, c.last_base-last.ensures) (judged-within _ _ _ _ _ (sym (judged (goal.at.returns c).After-past_length) ∙ c.if-past_length.false))
