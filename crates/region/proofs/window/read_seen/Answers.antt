-- `region::window::read_seen` meets its contract: bases that all lie in the window are copied from it, each so far behind its front as it lies
-- behind the window's offset.
use Rattle.std.proofs.Common.{◌+◌, ◌≡◌, ◌∙◌, length, arith}
use Rattle.region.specs.Exact.{offsets_of}
use Rattle.region.specs.Part.{in_part}
use Rattle.region.specs.WindowLaws.{seen-outside, seen_read, seen-starts, seen_first}
use Rattle.region.proofs.window.read_seen.Goals as goal
use Rattle.region.proofs.window.read_seen.Goals.{After-count_in-covered}

-- the part is the window's
counted : (c : After-count_in-covered)
    → let a = c.args in
    c.count_in-covered.result ≡ in_part a.from (a.from + length a.window.now) (offsets_of a.x a.first.0 a.bases.count)
counted c = c.count_in-covered.ensures ∙ rw c.seen.ensures

pub returns-then-covered-n : goal.returns-then-covered-n
returns-then-covered-n c = seen-outside _ c.args.window.now c.args.x _ _ _ _ (counted (goal.at.returns-then-covered-n c).After-count_in-covered) c.if-covered-n.true

pub overflow_sub-here : goal.overflow_sub-here
overflow_sub-here c = omega (arith, seen_first _ c.args.window.now c.args.x _ _ _ (counted (goal.at.overflow_sub-here c).After-count_in-covered) c.requires.judged_in.bases c.if-covered-n.false, c.requires.judged_in.place)

pub copy_bases-requires : goal.copy_bases-requires
copy_bases-requires c = record { begins = record { front = c.args.from; base = c.args.first.0; starts = seen-starts _ c.args.window.now c.args.x _ _ _ (counted (goal.at.copy_bases-requires c).After-count_in-covered) _ _ c.requires.judged_in c.if-covered-n.false }; n_in_bounds = c.requires.n_in_bounds }

pub returns : goal.returns
returns c =
    rw (c.copy_bases.ensures.from c.args.from c.args.first.0 (seen-starts _ c.args.window.now c.args.x _ _ _ (counted (goal.at.returns c).After-count_in-covered) _ _ c.requires.judged_in c.if-covered-n.false))
    (seen_read _ c.args.window.now c.args.x _ _ _ _ (counted (goal.at.returns c).After-count_in-covered) c.if-covered-n.false)
