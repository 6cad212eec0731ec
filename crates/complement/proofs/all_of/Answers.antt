-- `complement::all_of` meets its contract: both halves and the last byte together are all.
use Rattle.std.proofs.Common.{sym, ◌∙◌}
use Rattle.complement.specs.KindLaws.{both-good, both-bad}
use Rattle.complement.proofs.all_of.Goals as goal

pub returns-then-both_of : goal.returns-then-both_of
returns-then-both_of g c =
    c.block_of.ensures
    ∙ sym (both-good _ _ _ _ _ _ _ _ c.split_at.ensures.front c.split_at.ensures.back c.split_at-2.ensures.front c.split_at-2.ensures.back (sym c.both_of.ensures ∙ c.if-both_of.true))

pub returns-else-both_of : goal.returns-else-both_of
returns-else-both_of g c =
    c.if-both_of.false
    ∙ sym (both-bad _ _ _ _ _ _ _ _ c.split_at.ensures.front c.split_at.ensures.back c.split_at-2.ensures.front c.split_at-2.ensures.back (sym c.both_of.ensures ∙ c.if-both_of.false))
