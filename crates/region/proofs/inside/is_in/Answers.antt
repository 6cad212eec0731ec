-- `region::inside::is_in` meets its contract: a base that has no offset of 64 bits is behind every part.
use Rattle.std.proofs.Common.{sym, ap, ◌∙◌, arith}
use borrow.Author.Tests.{lt-leb}
use Rattle.record.specs.Laws.{Addressed, address-none, address-known}
use Rattle.region.specs.Part.{is_in}
use Rattle.region.specs.PartLaws.{is_below, is-past, is-from}
use Rattle.region.proofs.inside.is_in.Goals as goal
use Rattle.region.proofs.inside.is_in.Goals.{In-Some}

pub returns-in_default : goal.returns-in_default
returns-in_default c = sym (is-past _ _ _ (omega (arith, address-none c.args.x c.args.p c.requires.2 c.requires.0 c.requires.1 (sym c.offset_of.ensures ∙ c.in_default.is))))

-- the offset is the base's place
known : (c : In-Some) → let a = c.args in Addressed a.x a.p c.in-Some.o
known c = address-known _ _ _ (sym c.offset_of.ensures ∙ c.in-Some.is)

pub returns-then-part-o : goal.returns-then-part-o
returns-then-part-o c = is-from _ _ _ c.if-part-o.true ∙ ap (is_in _ _) (known (goal.at.returns-then-part-o c).In-Some).here

pub returns-else-part-o : goal.returns-else-part-o
returns-else-part-o c =
    rw (lt-leb _ _ c.if-part-o.false) (sym (is_below _ _ _ (omega (arith, known (goal.at.returns-else-part-o c).In-Some, c.if-part-o.false))))
