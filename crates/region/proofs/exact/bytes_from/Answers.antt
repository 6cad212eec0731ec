-- `region::exact::bytes_from` meets its contract: a base that has no offset of 64 bits is past the end of any file.
use Rattle.std.proofs.Common.{sym, ◌∙◌, arith}
use Rattle.record.specs.Laws.{Addressed, address-none, address-known}
use Rattle.region.proofs.exact.bytes_from.Goals as goal
use Rattle.region.proofs.exact.bytes_from.Goals.{In-Some}

pub returns-in_default : goal.returns-in_default
returns-in_default c = omega (arith, address-none c.args.x c.args.p c.requires.2 c.requires.0 c.requires.1 (sym c.offset_of.ensures ∙ c.in_default.is))

-- the offset is the base's place
known : (c : In-Some) → let a = c.args in Addressed a.x a.p c.in-Some.o
known c = address-known _ _ _ (sym c.offset_of.ensures ∙ c.in-Some.is)

pub returns : goal.returns
returns c = omega (arith, known (goal.at.returns c).In-Some)
