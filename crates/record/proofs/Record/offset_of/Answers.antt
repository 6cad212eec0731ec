-- `record::Record::offset_of` meets its contract: if a number is 0 the definition has no offset, and else `fitting` makes the
-- definition's own sum.
use Rattle.std.proofs.Common.{sym, ◌∙◌, arith, inl, inr}
use Rattle.record.specs.Place.{place_of}
use Rattle.record.specs.Laws.{address-no-position, address-no-bases, address-no-width, address-place}
use Rattle.record.proofs.Record.offset_of.Goals as goal

pub returns-then-p-lt-FIRST : goal.returns-then-p-lt-FIRST
returns-then-p-lt-FIRST c =
    elim c.then-p-lt-FIRST.either [
      | inl none ↦ address-no-position _ _ (omega (arith, none))
      | inr either ↦ elim either [ inl none ↦ address-no-bases _ _ (omega (arith, none.1)) | inr none ↦ address-no-width _ _ (omega (arith, none)) ]
    ]

pub returns : goal.returns
unfolding place_of
returns c = c.fitting.ensures ∙ sym (address-place _ _ (omega arith) (omega arith) (omega arith))
