-- `columns::fields::text_length` meets its contract. The loop's invariant: n counts the name, the LF, and a tab and the digits of each
-- number passed; these are at most 21 bytes for a number.
use Rattle.std.proofs.Common.{◌≤◌, ◌+◌, ◌*◌, ◌≡◌, length, take}
use Rattle.columns.specs.Fields.{numbers_text}
use Rattle.columns.proofs.fields.text_length.Given as goal

abbrev pub invariant-loop-number : goal.invariant-loop-number
invariant-loop-number l =
    (l.n ≤ length l.name + 21 * l.number-index + 1) × (l.n ≡ length l.name + length (numbers_text (take l.number-index l.numbers)) + 1)
