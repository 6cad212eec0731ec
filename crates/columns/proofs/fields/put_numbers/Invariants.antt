-- `columns::fields::put_numbers` meets its contract. The loop's invariant: the text of the numbers so far is laid over the output from `at`
-- up to `place`.
use Rattle.std.proofs.Common.{◌+◌, ◌≡◌, length, take}
use Rattle.columns.specs.Bytes.{overlaid}
use Rattle.columns.specs.Fields.{numbers_text}
use Rattle.columns.proofs.fields.put_numbers.Given as goal

abbrev pub invariant-loop-number : goal.invariant-loop-number
invariant-loop-number l =
    (length l.out ≡ length l.initial.out)
    × (l.place ≡ l.at + length (numbers_text (take l.number-index l.numbers)))
    × (l.out ≡ overlaid l.initial.out l.at (numbers_text (take l.number-index l.numbers)))
