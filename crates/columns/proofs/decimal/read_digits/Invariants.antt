-- `columns::read_digits` meets its contract. The loop's invariant: the digits passed make `value`, and the number from here, with
-- those before it, is the number from the start. Each way out is a law of `numberFrom`.
use Rattle.std.proofs.Common.{◌<◌, ◌^◌, ◌≡◌, drop}
use Rattle.columns.specs.Decimal.{number_from, digits_of}
use Rattle.columns.proofs.decimal.read_digits.Given as goal

abbrev pub invariant-loop-byte : goal.invariant-loop-byte
invariant-loop-byte l = (l.value < 2 ^ 64) × (number_from l.value (drop l.byte-index l.s) ≡ digits_of l.s)
