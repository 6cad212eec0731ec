-- `columns::fields::read_each` meets its contract. The loop's invariant: the numbers read, and what the fields behind the tab say,
-- together are what all fields say. Each way on is a law of specs/Reading.antt.
use Rattle.std.proofs.Common.{◌+◌, ◌-◌, ◌≡◌, length, take, drop}
use Rattle.columns.specs.Fields.{numbers_from}
use Rattle.columns.specs.Reading.{behind, after}
use Rattle.columns.proofs.fields.read_each.Given as goal

abbrev pub invariant-loop-i : goal.invariant-loop-i
invariant-loop-i l =
    (length l.numbers ≡ length l.initial.numbers)
    × (after (take l.i l.numbers) l.plain (numbers_from l.line (l.i + 2) (length l.initial.numbers - l.i) (behind (length l.initial.numbers - l.i) (drop l.tab l.content)))
    ≡ numbers_from l.line 2 (length l.initial.numbers) (behind (length l.initial.numbers) (drop l.name l.content)))
