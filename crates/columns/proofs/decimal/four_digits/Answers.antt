-- `columns::decimal::four_digits` meets its contract: of each half the ones go behind the tens.
use Rattle.columns.specs.Forward.{halves_small, four-word}
use Rattle.columns.proofs.decimal.four_digits.Goals as goal

pub tenths-requires : goal.tenths-requires
tenths-requires c = halves_small _ _ c.requires c.halves-two.ensures

pub overflow_sub-result : goal.overflow_sub-result
overflow_sub-result c = (four-word _ _ _ c.requires c.halves-two.ensures c.tenths.ensures).0

pub returns : goal.returns
returns c = (four-word _ _ _ c.requires c.halves-two.ensures c.tenths.ensures).1
