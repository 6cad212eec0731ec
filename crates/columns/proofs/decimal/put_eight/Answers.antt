-- `columns::decimal::put_eight` meets its contract: four digits, and four behind them.
use Rattle.columns.specs.Forward.{eight-put}
use Rattle.columns.proofs.decimal.put_eight.Goals as goal

pub returns : goal.returns
returns c =
    rw (c.put_four-2.ensures, c.put_four.ensures) (eight-put _ _ _ c.requires.1)
