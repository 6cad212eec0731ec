-- `columns::fields::whole_name` meets its contract: each size has its blocks, and of 3 bytes or fewer nothing is said.
use Rattle.std.proofs.Common.{sym, true≢false}
use Rattle.columns.proofs.fields.whole_name.Goals as goal

pub returns-then-name-lt4 : goal.returns-then-name-lt4
returns-then-name-lt4 c = λ e. absurd (true≢false (sym e))
