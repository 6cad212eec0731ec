-- `fitting::quick::even_good` meets its contract: even lines are told by their first, and by what was found of them.
use Rattle.fitting.specs.Quick.{even-good}
use Rattle.fitting.proofs.quick.even_good.Goals as goal

pub even_lines-requires : goal.even_lines-requires
even_lines-requires c = (c.requires, c.sequence_line-first.ensures)

pub returns : goal.returns
returns c = even-good _ _ _ c.sequence_line-first.ensures _ _ (rw c.in_ok-bases.was at c.even_lines.ensures)
