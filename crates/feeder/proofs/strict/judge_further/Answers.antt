-- `feeder::strict::judge_further` meets its contract: case by case.
use Rattle.std.proofs.Common.{sym, ◌∙◌, eq-eqb, ne_eqb}
use Rattle.feeder.specs.Machine.{further_out}
use Rattle.feeder.proofs.strict.judge_further.Goals as goal

pub returns-then-fits : goal.returns-then-fits
unfolding further_out
returns-then-fits c = rw (sym c.fits.ensures ∙ c.if-fits.true, c.row.ensures)

pub returns-then-x-n : goal.returns-then-x-n
unfolding further_out
returns-then-x-n c = rw (sym c.fits.ensures ∙ c.if-fits.false, ne_eqb _ _ c.if-x-n.true) c.halted.ensures

pub returns-then-x-n-2 : goal.returns-then-x-n-2
unfolding further_out
returns-then-x-n-2 c = rw (sym c.fits.ensures ∙ c.if-fits.false, eq-eqb _ _ c.if-x-n.false, ne_eqb _ _ c.if-x-n-2.true) c.halted-then-x-n-2.ensures

pub returns : goal.returns
unfolding further_out
returns c = rw (sym c.fits.ensures ∙ c.if-fits.false, eq-eqb _ _ c.if-x-n.false, eq-eqb _ _ c.if-x-n-2.false)
