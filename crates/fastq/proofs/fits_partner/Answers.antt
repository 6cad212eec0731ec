-- `fastq::fits_partner` meets its contract, by a law for each way.
use Rattle.std.proofs.Common.{sym, ◌∙◌}
use borrow.Author.Tests.{eq-eqb, ne_eqb}
use Rattle.fastq.specs.Laws.{partner-bases, partner-width, partner-last}
use Rattle.fastq.proofs.fits_partner.Goals as goal

pub returns-else-base_count-p : goal.returns-else-base_count-p
returns-else-base_count-p c = ne_eqb _ _ c.if-base_count-p.false ∙ partner-bases _ _ (λ e. c.if-base_count-p.false (c.base_count.ensures ∙ e))

pub returns-then-q-p : goal.returns-then-q-p
returns-then-q-p c = eq-eqb _ _ c.if-q-p.true ∙ partner-width _ _ (sym c.base_count.ensures ∙ c.if-base_count-p.true) c.if-q-p.true

pub returns-else-q-p : goal.returns-else-q-p
returns-else-q-p c = rw c.content_length.ensures (partner-last _ _ (sym c.base_count.ensures ∙ c.if-base_count-p.true) c.if-q-p.false)
