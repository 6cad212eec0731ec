-- `fastq_index::RecordsSourceQualityRows::next` meets its contract: the next row is the part's, and behind it one record more is passed.
use Rattle.std.proofs.Common.{sym, ◌∙◌}
use Rattle.fastq_index.specs.PartLaws.{next-before, next-place, behind_more}
use Rattle.fastq_index.proofs.RecordsSourceQualityRows.next.Goals as goal

pub returns-clause-next : goal.returns-clause-next
returns-clause-next c = next-before _ _ _ _ c.next_row.ensures

pub returns-clause-reached : goal.returns-clause-reached
returns-clause-reached c from b x e h = behind_more _ _ _ _ _ h (next-place _ _ _ _ _ (sym c.next_row.ensures ∙ e))
