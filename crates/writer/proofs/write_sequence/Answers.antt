-- `writer::write_sequence` meets its contract: each test decides as the definition's, and the lines are put at the front.
use Rattle.std.proofs.Common.{sym, ◌∙◌, arith, eq-eqb, ne_eqb}
use Rattle.writer.specs.Text.{sequence_text, sequence_written}
use Rattle.writer.specs.Laws.{not-over, front-no-room, sequence-put}
use Rattle.writer.proofs.write_sequence.Goals as goal

pub returns-then-over_limit : goal.returns-then-over_limit
unfolding sequence_written
returns-then-over_limit c = rw (sym c.over_limit.ensures ∙ c.if-over_limit.true)

pub returns-then-width-eq0 : goal.returns-then-width-eq0
unfolding sequence_written
returns-then-width-eq0 c = rw (sym c.over_limit.ensures ∙ c.if-over_limit.false, eq-eqb _ _ c.if-width-eq0.true)

pub returns-then-any_barred : goal.returns-then-any_barred
unfolding sequence_written
returns-then-any_barred c = rw (sym c.over_limit.ensures ∙ c.if-over_limit.false, ne_eqb _ _ c.if-width-eq0.false, sym c.any_barred.ensures ∙ c.if-any_barred.true)

pub sequence_length-needed-requires : goal.sequence_length-needed-requires
sequence_length-needed-requires c =
    record {
      bases_len_bound = not-over _ (sym c.over_limit.ensures ∙ c.if-over_limit.false);
      width_nonzero = omega (arith, c.if-width-eq0.false);
    }

pub returns-then-out-needed : goal.returns-then-out-needed
unfolding sequence_written
returns-then-out-needed c =
    rw (sym c.over_limit.ensures ∙ c.if-over_limit.false, ne_eqb _ _ c.if-width-eq0.false, sym c.any_barred.ensures ∙ c.if-any_barred.false)
    (front-no-room (sequence_text _ _) _ _ c.sequence_length-needed.ensures (omega arith))

pub returns : goal.returns
unfolding sequence_written
returns c =
    rw (sym c.over_limit.ensures ∙ c.if-over_limit.false, ne_eqb _ _ c.if-width-eq0.false, sym c.any_barred.ensures ∙ c.if-any_barred.false)
    (sequence-put _ _ _ _ _ c.sequence_length-needed.ensures (omega arith) c.write_lines.ensures)
