-- `writer::write_lines` meets its contract. The loop's invariant: the lines of the bases that are left, laid over the output from `place` on, are
-- all lines laid over the first output.
use Rattle.std.proofs.Common.{◌+◌, ◌≡◌, length}
use Rattle.std.specs.Slice.Iter.{chunks_rest, chunks_size}
use Rattle.columns.specs.Bytes.{overlaid}
use Rattle.writer.specs.Text.{sequence_text}
use Rattle.writer.proofs.write_lines.Given as goal

abbrev pub invariant-loop-line : goal.invariant-loop-line
invariant-loop-line l =
    let rest = chunks_rest l.line-iterator in
    (chunks_size l.line-iterator ≡ l.width) × (length l.out ≡ length l.initial.out)
    × (l.place + length (sequence_text l.width rest) ≡ l.at + length (sequence_text l.width l.bases))
    × (overlaid l.out l.place (sequence_text l.width rest) ≡ overlaid l.initial.out l.at (sequence_text l.width l.bases))
