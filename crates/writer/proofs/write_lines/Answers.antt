-- `writer::write_lines` meets its contract. The loop's invariant: the lines of the bases that are left, laid over the output from `place` on, are
-- all lines laid over the first output.
use Rattle.std.proofs.Common.{ℕ, ◌≤◌, ◌+◌, ◌≡◌, min, ap, ◌∙◌, arith, length, length-set}
use Rattle.std.specs.Slice.Iter.{chunks_rest}
use Rattle.columns.specs.Bytes.{overlaid-none}
use Rattle.writer.specs.Text.{sequence_text}
use Rattle.writer.specs.Laws.{text-none, line-size, line-put}
use Rattle.writer.proofs.write_lines.Goals as goal
use Rattle.writer.proofs.write_lines.Goals.{In-Some}

-- the line has as many bases as its width, or as are left
wide : (c : In-Some) → length c.in-Some.line.now ≡ min c.args.width (length (chunks_rest c.loop-line.line-iterator))
wide c = c.in-Some.ensures.steps.1.1 ∙ ap (λ (w : ℕ). min w (length (chunks_rest c.loop-line.line-iterator))) c.loop-line.invariant.0

-- the text of what is left is the line and the text behind it
size : (c : In-Some) → (let w = c.args.width in length (sequence_text w (chunks_rest c.loop-line.line-iterator)) ≡ length c.in-Some.line.now + 1 + length (sequence_text w (chunks_rest c.next.new.self)))
size c = let s = c.in-Some.ensures.steps in line-size c.args.width c.requires.width_nonzero _ _ _ s.1.0 (wide c) s.1.2

-- there is room for it
room : (c : In-Some) → c.loop-line.place + length (sequence_text c.args.width (chunks_rest c.loop-line.line-iterator)) ≤ length c.loop-line.out
room c = omega (arith, c.requires.bases_in_bounds, c.loop-line.invariant.1, c.loop-line.invariant.2)

pub put_bytes-requires : goal.put_bytes-requires
put_bytes-requires c = let l = (goal.at.put_bytes-requires c).In-Some in omega (arith, size l, room l)

pub bounds-out-place : goal.bounds-out-place
bounds-out-place c = let l = (goal.at.bounds-out-place c).In-Some in omega (arith, size l, room l)

pub loop-line-preserved : goal.loop-line-preserved
loop-line-preserved c =
    let l = (goal.at.loop-line-preserved c).In-Some in
    let s = c.in-Some.ensures.steps in
    let i = c.loop-line.invariant in (
      s.0 ∙ i.0,
      simp length-set (omega (arith, i.1)),
      omega (arith, size l, i.2),
      rw c.put_bytes.ensures (line-put c.args.width c.requires.width_nonzero _ _ _ s.1.0 (wide l) s.1.2 c.loop-line.out c.loop-line.place (room l)) ∙ i.3,
    )

pub returns : goal.returns
returns c =
    let e = text-none c.args.width (chunks_rest c.loop-line.line-iterator) c.in-None.ensures.steps.1.0 in
    overlaid-none c.loop-line.out c.loop-line.place ∙ rw e at c.loop-line.invariant.3
